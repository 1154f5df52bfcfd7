-- An old and a new number for each of some registers.
use Rattle.std.specs.Prelude.{ℕ, List, map}
use Rattle.inst.specs.declared.Reg.{Reg}

abbrev pub pairs_in : List (Reg × Reg) → List (ℕ × ℕ)
pairs_in l = map (λ x. (x.0.0, x.1.0)) l
