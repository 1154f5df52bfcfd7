-- Laws of a search among an instruction's registers.
use Rattle.std.proofs.Common.{◌≡◌, ℕ, Bool, ◌||◌, List, [], ◌∷◌, refl, ap}
use Rattle.std.specs.List.{list_any}
use Rattle.inst.specs.declared.Reg.{Reg}
use Rattle.roles.specs.Roles.{numbers_of}
use Rattle.procedure.specs.Lists.{any_of}

pub any_numbers : (p : ℕ → Bool) (l : List Reg) → list_any (λ r. p r.0) l ≡ any_of p (numbers_of l)
unfolding any_of
any_numbers p [] = refl
any_numbers p (x ∷ l) = ap (λ (b : Bool). p x.0 || b) (any_numbers p l)
