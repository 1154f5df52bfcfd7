-- What the theorem asks of a procedure. That of a tidy file that Read accepts has it.
use Rattle.std.specs.Prelude.{ℕ, ◌<◌, ◌≡◌, ◌⊎◌, List, [], ◌∷◌, ◌++◌, true, false, length, get_or}
use Rattle.inst.specs.declared.Code.{Code}
use Rattle.procedure.specs.Procedure.{Procedure}
use Rattle.procedure.specs.Lists.{joined}
use Rattle.procedure.specs.Counts.{singly}
use Rattle.ends.specs.Forms.{fixed_of, is_fixed}
use Rattle.ends.specs.Ends.{terminator_of}
use Rattle.demand.specs.Setting.{In, Each, Front, defs_at, reads_at, Exposed}

-- every register exists, and each block ends "in its only terminator"
pub record Whole (p : Procedure) : Type 0 where
  pub exist : (b : ℕ) → Each (λ x. (r : ℕ) → In r (defs_at x) ⊎ In r (reads_at p.operands x) → r < length p.registers) (get_or p.blocks b [])
  pub formed : (b : ℕ) → Front (λ x. terminator_of x.inst ≡ false) (get_or p.blocks b [])
  pub ends : (b : ℕ) (c : List Code) (x : Code) → get_or p.blocks b [] ≡ c ++ (x ∷ []) → terminator_of x.inst ≡ true

-- "any other register written by exactly one register field is read only later in that same block": no block reads it before it is written there
abbrev pub Inside : Procedure → Type 0
Inside p =
    (r : ℕ) → r < length p.registers → singly (joined p.blocks) r ≡ true
    → Each (λ x. In r (defs_at x) → is_fixed (fixed_of x.inst) ≡ false) (joined p.blocks)
    → (b : ℕ) → Exposed p.operands (get_or p.blocks b []) r → ⊥
