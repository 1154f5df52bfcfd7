-- What becomes of an instruction in the copy, by the tests in their order.
use Prim.Native.Nat.{ℕ, ◌≤◌}
use native.Mathlib.Omega.{arith}
use mathlib.Core.Path.{◌≡◌, sym, ap}
use mathlib.Core.Bool.{true, false}
use mathlib.Core.List.{List, [], ◌∷◌}
use borrow.Author.Tests.{eq-eqb, ne_eqb}
use lib.ListN.{length, get_or}
use Rattle.inst.specs.declared.Reg.{Reg}
use Rattle.inst.specs.declared.Inst.{Inst}
use Rattle.roles.specs.Roles.{defs_of, numbers_of, reg_of}
use Rattle.ends.specs.Forms.{Fixed, fixed_of}
use Rattle.steps.specs.Facts.{Facts}
use Rattle.steps.specs.Copy.{left_out, renumbered, kept, how_written, how_of}
use Rattle.copy.specs.Storage.{is_const, how_one}

module _ (uses own d : ℕ) (x : Fixed) where
  pub one_left : is_const x ≡ true → left_out ≡ how_one uses own d x
  one_left e = rw e

  pub one-new : is_const x ≡ false → uses ≡ own → renumbered d ≡ how_one uses own d x
  one-new e q = rw (e, eq-eqb uses own q)

  pub one_kept : is_const x ≡ false → (uses ≡ own → ⊥) → kept ≡ how_one uses own d x
  one_kept e q = rw (e, ne_eqb uses own q)

-- by what an instruction writes
by_defs : (f : Facts) (own : ℕ → ℕ) (x : Inst) {l : List ℕ} → defs_of x ≡ l → how_written f own (fixed_of x) l ≡ how_of f own x
unfolding how_of
by_defs f own x e = ap (how_written f own (fixed_of x)) (sym e)

-- only the first register written is looked at
module _ (f : Facts) (own : ℕ → ℕ) (x : Inst) where
  pub how-none : (w : List Reg) → numbers_of w ≡ defs_of x → length w ≤ 0 → kept ≡ how_of f own x
  how-none [] e h = by_defs f own x (sym e)
  how-none (r ∷ w) e h = absurd (omega arith)

  pub how_some : (w : List Reg) → numbers_of w ≡ defs_of x → 1 ≤ length w
      → how_written f own (fixed_of x) ((get_or w 0 (reg_of 0)).0 ∷ []) ≡ how_of f own x
  how_some [] e h = absurd (omega arith)
  how_some (r ∷ w) e h = by_defs f own x (sym e)
