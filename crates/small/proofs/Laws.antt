-- Laws of the leaves: a search along a list, and the small blocks.
use Prim.Native.Nat.{ℕ, suc, ◌+◌, ◌/◌, ◌≤◌, ◌<◌}
use native.Mathlib.Numerals.{add-one}
use native.Mathlib.Omega.{arith}
use mathlib.Core.Path.{◌≡◌, refl, sym, ap, ◌∙◌}
use mathlib.Core.Bool.{Bool, true, false, ◌&&◌, ◌||◌, and-false, true≢false}
use mathlib.Core.List.{List, [], ◌∷◌}
use borrow.Author.Tests.{lt-leb, le-leb}
use lib.Dec.{leb, eqb}
use lib.ListN.{length}
use Rattle.std.proofs.lemmas.Bool.{or_left}
use Rattle.general.proofs.Booleans.{both, neither, otherwise}
use Rattle.inst.specs.declared.Code.{Code}
use Rattle.procedure.specs.Lists.{any_of}
use Rattle.steps.specs.Small.{copyable, small}
use Rattle.procedure.specs.Procedure.{codes_of}
use Rattle.ends.specs.declared.End.{End}
use Rattle.ends.specs.Forms.{form_of}
use Rattle.ends.proofs.Laws.{length_codes}
use Rattle.ends.specs.Ends.{end_of}
use Rattle.inst.specs.Inst.{kind_of}
use Rattle.inst.specs.declared.Inst.{Inst}
use Rattle.inst.specs.declared.Inst.TheVariants as i
use Rattle.steps.specs.Small as s

pub copyable-none : (c : List Code) → length c ≡ 0 → copyable c ≡ false
unfolding copyable
copyable-none [] e = refl
copyable-none (x ∷ c) e = absurd (omega arith)

-- the tests of a small block, in their order
module _ (c : List Code) where
  pub too_long : 4 < length c → false ≡ small c
  unfolding small
  too_long h = neither _ refl (lt-leb (length c) 4 h)

  pub empty_code : length c ≡ 0 → false ≡ small c
  unfolding small
  empty_code h = sym (ap (λ (b : Bool). leb (length c) 4 && b) (copyable-none c h) ∙ and-false (leb (length c) 4))

  pub short-code : {x : Bool} → length c ≤ 4 → x ≡ copyable c → x ≡ small c
  unfolding small
  short-code h e = both refl (le-leb (length c) 4 h) e

-- Bin and BinRange
abbrev pub bin_kind : ℕ → Bool
bin_kind k = eqb k 7 || eqb k 8

pub no_step : (wide : Bool) (x : Inst) → bin_kind (kind_of x) ≡ false → s.step_by wide x ≡ false
unfolding s.step_by form_of
no_step wide (i.Const d v) q = refl
no_step wide (i.ConstF d v) q = refl
no_step wide (i.Move d s) q = refl
no_step wide (i.AddrOf d s f) q = refl
no_step wide (i.Select d c x y) q = refl
no_step wide (i.Cmp op d x y) q = refl
no_step wide (i.Bool op d x y) q = refl
no_step wide (i.Bin op d x y) q = absurd (true≢false q)
no_step wide (i.BinRange op d x y l h w) q = absurd (true≢false q)
no_step wide (i.Load d a w) q = refl
no_step wide (i.Store a s w) q = refl
no_step wide (i.Check c v l h w) q = refl
no_step wide (i.MakeDope a p) q = refl
no_step wide (i.DopeLen d p n) q = refl
no_step wide (i.BoundsLen d l r e) q = refl
no_step wide (i.Alloc d s) q = refl
no_step wide (i.TakeBounds l r e) q = refl
no_step wide (i.CallNative n a d) q = refl
no_step wide (i.Br t) q = refl
no_step wide (i.CondBr c t f) q = refl
no_step wide (i.Case v t) q = refl
no_step wide (i.Ret v) q = refl
no_step wide (i.Unreachable w) q = refl
no_step wide i.Stmt q = refl

-- two instructions that end in a Br, as the code tells it
pub two_told : (b : List ℕ) {e : End} {z : Bool} → e ≡ end_of (codes_of b) → z ≡ (eqb (length b / 32) 2 && s.is_br e)
    → (eqb (length (codes_of b)) 2 && s.is_br (end_of (codes_of b))) ≡ z
two_told b p q = sym (q ∙ rw (p, ← length_codes b) refl)

-- a CondBr with an arm to the next block, as the code tells it
pub next-told : {e e' : End} {z : Bool} (l : ℕ) → e ≡ e' → z ≡ s.tests_into (l + 1) e → s.tests_into (suc l) e' ≡ z
next-told l p q = sym (q ∙ rw (p, add-one l) refl)

-- the shape of a step block, by its tests in their order
module _ (wide : Bool) (l : ℕ) (c : List Code) where
  abbrev pub two : Bool
  two = eqb (length c) 2 && s.is_br (end_of c)

  pub shape_two : two ≡ true → true ≡ s.step_shape wide l c
  shape_two e = sym (or_left _ _ e)

  pub shape_narrow : two ≡ false → wide ≡ false → false ≡ s.step_shape wide l c
  shape_narrow e f = otherwise e (sym (rw f))

  pub shape_long : two ≡ false → wide ≡ true → 4 < length c → false ≡ s.step_shape wide l c
  shape_long e f h = otherwise e (sym (rw (f, lt-leb (length c) 4 h)))

  pub shape_back : {x : Bool} → two ≡ false → wide ≡ true → length c ≤ 4 → x ≡ s.jumps_back l (end_of c) → x ≡ s.step_shape wide l c
  shape_back e f h g = otherwise e (g ∙ sym (rw (f, le-leb (length c) 4 h)))

-- a latch, by its tests in their order
module _ (code next : List Code) (l : ℕ) (wide : Bool) where
  pub no_test : s.tests_into (suc l) (end_of code) ≡ false → false ≡ s.latch code next l wide
  unfolding s.latch
  no_test e = neither _ refl e

  pub no_shape : s.tests_into (suc l) (end_of code) ≡ true → s.step_shape wide l next ≡ false → false ≡ s.latch code next l wide
  unfolding s.latch s.step_block
  no_shape e f = both refl e (neither _ refl f)

  pub step-found : {x : Bool} → s.tests_into (suc l) (end_of code) ≡ true → s.step_shape wide l next ≡ true
      → x ≡ any_of (λ y. s.step_by wide y.inst) next → x ≡ s.latch code next l wide
  unfolding s.latch s.step_block
  step-found e f g = both refl e (both refl f g)
