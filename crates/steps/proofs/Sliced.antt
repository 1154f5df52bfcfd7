-- Laws of `slice_tests`: what it looks at, the size of what it leaves, and that nothing changes where no Cmp is rewritten.
use Prim.Native.Nat.{ℕ, suc}
use native.Mathlib.Omega.{arith}
use mathlib.Core.Path.{◌≡◌, refl, ap}
use mathlib.Core.Bool.{false, true≢false}
use mathlib.Core.List.{List, [], ◌∷◌}
use lib.ListN.{length, length-append}
use Rattle.std.specs.Prelude.{Option, None, Some}
use Rattle.std.proofs.lemmas.Bool.{or_parts}
use Rattle.inst.specs.declared.Reg.{Reg}
use Rattle.inst.specs.declared.CmpOp.{CmpOp}
use Rattle.inst.specs.declared.Code.{Code}
use Rattle.inst.specs.declared.Inst.{Inst}
use Rattle.inst.specs.declared.Inst.TheVariants as i
use Rattle.procedure.specs.Lists.{any_of, joined}
use Rattle.steps.specs.Slice.{measure_of, Lengths, no_lengths, some, Test, rewritten_by}
use Rattle.steps.specs.Slice.{after, test_by, test_of, tests_from, sliced_from, tests_in, sliced_in, some_test}

-- an instruction is a Cmp, or none that is rewritten
pub data Looked (x : Inst) : Type 0 where
  cmp : (op : CmpOp) (d a z : Reg) → x ≡ i.Cmp op d a z → Looked x
  plain : ((kc : ℕ → Option ℕ) (ops : List ℕ) (k : Lengths) → test_by kc ops k (measure_of x) ≡ None) → Looked x

pub looked : (x : Inst) → Looked x
unfolding measure_of
looked (i.Const d v) = plain (λ kc ops k. refl)
looked (i.ConstF d v) = plain (λ kc ops k. refl)
looked (i.Move d s) = plain (λ kc ops k. refl)
looked (i.AddrOf d s f) = plain (λ kc ops k. refl)
looked (i.Select d c x y) = plain (λ kc ops k. refl)
looked (i.Cmp op d a z) = cmp op d a z refl
looked (i.Bool op d x y) = plain (λ kc ops k. refl)
looked (i.Bin op d x y) = plain (λ kc ops k. refl)
looked (i.BinRange op d x y l h w) = plain (λ kc ops k. refl)
looked (i.Load d a w) = plain (λ kc ops k. refl)
looked (i.Store a s w) = plain (λ kc ops k. refl)
looked (i.Check c v l h w) = plain (λ kc ops k. refl)
looked (i.MakeDope a p) = plain (λ kc ops k. refl)
looked (i.DopeLen d p n) = plain (λ kc ops k. refl)
looked (i.BoundsLen d l r e) = plain (λ kc ops k. refl)
looked (i.Alloc d s) = plain (λ kc ops k. refl)
looked (i.TakeBounds l r e) = plain (λ kc ops k. refl)
looked (i.CallNative n a d) = plain (λ kc ops k. refl)
looked (i.Br t) = plain (λ kc ops k. refl)
looked (i.CondBr c t f) = plain (λ kc ops k. refl)
looked (i.Case v t) = plain (λ kc ops k. refl)
looked (i.Ret v) = plain (λ kc ops k. refl)
looked (i.Unreachable w) = plain (λ kc ops k. refl)
looked i.Stmt = plain (λ kc ops k. refl)

module _ (kc : ℕ → Option ℕ) (ops : List ℕ) where
  pub sliced-length : (k : Lengths) (c : List Code) → length (sliced_from kc ops k c) ≡ length c
  unfolding sliced_from
  sliced-length k [] = refl
  sliced-length k (x ∷ c) = ap suc (sliced-length (after kc ops k x.inst) c)

  pub sliced_blocks : (P : List (List Code)) → length (sliced_in kc ops P) ≡ length P
  sliced_blocks [] = refl
  sliced_blocks (c ∷ P) = ap suc (sliced_blocks P)

  pub sliced_size : (P : List (List Code)) → length (joined (sliced_in kc ops P)) ≡ length (joined P)
  sliced_size [] = refl
  sliced_size (c ∷ P) =
      let s = sliced_from kc ops no_lengths c in
      let a = length-append s (joined (sliced_in kc ops P)) in
      let b = length-append c (joined P) in
      let d = sliced-length no_lengths c in
      let e = sliced_size P in
      omega arith

  untested : (k : Lengths) (c : List Code) → any_of some (tests_from kc ops k c) ≡ false → sliced_from kc ops k c ≡ c
  unfolding any_of tests_from sliced_from
  untested k [] e = refl
  untested k (x ∷ c) e = by (test_of kc ops k x) (or_parts _ _ e).0 (untested (after kc ops k x.inst) c (or_parts _ _ e).1)
    where
      by : (t : Option Test) → some t ≡ false → sliced_from kc ops (after kc ops k x.inst) c ≡ c
          → rewritten_by t x ∷ sliced_from kc ops (after kc ops k x.inst) c ≡ x ∷ c
      by None q ih = ap (λ y. x ∷ y) ih
      by (Some t) q ih = absurd (true≢false q)

  -- with no Cmp rewritten, every block stays
  pub untested_same : (P : List (List Code)) → some_test (tests_in kc ops P) ≡ false → sliced_in kc ops P ≡ P
  unfolding some_test any_of
  untested_same [] e = refl
  untested_same (c ∷ P) e =
      let t = or_parts (any_of some (tests_from kc ops no_lengths c)) _ e in
      cc (untested no_lengths c t.0, untested_same P t.1)
