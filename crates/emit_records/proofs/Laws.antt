-- Laws of the emit step over bytes: which blocks stay, what is rescued, and records written one after the other.
use Prim.Native.Nat.{ℕ, ◌+◌, ◌/◌, ◌≤◌, ◌<◌}
use native.Mathlib.Numerals.{add-one}
use native.Mathlib.Omega.{arith}
use mathlib.Core.Path.{◌≡◌, refl, sym, ap, ◌∙◌}
use mathlib.Core.Bool.{Bool, true, false, cond, or-false}
use mathlib.Core.List.{List, [], ◌∷◌, map}
use mathlib.Core.Logic.{◌⊎◌, inl, inr}
use Rattle.std.proofs.Common.{Option}
use borrow.Author.Tests.{lt-ltb, le-ltb}
use lib.ListN.{length, get_or, drop, drop_of_length-le}
use lib.Seq.{drop-cons}
use Rattle.general.proofs.Numbers.{order}
use Rattle.records.specs.declared.Record.{Record}
use Rattle.records.specs.Record.{blank}
use Rattle.put_record.specs.Store.{put_of}
use Rattle.inst.specs.declared.Code.{Code}
use Rattle.inst.specs.declared.Reg.{Reg}
use Rattle.inst.specs.declared.AddrSpace.{AddrSpace}
use Rattle.real.specs.declared.Real.{Real}
use Rattle.inst.specs.declared.Inst.TheVariants as i
use Rattle.codec.specs.Codec.{inst_of, code_of}
use Rattle.codec.proofs.Table.{inst-at}
use Rattle.ends.specs.Forms.{form_of, fixed_of}
use Rattle.steps.specs.Emit.{is_last, stays, rescued_of}
use Rattle.procedure.specs.Lists.{any_of}
use Rattle.facts.specs.Storage.{facts_in, single_in}
use Rattle.emit_records.specs.Emitted.{rescued_by, rescued_in, stays_by, place, put}

-- each of the three is rescued where its register is single
module _ (facts : List ℕ) (d : Reg) where
  const-rescued : (v : ℕ) → single_in facts d.0 ≡ rescued_by facts (i.Const d v)
  unfolding fixed_of form_of any_of
  const-rescued v = sym (or-false (single_in facts d.0))

  real-rescued : (v : Real) → single_in facts d.0 ≡ rescued_by facts (i.ConstF d v)
  unfolding fixed_of form_of any_of
  real-rescued v = sym (or-false (single_in facts d.0))

  address-rescued : (s : AddrSpace) (o : ℕ) → single_in facts d.0 ≡ rescued_by facts (i.AddrOf d s o)
  unfolding fixed_of form_of any_of
  address-rescued s o = sym (or-false (single_in facts d.0))

-- the same of a record, by its kind
module _ (facts : List ℕ) (r : Record) where
  pub low-rescued : r.kind < 2 → single_in facts r.p1 ≡ rescued_by facts (inst_of r)
  low-rescued h = go (order r.kind 1)
    where
      go : (r.kind < 1) ⊎ (1 ≤ r.kind) → single_in facts r.p1 ≡ rescued_by facts (inst_of r)
      go (inl i) = const-rescued facts _ _ ∙ ap (rescued_by facts) (inst-at r 0 (omega arith))
      go (inr i) = real-rescued facts _ _ ∙ ap (rescued_by facts) (inst-at r 1 (omega arith))

  pub third_rescued : r.kind ≡ 3 → single_in facts r.p1 ≡ rescued_by facts (inst_of r)
  third_rescued e = address-rescued facts _ _ _ ∙ ap (rescued_by facts) (inst-at r 3 e)

-- whether a block stays, as steps says it
pub stays-told : (mark : Bool) (after : List (List Code)) (c : List Code) → stays mark after c ≡ stays_by mark (is_last after) c
unfolding stays
stays-told mark after c = refl

-- what is rescued, one record more
module _ (facts : List ℕ) (rs : List Record) (k : ℕ) where
  pub rescued-one : k < length rs → rescued_by facts (inst_of (get_or rs k blank)) ≡ true
      → rescued_in facts (drop k rs) ≡ get_or rs k blank ∷ rescued_in facts (drop (k + 1) rs)
  unfolding rescued_in
  rescued-one h e = ap (rescued_in facts) (drop-cons rs k blank h) ∙ rw (e, add-one k)

  pub rescued_pass : k < length rs → rescued_by facts (inst_of (get_or rs k blank)) ≡ false
      → rescued_in facts (drop k rs) ≡ rescued_in facts (drop (k + 1) rs)
  unfolding rescued_in
  rescued_pass h e = ap (rescued_in facts) (drop-cons rs k blank h) ∙ rw (e, add-one k)

  pub rescued-end : length rs ≤ k → rescued_in facts (drop k rs) ≡ []
  unfolding rescued_in
  rescued-end h = ap (rescued_in facts) (drop_of_length-le rs h)

-- the rescued records hold the rescued instructions
pub rescued_codes : (facts : List ℕ) (body : Option ℕ) (budget : ℕ) (rs : List Record)
    → map code_of (rescued_in facts rs) ≡ rescued_of (facts_in facts body budget) (map code_of rs)
unfolding rescued_in rescued_of
rescued_codes facts body budget [] = refl
rescued_codes facts body budget (r ∷ rs) = by (rescued_by facts (inst_of r)) (rescued_codes facts body budget rs)
  where
    by : (b : Bool) {l : List Code} → map code_of (rescued_in facts rs) ≡ l
        → map code_of (cond b (r ∷ rescued_in facts rs) (rescued_in facts rs)) ≡ cond b (code_of r ∷ l) l
    by true e = ap (λ (t : List Code). code_of r ∷ t) e
    by false e = e

-- a record written
module _ (b : List ℕ) (at : ℕ) (r : Record) where
  pub put_in : at < length b / 32 → place (put_of b at r) (at + 1) ≡ put r (place b at)
  unfolding put
  put_in h = rw (lt-ltb at (length b / 32) h)

  pub put_full : length b / 32 ≤ at → place b at ≡ put r (place b at)
  unfolding put
  put_full h = rw (le-ltb at (length b / 32) h)
