-- Laws of the targets noted block by block.
use Prim.Native.Nat.{ℕ, ◌+◌, ◌-◌, ◌≤◌, ◌<◌}
use native.Mathlib.Omega.{arith}
use mathlib.Core.Path.{◌≡◌, sym, ap, subst, ◌∙◌}
use mathlib.Core.Bool.{true, false}
use mathlib.Core.List.{List, [], map}
use mathlib.Core.Logic.{⊎_elim}
use borrow.Author.Tests.{eqb-true, eqb-false, ltb-true, ltb-false}
use lib.Dec.{eqb, ltb}
use lib.ListN.{length, get_or, set, replicate, length-map, get_or-replicate, get_or-map, get_or-eq_default}
use lib.Seq.{get_or-set_same, get_or-set_other}
use Rattle.records.specs.declared.Record.{Record}
use Rattle.records.specs.Record.{blank}
use Rattle.layout.specs.declared.Layout.{Layout}
use Rattle.general.proofs.Booleans.{cases}
use Rattle.general.proofs.Lists.{get_d_any}
use Rattle.read.specs.Work.{part}
use Rattle.read.proofs.Laws.{part_length, part_at}
use Rattle.inst.specs.declared.Code.{Code}
use Rattle.codec.specs.Codec.{code_of}
use Rattle.ends.specs.Ends.{view_of, end_of, targets}
use Rattle.ends.proofs.Laws.{end-last}
use Rattle.tidy.specs.declared.targets.Targets.{Targets}
use Rattle.tidy.specs.Work.Parts.{block_records, block_code, blocks_in, Fit, BlockPart}
use Rattle.tidy.specs.Work.Marks.{nowhere, Pair, PairAt, targets_at, TargetsIn}
use Rattle.tidy.proofs.Tables.{blocks-length}

-- the end of a block is that of its last record
module _ {rs : List Record} {l : Layout} (h : Fit rs l) (k : ℕ) (i : k < l.bodies - l.blocks) {first count : ℕ} (p : BlockPart rs l k first count) where
  block-is : get_or (blocks_in rs l) k [] ≡ map code_of (part first count rs)
  block-is =
      let f = block_code rs l in
      let bs = block_records rs l in
      get_d_any (map f bs) k [] (f blank) (rw (length-map bs f, blocks-length h) i)
      ∙ get_or-map f bs k blank
      ∙ sym p.code

  pub block-end : end_of (get_or (blocks_in rs l) k []) ≡ view_of (code_of (get_or rs (first + count - 1) blank)).inst
  block-end =
      let q = part first count rs in
      let n = count - 1 in
      let z = p.some in
      let m = part_length rs first count p.within in
      let at : first + n ≡ first + count - 1 = omega arith in
      ap end_of block-is
      ∙ end-last (map code_of q) n (length-map q code_of ∙ m ∙ omega arith)
      ∙ ap (λ (c : Code). view_of c.inst)
      (get_or-map code_of q n blank
      ∙ ap code_of (part_at rs first count p.within n (omega arith))
      ∙ ap (λ (j : ℕ). code_of (get_or rs j blank)) at)

-- the targets of the blocks below k, and none of the others
module _ (rs : List Record) (l : Layout) where
  abbrev pub None : List Targets → ℕ → Type 0
  None ts a = let t = get_or ts a nowhere in (t.one.0 ≡ 160) × (t.two.0 ≡ 160)

  abbrev pub Noted : ℕ → List Targets → Type 0
  Noted k ts = (a : ℕ) → a < 160 → (a < k → PairAt (targets_at rs l a) ts a) × (k ≤ a → None ts a)

  pub none-noted : {ts : List Targets} → ts ≡ replicate 160 nowhere → Noted 0 ts
  none-noted {ts} e a h =
      let at : get_or ts a nowhere ≡ nowhere = ap (λ (t : List Targets). get_or t a nowhere) e ∙ get_or-replicate 160 a nowhere nowhere h in
      (λ i. absurd (omega arith), λ i. (ap (λ (t : Targets). t.one.0) at, ap (λ (t : Targets). t.two.0) at))

  pub more-noted :
      (k : ℕ) (ts : List Targets) (x : Targets)
      → length ts ≡ 160
      → k < 160
      → Noted k ts
      → Pair (targets_at rs l k) x
      → Noted (k + 1) (set ts k x)
  more-noted k ts x s h n p a i =
      ⊎_elim (λ (e : eqb a k ≡ true). same (eqb-true a k e)) (λ (e : eqb a k ≡ false). other (eqb-false a k e)) (cases (eqb a k))
    where
      At : ℕ → Type 0
      At b = (b < k + 1 → PairAt (targets_at rs l b) (set ts k x) b) × (k + 1 ≤ b → None (set ts k x) b)

      same : a ≡ k → At a
      same e =
          let one : get_or (set ts k x) k nowhere ≡ x = get_or-set_same ts k x nowhere (omega arith) in
          rw e (λ j. rw one p, λ j. absurd (omega arith))

      other : (a ≡ k → ⊥) → At a
      other e = rw (get_or-set_other ts k a x nowhere e) (λ j. (n a i).0 (omega arith), λ j. (n a i).1 (omega arith))

  pub all_noted : Fit rs l → (k : ℕ) (ts : List Targets) → length ts ≡ 160 → l.bodies - l.blocks ≤ k → Noted k ts → TargetsIn rs l ts
  unfolding end_of
  all_noted h k ts s i n = record {
    size = s;
    each = λ a j. ⊎_elim (λ (e : ltb a k ≡ true). (n a j).0 (ltb-true a k e))
        (λ (e : ltb a k ≡ false). past a j (ltb-false a k e)) (cases (ltb a k));
  }
    where
      none-there : (a : ℕ) → k ≤ a → targets_at rs l a ≡ []
      none-there a e =
          let m = length-map (block_records rs l) (block_code rs l) in
          let q = blocks-length h in
          ap (λ (c : List Code). targets (end_of c)) (get_or-eq_default (blocks_in rs l) [] {n = a} (omega arith))

      past : (a : ℕ) → a < 160 → k ≤ a → PairAt (targets_at rs l a) ts a
      past a j e = subst (λ (es : List ℕ). PairAt es ts a) (sym (none-there a e)) ((n a j).1 e)
