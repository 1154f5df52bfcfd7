-- A block table with one block pointed elsewhere: the other blocks stay where they were.
use Prim.Native.Nat.{ℕ, ◌-◌, ◌/◌, ◌≤◌, ◌<◌, ◌^◌}
use native.Mathlib.Omega.{arith}
use mathlib.Core.Path.{◌≡◌, refl, sym, ap, subst, ◌∙◌}
use mathlib.Core.Bool.{Bool, true, false}
use mathlib.Core.List.{List}
use mathlib.Core.Logic.{◌⊎◌, inl, inr}
use borrow.Author.Tests.{eqb-true, eqb-false}
use lib.Dec.{eqb, lit<}
use lib.ListN.{length, take, drop, set}
use lib.Seq.{take-take}
use Rattle.general.proofs.Numbers.{order}
use Rattle.general.proofs.Lists.{drop-take}
use Rattle.records.specs.declared.Record.{Record}
use Rattle.records.specs.Record.{records_of, record_at}
use Rattle.records.proofs.Laws.{length_records}
use Rattle.put_record.specs.Store.{Fits}
use Rattle.put_record.proofs.Laws.{put_same, put_other, put-length}
use Rattle.read.specs.Structure.{code_of as recordsOfBlock}
use Rattle.items.specs.Items.{block_record}
use Rattle.blocks.specs.Blocks.{block_records_in}
use Rattle.blocks.specs.Rewrite.{Holds, Apart}
use Rattle.blocks.proofs.Apart.{map-one}
use Rattle.arena.specs.Arena.{pointed}

abbrev pub block_at : ℕ → ℕ → Record
block_at start end = block_record (record { start = start; end = end })

fits-block : (start end : ℕ) → start < 2 ^ 32 → end < 2 ^ 32 → Fits (block_at start end)
fits-block start end s e = record {
  class = lit< tt;
  kind = lit< tt;
  op = lit< tt;
  zero = lit< tt;
  stmt = lit< tt;
  p1 = s;
  p2 = e;
  p3 = lit< tt;
  p4 = lit< tt;
  p5 = lit< tt;
  p6 = lit< tt;
}

module _ (table : List ℕ) (k start end : ℕ) where
  pub pointed-there : k < length table / 32 → start < 2 ^ 32 → end < 2 ^ 32 → record_at (pointed table k start end) k ≡ block_at start end
  pointed-there h s e = put_same table k (block_at start end) h (fits-block start end s e)

  pub pointed-other : (j : ℕ) → (j ≡ k → ⊥) → record_at (pointed table k start end) j ≡ record_at table j
  pointed-other j n = put_other table k (block_at start end) j n

  pub pointed-length : length (records_of (pointed table k start end)) ≡ length (records_of table)
  pointed-length =
      length_records (pointed table k start end)
      ∙ ap (λ (n : ℕ). n / 32) (put-length table k (block_at start end))
      ∙ sym (length_records table)

-- the blocks, where all but block k hold what they held
pub blocks_with : (work work' table table' : List ℕ) (k : ℕ) (v : List Record) → length (records_of table') ≡ length (records_of table)
    → ((j : ℕ) → (j ≡ k → ⊥) → recordsOfBlock (records_of work') (record_at table' j) ≡ recordsOfBlock (records_of work) (record_at table j))
    → recordsOfBlock (records_of work') (record_at table' k) ≡ v
    → block_records_in work' table' ≡ set (block_records_in work table) k v
blocks_with work work' table table' k v e o s =
    map-one (recordsOfBlock (records_of work)) (recordsOfBlock (records_of work')) (records_of table) (records_of table') k v e o (λ h. s)

-- blocks stay apart where all but block k stay, lie below m and clear of it
module _
    (n m : ℕ)
    (table table' : List ℕ)
    (k : ℕ)
    (a : Apart n table)
    (o : (j : ℕ) → (j ≡ k → ⊥) → record_at table' j ≡ record_at table j)
    (w : (x : ℕ) → Holds (record_at table' k) x → x < m)
    (c : (j x : ℕ) → (j ≡ k → ⊥) → Holds (record_at table j) x → (x < m) × (Holds (record_at table' k) x → ⊥))
  where
    old : (j x : ℕ) → (j ≡ k → ⊥) → Holds (record_at table' j) x → Holds (record_at table j) x
    old j x ne h = subst (λ (r : Record). Holds r x) (o j ne) h

    here : {j : ℕ} (x : ℕ) → j ≡ k → Holds (record_at table' j) x → Holds (record_at table' k) x
    here x e h = subst (λ (i : ℕ). Holds (record_at table' i) x) e h

    within' : (j x : ℕ) → Holds (record_at table' j) x → x < m
    within' j x h = go (eqb j k) refl
      where
        go : (t : Bool) → eqb j k ≡ t → x < m
        go true e = w x (here x (eqb-true j k e) h)
        go false e = (c j x (eqb-false j k e) (old j x (eqb-false j k e) h)).0

    alone' : (i j x : ℕ) → Holds (record_at table' i) x → Holds (record_at table' j) x → i ≡ j
    alone' i j x g h = go (eqb i k) (eqb j k) refl refl
      where
        go : (t u : Bool) → eqb i k ≡ t → eqb j k ≡ u → i ≡ j
        go true true e f = eqb-true i k e ∙ sym (eqb-true j k f)
        go true false e f = absurd ((c j x (eqb-false j k f) (old j x (eqb-false j k f) h)).1 (here x (eqb-true i k e) g))
        go false true e f = absurd ((c i x (eqb-false i k e) (old i x (eqb-false i k e) g)).1 (here x (eqb-true j k f) h))
        go false false e f = a.alone i j x (old i x (eqb-false i k e) g) (old j x (eqb-false j k f) h)

    pub apart_with : Apart m table'
    apart_with = record { within = within'; alone = alone' }

-- a part below a place where two lists agree
pub part-below : {A : Type 0} (n s e : ℕ) (l m : List A) → take n l ≡ take n m → (s < e → e ≤ n) → take (e - s) (drop s l) ≡ take (e - s) (drop s m)
part-below n s e l m q h = go (order s e)
  where
    go : (s < e) ⊎ (e ≤ s) → take (e - s) (drop s l) ≡ take (e - s) (drop s m)
    go (inr i) = let z : e - s ≡ 0 = omega arith in rw z
    go (inl i) =
        let t = h i in
        sym (drop-take s e l)
        ∙ ap (drop s) (sym (take-take e n l t) ∙ ap (take e) q ∙ take-take e n m t)
        ∙ drop-take s e m
