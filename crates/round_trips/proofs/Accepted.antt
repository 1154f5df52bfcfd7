-- The seven conditions of Read, as facts of a file's records.
use Prim.Native.Nat.{ℕ, ◌%◌, ◌≤◌}
use native.Mathlib.Omega.{arith}
use mathlib.Core.Path.{◌≡◌, refl, sym}
use mathlib.Core.Bool.{true, false, not}
use mathlib.Core.List.{List}
use borrow.Author.Tests.{ltb-false, eqb-true, eqb-false, eq-eqb, ne_eqb, le-ltb, not-false}
use lib.Dec.{eqb, ltb}
use lib.ListN.{length}
use native.Mathlib.Nat.{le_antisymm}
pub use Rattle.general.proofs.Booleans.{or_first, or_second}
use Rattle.records.specs.declared.Record.{Record}
use Rattle.records.specs.Record.{records_of}
use Rattle.record_rules.specs.Exist.{names_exist}
use Rattle.layout.specs.Classes.{of_class, ordered, before, in_order}
use Rattle.layout.proofs.Walks.{walk_le, lead_le}
use Rattle.read.specs.Structure.{tiles, next_block, tiled, ends_well, ended, numbers, next_arm, numbered, code_of as recordsOfBlock}
use Rattle.read.specs.Reading.{answer, checked, read_records, read_blocks, read_tables, counts_of, named, beyond, beyond_limit, wrong_length}
use Rattle.read.proofs.Laid.{passed, held, pass_on}
use Rattle.round_trips.specs.WellFormed.{All}
use Rattle.round_trips.proofs.Lists.{lead-all, all-lead}
use Rattle.round_trips.proofs.Sections.{InOrder}
use Rattle.round_trips.proofs.Blocks.{Tiled}
use Rattle.read.proofs.Laws.{Numbered}

-- how many records a class has
abbrev pub sized : ℕ → List Record → ℕ
sized c rs = length (of_class c rs)

-- condition 3, of the number of records of each class
pub record Within (a b c d e f : ℕ) : Type 0 where
  pub registers : a ≤ 756
  pub blocks : b ≤ 160
  pub some_block : 1 ≤ b
  pub bodies : c ≤ 1
  pub code : d ≤ 756
  pub operands : e ≤ 128
  pub arms : f ≤ 128

-- conditions 2 to 7
pub record Accepted (rs : List Record) : Type 0 where
  pub order : InOrder 1 rs
  pub within : Within (sized 1 rs) (sized 2 rs) (sized 3 rs) (sized 4 rs) (sized 5 rs) (sized 6 rs)
  pub tile : Tiled (length (of_class 4 rs)) 0 (of_class 2 rs)
  pub end : All (λ r. ends_well (recordsOfBlock (of_class 4 rs) r) ≡ true) (of_class 2 rs)
  pub number : Numbered 0 (of_class 6 rs)
  pub name : All (λ r. names_exist (counts_of rs) r ≡ true) rs

module _ (a b c d e f : ℕ) where
  within_of : beyond a b c d e f ≡ false → Within a b c d e f
  within_of h =
      let h2 = or_second (ltb 756 a) _ h in
      let h3 = or_second (ltb 160 b) _ h2 in
      let h4 = or_second (eqb b 0) _ h3 in
      let h5 = or_second (ltb 1 c) _ h4 in
      let h6 = or_second (ltb 756 d) _ h5 in
      let n = eqb-false b 0 (or_first (eqb b 0) _ h3) in
      record {
        registers = ltb-false 756 a (or_first (ltb 756 a) _ h);
        blocks = ltb-false 160 b (or_first (ltb 160 b) _ h2);
        some_block = omega arith;
        bodies = ltb-false 1 c (or_first (ltb 1 c) _ h4);
        code = ltb-false 756 d (or_first (ltb 756 d) _ h5);
        operands = ltb-false 128 e (or_first (ltb 128 e) _ h6);
        arms = ltb-false 128 f (or_second (ltb 128 e) _ h6);
      }

  of_within : Within a b c d e f → beyond a b c d e f ≡ false
  of_within w =
      let s = w.some_block in
      rw (le-ltb 756 a w.registers, le-ltb 160 b w.blocks, ne_eqb b 0 (λ i. omega arith), le-ltb 1 c w.bodies)
      (rw (le-ltb 756 d w.code, le-ltb 128 e w.operands, le-ltb 128 f w.arms))

module _ (rs : List Record) where
  abbrev C : List Record
  C = of_class 4 rs

  abbrev B : List Record
  B = of_class 2 rs

  abbrev A : List Record
  A = of_class 6 rs

  records_accepted : (read_records rs).number ≡ 0 → Accepted rs
  unfolding read_records read_blocks read_tables
  records_accepted e =
      let two = passed 2 0 (ordered rs) (length rs) _ (omega arith) e in
      let three = held (beyond_limit rs) 3 0 _ (omega arith) two.1 in
      let four = passed 4 _ (tiled (length C) B) (length B) _ (omega arith) three.1 in
      let five = passed 5 _ (ended C B) (length B) _ (omega arith) four.1 in
      let six = passed 6 _ (numbered A) (length A) _ (omega arith) five.1 in
      let seven = passed 7 0 (named rs) (length rs) _ (omega arith) six.1 in
      record {
        order = le_antisymm (walk_le in_order (λ prev r. r.class) 1 rs) two.0;
        within = within_of _ _ _ _ _ _ three.0;
        tile = le_antisymm (walk_le (tiles (length C)) next_block (0, length B) B) four.0;
        end = all-lead (λ r. ends_well (recordsOfBlock C r)) B (le_antisymm (lead_le (λ r. ends_well (recordsOfBlock C r)) B) five.0);
        number = le_antisymm (walk_le numbers next_arm (0, length A) A) six.0;
        name = all-lead (names_exist (counts_of rs)) rs (le_antisymm (lead_le (names_exist (counts_of rs)) rs) seven.0);
      }

  at_least : {k n : ℕ} → k ≡ n → n ≤ k
  at_least e = omega arith

  accepted_records : Accepted rs → read_records rs ≡ answer 0 0
  unfolding read_records read_blocks read_tables
  accepted_records a =
      sym
      (pass_on 2 0 (ordered rs) (length rs) (at_least a.order)
      (rw (of_within _ _ _ _ _ _ a.within)
      (pass_on 4 (before 2 rs) (tiled (length C) B) (length B) (at_least a.tile)
      (pass_on 5 (before 2 rs) (ended C B) (length B) (at_least (lead-all (λ r. ends_well (recordsOfBlock C r)) B a.end))
      (pass_on 6 (before 6 rs) (numbered A) (length A) (at_least a.number)
      (pass_on 7 0 (named rs) (length rs) (at_least (lead-all (names_exist (counts_of rs)) rs a.name)) refl))))))

module _ (b : List ℕ) where
  pub read_accepted : (checked b).number ≡ 0 → (length b % 32 ≡ 0) × (length b ≤ 65536) × Accepted (records_of b)
  unfolding checked
  read_accepted e =
      let one = held (wrong_length b) 1 0 (read_records (records_of b)) (omega arith) e in
      let m = or_first (not (eqb (length b % 32) 0)) _ one.0 in
      let s = or_second (not (eqb (length b % 32) 0)) _ one.0 in
      (eqb-true (length b % 32) 0 (not-false (eqb (length b % 32) 0) m), ltb-false 65536 (length b) s, records_accepted (records_of b) one.1)

  pub accepted_read : length b % 32 ≡ 0 → length b ≤ 65536 → Accepted (records_of b) → checked b ≡ answer 0 0
  unfolding checked
  accepted_read m s a = rw (eq-eqb (length b % 32) 0 m, le-ltb 65536 (length b) s) (accepted_records (records_of b) a)
