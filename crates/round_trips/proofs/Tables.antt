-- Tables and their arms, both ways.
use Prim.Native.Nat.{ℕ, suc, ◌+◌, ◌-◌, ◌≤◌, ◌<◌, ◌^◌}
use native.Mathlib.Nat.{add-zero}
use native.Mathlib.Omega.{arith}
use mathlib.Core.Path.{◌≡◌, refl, sym, ap, ◌∙◌}
use mathlib.Core.Bool.{Bool, true, false, cond, true≢false, false≢true}
use mathlib.Core.List.{List, [], ◌∷◌, ◌++◌, map, append-nil, append_assoc}
use mathlib.Core.Logic.{◌⊎◌, inl, inr}
use borrow.Author.Tests.{eqb-true, eq-eqb}
use lib.Dec.{eqb, ltb}
use lib.ListN.{length, length-append, length-map}
use Rattle.general.proofs.Booleans.{cases, and_first, and_second}
use Rattle.records.specs.declared.Record.{Record}
use Rattle.records.specs.Kinds.{right}
use Rattle.layout.specs.Walk.{walk}
use Rattle.layout.specs.Work.{right_of}
use Rattle.layout.proofs.Walks.{walk_pass}
use Rattle.layout.proofs.Order.{in-class}
use Rattle.read.specs.Structure.{State, numbers, next_arm, is_default, tables}
use Rattle.read.proofs.Laws.{Numbered, first_table, last-default, next-table}
use Rattle.put_record.specs.Store.{Fits}
use Rattle.codec.specs.Codec.{word_of, low_of, high_of, block_of}
use Rattle.codec.proofs.Read.{word_join}
use Rattle.codec.proofs.Write.{word_fits}
use Rattle.items.specs.Items.{arm_record, ArmInRange}
use Rattle.items.proofs.Laws.{arm_write_back, arm-right, arm-fits}
use Rattle.procedure.specs.Procedure.{Arm, Table, arm_of, tables_from}
use Rattle.steps.specs.Write.{case_record, default_record, table_records}
use Rattle.round_trips.specs.WellFormed.{All, ArmIn, TableIn, arm_count}
use Rattle.round_trips.proofs.Lists.{all_append}
use Rattle.round_trips.proofs.Blocks.{map-append, to_last}
use Rattle.round_trips.proofs.Sections.{is_right}

due_ok : (k left : ℕ) (r : Record) → r.p1 ≡ k → (left ≡ 1 → is_default r ≡ true) → numbers (k, left) r ≡ true
unfolding numbers
due_ok k left r e h = rw (eq-eqb r.p1 k e) (to_last left (is_default r) h)

-- "the default, low and high zero"
default-zeros : (r : Record) → right r ≡ true → r.class ≡ 6 → r.kind ≡ 1 → (word_of r.p2 r.p3 ≡ 0) × (word_of r.p4 r.p5 ≡ 0)
unfolding right
default-zeros r h e k =
    let a = and_second (ltb r.op 1) _ (rw (e, k) at h) in
    let b = and_second (eqb r.zero 0) _ a in
    let c = and_second (eqb r.stmt 0) _ b in
    let d = and_second (eqb r.p2 0) _ c in
    let f = and_second (eqb r.p3 0) _ d in
    let g = and_second (eqb r.p4 0) _ f in
    let p2 = eqb-true r.p2 0 (and_first (eqb r.p2 0) _ c) in
    let p3 = eqb-true r.p3 0 (and_first (eqb r.p3 0) _ d) in
    let p4 = eqb-true r.p4 0 (and_first (eqb r.p4 0) _ f) in
    let p5 = eqb-true r.p5 0 (and_first (eqb r.p5 0) _ g) in
    (omega arith, omega arith)

-- arms are written as they were read
module _ (r : Record) (c : right_of 6 r ≡ true) (f : Fits r) where
  arm_same : {k low high : ℕ} {d : Bool} → r.p1 ≡ k → word_of r.p2 r.p3 ≡ low → word_of r.p4 r.p5 ≡ high → is_default r ≡ d →
      arm_record (record { table = k; low = low; high = high; to = block_of r.p6; default = d }) ≡ r
  arm_same t a b d = rw (← t, ← a, ← b, ← d) (arm_write_back r (is_right 6 r c) (in-class 6 r c) f)

  case_back : {k : ℕ} → r.p1 ≡ k → is_default r ≡ false → case_record k (arm_of r) ≡ r
  case_back t d = arm_same t refl refl d

  default-back : {k : ℕ} → r.p1 ≡ k → is_default r ≡ true → default_record k r.p6 ≡ r
  default-back t d =
      let z = default-zeros r (is_right 6 r c) (in-class 6 r c) (eqb-true r.kind 1 d) in
      arm_same t z.0 z.1 d

pub tables-back : (k : ℕ) (seen : List Arm) (rs : List Record) → Numbered k rs → All (λ r. right_of 6 r ≡ true) rs → All Fits rs →
    (length rs ≡ 0 → seen ≡ []) → table_records k (tables_from seen rs) ≡ map (case_record k) seen ++ rs
unfolding table_records tables_from
tables-back k seen [] h c f e = sym (rw (e refl))
tables-back k seen (r ∷ rs) h c f e = by (cases (is_default r)) (tables-back (suc k) [] rs) (tables-back k (seen ++ (arm_of r ∷ [])) rs)
  where
    Back : ℕ → List Arm → Type 0
    Back n xs =
        Numbered n rs → All (λ r. right_of 6 r ≡ true) rs → All Fits rs → (length rs ≡ 0 → xs ≡ []) → table_records n (tables_from xs rs) ≡ map
        (case_record n) xs ++ rs

    by : (is_default r ≡ true) ⊎ (is_default r ≡ false) → Back (suc k) [] → Back k (seen ++ (arm_of r ∷ [])) →
        table_records k (tables_from seen (r ∷ rs)) ≡ map (case_record k) seen ++ (r ∷ rs)
    by (inl d) g _ =
        let n = next-table k r rs h (suc k) (rw d (omega arith)) in
        rw (d, default-back r c.0 f.0 (first_table k r rs h) d, g n c.1 f.1 (λ i. refl))
    by (inr d) _ g =
        let n = next-table k r rs h k (rw d (add-zero k)) in
        let some : length rs ≡ 0 → seen ++ (arm_of r ∷ []) ≡ [] = λ i. absurd (true≢false (sym (last-default k r rs h i) ∙ d)) in
        rw d
        (g n c.1 f.1 some
        ∙ ap (λ (l : List Record). l ++ rs) (map-append (case_record k) seen (arm_of r ∷ []))
        ∙ append_assoc (map (case_record k) seen) (case_record k (arm_of r) ∷ []) rs
        ∙ ap (λ (x : Record). map (case_record k) seen ++ (x ∷ rs)) (case_back r c.0 f.0 (first_table k r rs h) d))

-- how many there are
pub length-tables : (seen : List Arm) (rs : List Record) → length (tables_from seen rs) ≡ tables rs
unfolding tables_from tables
length-tables seen [] = refl
length-tables seen (r ∷ rs) = by (is_default r) (length-tables [] rs) (length-tables (seen ++ (arm_of r ∷ [])) rs)
  where
    by : (d : Bool) → length (tables_from [] rs) ≡ tables rs → length (tables_from (seen ++ (arm_of r ∷ [])) rs) ≡ tables rs →
        length (cond d (record { arms = seen; default = r.p6 } ∷ tables_from [] rs) (tables_from (seen ++ (arm_of r ∷ [])) rs)) ≡ cond d 1 0 + tables rs
    by true e _ = omega arith
    by false _ e = omega arith

pub length-arms : (k : ℕ) (ts : List Table) → length (table_records k ts) ≡ arm_count ts
unfolding table_records
length-arms k [] = refl
length-arms k (t ∷ ts) =
    length-append (map (case_record k) t.arms) (default_record k t.default ∷ table_records (suc k) ts)
    ∙ let e = length-map t.arms (case_record k) in let f = length-arms (suc k) ts in omega arith

pub few-tables : (ts : List Table) → length ts ≤ arm_count ts
few-tables [] = omega arith
few-tables (t ∷ ts) = let h = few-tables ts in omega arith

-- what holds of the tables that are read
arm_in_lem : (n : ℕ) (r : Record) → Fits r → r.p6 < n → ArmIn n (arm_of r)
arm_in_lem n r f h = record { low = word_fits r.p2 r.p3 f.p2 f.p3; high = word_fits r.p4 r.p5 f.p4 f.p5; target = h }

pub tables-in : (n : ℕ) (seen : List Arm) (rs : List Record) → All Fits rs → All (λ r. r.p6 < n) rs → All (ArmIn n) seen → All (TableIn n) (tables_from seen rs)
unfolding tables_from
tables-in n seen [] f h s = tt
tables-in n seen (r ∷ rs) f h s =
    by (is_default r) (tables-in n [] rs f.1 h.1 tt)
    (tables-in n (seen ++ (arm_of r ∷ [])) rs f.1 h.1 (all_append (ArmIn n) seen (arm_of r ∷ []) s (arm_in_lem n r f.0 h.0, tt)))
  where
    by : (d : Bool) → All (TableIn n) (tables_from [] rs) → All (TableIn n) (tables_from (seen ++ (arm_of r ∷ [])) rs) →
        All (TableIn n) (cond d (record { arms = seen; default = r.p6 } ∷ tables_from [] rs) (tables_from (seen ++ (arm_of r ∷ [])) rs))
    by true i _ = (record { each = s; default = h.0 }, i)
    by false _ i = i

-- arms as they are written are numbered
pass : (k d : ℕ) (r : Record) (rs : List Record) → r.p1 ≡ k → (length rs ≡ 0 → is_default r ≡ true) → k + cond (is_default r) 1 0 ≡ d → Numbered d rs →
    Numbered k (r ∷ rs)
pass k d r rs t l e h =
    let f : suc (length rs) - 1 ≡ length rs = omega arith in
    walk_pass numbers next_arm rs (due_ok k (suc (length rs)) r t (λ i. l (omega arith)))
    ∙ ap suc (ap (λ (s : State). walk numbers next_arm s rs) (pair e f) ∙ h)
  where
    pair : {a b c d : ℕ} → a ≡ b → c ≡ d → ◌≡◌ {A = State} (a, c) (b, d)
    pair e f = rw (e, f)

table-numbered : (k to : ℕ) (xs : List Arm) (rest : List Record) → Numbered (suc k) rest → Numbered k (map (case_record k) xs ++ (default_record k to ∷ rest))
table-numbered k to [] rest h = pass k (suc k) (default_record k to) rest refl (λ i. refl) (omega arith) h
table-numbered k to (a ∷ xs) rest h =
    let l = map (case_record k) xs ++ (default_record k to ∷ rest) in
    let m = length-append (map (case_record k) xs) (default_record k to ∷ rest) in
    pass k k (case_record k a) l refl (λ i. absurd (omega arith)) (add-zero k) (table-numbered k to xs rest h)

pub tables-numbered : (k : ℕ) (ts : List Table) → Numbered k (table_records k ts)
unfolding table_records walk
tables-numbered k [] = refl
tables-numbered k (t ∷ ts) = table-numbered k t.default t.arms (table_records (suc k) ts) (tables-numbered (suc k) ts)

-- and are read as they were written
case_read : (k : ℕ) (a : Arm) → arm_of (case_record k a) ≡ a
case_read k a =
    ap (λ (v : ℕ). of v (word_of (low_of a.high) (high_of a.high))) (word_join a.low) ∙ ap (of a.low) (word_join a.high)
  where
    of : ℕ → ℕ → Arm
    of low high = record { low = low; high = high; target = a.target }

table-read : (k to : ℕ) (seen xs : List Arm) (rest : List Record) →
    tables_from seen (map (case_record k) xs ++ (default_record k to ∷ rest)) ≡ record { arms = seen ++ xs; default = to } ∷ tables_from [] rest
unfolding tables_from
table-read k to seen [] rest = ap (λ (l : List Arm). record { arms = l; default = to } ∷ tables_from [] rest) (sym (append-nil seen))
table-read k to seen (a ∷ xs) rest =
    ap (λ (x : Arm). tables_from (seen ++ (x ∷ [])) (map (case_record k) xs ++ (default_record k to ∷ rest))) (case_read k a)
    ∙ table-read k to (seen ++ (a ∷ [])) xs rest
    ∙ ap (λ (l : List Arm). record { arms = l; default = to } ∷ tables_from [] rest) (append_assoc seen (a ∷ []) xs)

pub tables-read : (k : ℕ) (ts : List Table) → tables_from [] (table_records k ts) ≡ ts
unfolding tables_from table_records
tables-read k [] = refl
tables-read k (t ∷ ts) = table-read k t.default [] t.arms (table_records (suc k) ts) ∙ ap (λ (l : List Table). t ∷ l) (tables-read (suc k) ts)

-- what holds of each arm that is written
module _ (P : Record → Type 0) (m n : ℕ) (case : (k : ℕ) (a : Arm) → k < m → ArmIn n a → P (case_record k a))
    (default : (k to : ℕ) → k < m → to < n → P (default_record k to)) where
  all_cases : (k : ℕ) → k < m → (xs : List Arm) → All (ArmIn n) xs → All P (map (case_record k) xs)
  all_cases k i [] h = tt
  all_cases k i (a ∷ xs) h = (case k a i h.0, all_cases k i xs h.1)

  pub all-arms : (k : ℕ) (ts : List Table) → k + length ts ≤ m → All (TableIn n) ts → All P (table_records k ts)
  unfolding table_records
  all-arms k [] i h = tt
  all-arms k (t ∷ ts) i h =
      all_append P (map (case_record k) t.arms) _ (all_cases k (omega arith) t.arms h.0.each)
      (default k t.default (omega arith) h.0.default, all-arms (suc k) ts (omega arith) h.1)

case_range : (k n : ℕ) (a : Arm) → k < 2 ^ 32 → n ≤ 2 ^ 32 → ArmIn n a →
    ArmInRange (record { table = k; low = a.low; high = a.high; to = block_of a.target; default = false })
case_range k n a h i j = record {
  table = h;
  low = j.low;
  high = j.high;
  to = let t = j.target in omega arith;
  low-zero = λ e. absurd (false≢true e);
  high_zero = λ e. absurd (false≢true e);
}

default-range : (k to : ℕ) → k < 2 ^ 32 → to < 2 ^ 32 → ArmInRange (record { table = k; low = 0; high = 0; to = block_of to; default = true })
default-range k to h i = record { table = h; low = omega arith; high = omega arith; to = i; low-zero = λ e. refl; high_zero = λ e. refl }

module _ (n : ℕ) (few : n ≤ 2 ^ 32) (ts : List Table) (fit : length ts ≤ 2 ^ 32) (h : All (TableIn n) ts) where
  pub arms-right : All (λ r. right_of 6 r ≡ true) (table_records 0 ts)
  arms-right =
      all-arms (λ r. right_of 6 r ≡ true) (2 ^ 32) n
      (λ k a i j. arm-right _ (case_range k n a i few j))
      (λ k to i j. arm-right _ (default-range k to i (omega arith)))
      0 ts (omega arith) h

  pub arms-fit : All Fits (table_records 0 ts)
  arms-fit =
      all-arms Fits (2 ^ 32) n
      (λ k a i j. arm-fits _ (case_range k n a i few j))
      (λ k to i j. arm-fits _ (default-range k to i (omega arith)))
      0 ts (omega arith) h
