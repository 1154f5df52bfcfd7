-- Laws of a file's records: how many there are, and where each stands in the bytes.
use Prim.Native.Nat.{ℕ, zero, suc, ◌+◌, ◌*◌, ◌/◌, ◌≤◌, ◌<◌}
use native.Mathlib.Omega.{arith}
use mathlib.Core.Path.{◌≡◌, refl, ap, ◌∙◌}
use mathlib.Core.List.{List}
use lib.ListN.{length, get_or, drop, get_or-eq_default}
use lib.Seq.{get_or-drop}
use Rattle.records.specs.Record.{record_in, record_at, first_records, records_of, blank}

pub record_drop : (b : List ℕ) (m at : ℕ) → record_in (drop m b) at ≡ record_in b (m + at)
record_drop b m at = simp (get_or-drop, native.Mathlib.Nat.add_assoc)

pub length_first : (n : ℕ) (b : List ℕ) → length (first_records n b) ≡ n
unfolding first_records
length_first zero b = refl
length_first (suc n) b = ap suc (length_first n (drop 32 b))

pub first_at : (n : ℕ) (b : List ℕ) (k : ℕ) → k < n → get_or (first_records n b) k blank ≡ record_in b (32 * k)
unfolding first_records
first_at zero b k h = absurd (omega arith)
first_at (suc n) b zero h = refl
first_at (suc n) b (suc k) h = first_at n (drop 32 b) k (omega arith) ∙ record_drop b 32 (32 * k) ∙ ap (record_in b) (omega arith)

pub length_records : (b : List ℕ) → length (records_of b) ≡ length b / 32
unfolding records_of
length_records b = length_first (length b / 32) b

pub record_at_lem : (b : List ℕ) (k : ℕ) → k < length b / 32 → record_at b k ≡ record_in b (32 * k)
unfolding records_of
record_at_lem b k h = first_at (length b / 32) b k h

pub record_past : (b : List ℕ) (k : ℕ) → length b / 32 ≤ k → record_at b k ≡ blank
record_past b k h = get_or-eq_default (records_of b) blank (rw (length_records b) h)
