-- Records and their bytes, both ways.
use Prim.Native.Nat.{ℕ, zero, suc, ◌+◌, ◌*◌, ◌/◌, ◌%◌, ◌≤◌, ◌<◌}
use native.Mathlib.Omega.{arith}
use mathlib.Core.Path.{◌≡◌, refl, sym, ap, ◌∙◌}
use mathlib.Core.List.{List, [], ◌∷◌, ◌++◌}
use borrow.Author.Tests.{lt-ltb}
use lib.ListN.{length, drop, length-append, length-drop}
use lib.Seq.{drop_at, get_or-drop}
use Rattle.records.specs.declared.Record.{Record}
use Rattle.records.specs.Record.{record_in, first_records, records_of, blank}
use Rattle.records.proofs.Laws.{record_at_lem}
use Rattle.put_record.specs.Store.{record_bytes, put_of, Bytes, Fits}
use Rattle.put_record.proofs.Laws.{length-bytes, written_read, fits-at, put_back}
use Rattle.steps.specs.Write.{bytes_of}
use Rattle.round_trips.specs.WellFormed.{All}
use Rattle.round_trips.proofs.Lists.{all_from}

-- the first record's bytes, and the others
first_back : (b : List ℕ) → 32 ≤ length b → Bytes b → record_bytes (record_in b 0) ++ drop 32 b ≡ b
unfolding put_of
first_back b h i =
    let n : 0 < length b / 32 = omega arith in
    ap (λ (r : Record). record_bytes r ++ drop 32 b) (sym (record_at_lem b 0 n))
    ∙ sym (rw (lt-ltb 0 (length b / 32) n))
    ∙ put_back b 0 i

firsts_back : (n : ℕ) (b : List ℕ) → length b ≡ 32 * n → Bytes b → bytes_of (first_records n b) ≡ b
unfolding bytes_of first_records
firsts_back zero [] h i = refl
firsts_back zero (x ∷ b) h i = absurd (omega arith)
firsts_back (suc n) b h i =
    let d : length (drop 32 b) ≡ 32 * n = length-drop 32 b ∙ omega arith in
    let j : Bytes (drop 32 b) = λ (k : ℕ). rw (get_or-drop 32 b k 0) (i (32 + k)) in
    ap (λ (l : List ℕ). record_bytes (record_in b 0) ++ l) (firsts_back n (drop 32 b) d j)
    ∙ first_back b (omega arith) i

-- the bytes of a file's records are the file
pub bytes_back : (b : List ℕ) → length b % 32 ≡ 0 → Bytes b → bytes_of (records_of b) ≡ b
unfolding records_of
bytes_back b h i = firsts_back (length b / 32) b (omega arith) i

pub records_fit : (b : List ℕ) → Bytes b → All Fits (records_of b)
records_fit b h = all_from Fits (records_of b) blank (λ k i. fits-at b k h)

pub bytes-length : (rs : List Record) → length (bytes_of rs) ≡ 32 * length rs
unfolding bytes_of
bytes-length [] = refl
bytes-length (r ∷ rs) = length-append (record_bytes r) (bytes_of rs) ∙ let e = bytes-length rs in let f = length-bytes r in omega arith

firsts_of : (rs : List Record) → All Fits rs → first_records (length rs) (bytes_of rs) ≡ rs
unfolding bytes_of first_records
firsts_of [] h = refl
firsts_of (r ∷ rs) h =
    rw (written_read r (bytes_of rs) h.0, drop_at (record_bytes r) (bytes_of rs) 32 (length-bytes r), firsts_of rs h.1)

-- the records of records' bytes are the records
pub records_back : (rs : List Record) → All Fits rs → records_of (bytes_of rs) ≡ rs
unfolding records_of
records_back rs h =
    let e : length (bytes_of rs) / 32 ≡ length rs = let f = bytes-length rs in omega arith in
    ap (λ (n : ℕ). first_records n (bytes_of rs)) e ∙ firsts_of rs h
