-- The bytes that records written one after the other leave, where there is room for them.
use Prim.Native.Nat.{ℕ, ◌+◌, ◌*◌, ◌/◌, ◌≤◌, ◌<◌}
use native.Mathlib.Omega.{arith}
use mathlib.Core.Path.{◌≡◌, sym, ap, ◌∙◌}
use mathlib.Core.List.{List, [], ◌∷◌, ◌++◌, append_assoc}
use lib.ListN.{length, take, drop, length-append, take-append-drop}
use lib.Seq.{take_at, take_all, drop-append-add, drop-drop, length-take-le}
use borrow.Author.Tests.{lt-ltb}
use borrow.Rule.Slice.PartMut.{put_mid}
use Rattle.records.specs.declared.Record.{Record}
use Rattle.records.specs.Record.{records_of}
use Rattle.records.proofs.Laws.{length_records}
use Rattle.put_record.specs.Store.{record_bytes, put_of, Bytes}
use Rattle.put_record.proofs.Laws.{length-bytes, put-length}
use Rattle.steps.specs.Write.{bytes_of}
use Rattle.blocks.proofs.Parts.{records_part}
use Rattle.blocks.proofs.Bytes.{bytes-part}
use Rattle.round_trips.proofs.Bytes.{bytes-length, bytes_back}
use Rattle.emit_records.specs.declared.Writer.{Writer}
use Rattle.emit_records.specs.Emitted.{Place, place, puts, Wrote}
use Rattle.emit_records.proofs.Laws.{put_in}
use Rattle.emit_records.proofs.Passes.{puts-at}

-- one record more
module _ (b : List ℕ) (at : ℕ) (r : Record) (h : at < length b / 32) where
  abbrev before : List ℕ
  before = take (32 * at) b

  put_is : put_of b at r ≡ (before ++ record_bytes r) ++ drop (32 * at + 32) b
  unfolding put_of
  put_is = rw (lt-ltb at (length b / 32) h) (sym (append_assoc before (record_bytes r) (drop (32 * at + 32) b)))

  front_length : length (before ++ record_bytes r) ≡ 32 * (at + 1)
  front_length = length-append before (record_bytes r) ∙ omega (arith, length-take-le (32 * at) b (omega arith), length-bytes r)

  put-take : take (32 * (at + 1)) (put_of b at r) ≡ before ++ record_bytes r
  put-take = ap (take (32 * (at + 1))) put_is ∙ take_at (before ++ record_bytes r) (drop (32 * at + 32) b) (32 * (at + 1)) front_length

  put-drop : (n : ℕ) → drop (32 * (at + 1 + n)) (put_of b at r) ≡ drop (32 * (at + 1 + n)) b
  put-drop n =
      let e : 32 * (at + 1 + n) ≡ length (before ++ record_bytes r) + 32 * n = rw front_length (omega arith) in
      let f : 32 * at + 32 + 32 * n ≡ 32 * (at + 1 + n) = omega arith in
      ap (drop (32 * (at + 1 + n))) put_is
      ∙ ap (λ (k : ℕ). drop k ((before ++ record_bytes r) ++ drop (32 * at + 32) b)) e
      ∙ drop-append-add (before ++ record_bytes r) (drop (32 * at + 32) b) (32 * n)
      ∙ drop-drop (32 * n) (32 * at + 32) b
      ∙ ap (λ (k : ℕ). drop k b) f

pub puts-bytes : (rs : List Record) (b : List ℕ) (at : ℕ) → at + length rs ≤ length b / 32
    → (puts rs (place b at)).bytes ≡ take (32 * at) b ++ (bytes_of rs ++ drop (32 * (at + length rs)) b)
unfolding puts bytes_of
puts-bytes [] b at h =
    let e : at ≡ at + 0 = omega arith in
    sym (take-append-drop (32 * at) b) ∙ ap (λ (k : ℕ). take (32 * at) b ++ drop (32 * k) b) e
puts-bytes (r ∷ rs) b at h =
    let i : at < length b / 32 = omega arith in
    let l = put-length b at r in
    let n = length rs in
    let e : at + 1 + n ≡ at + length (r ∷ rs) = omega arith in
    ap (λ (s : Place). (puts rs s).bytes) (sym (put_in b at r i))
    ∙ puts-bytes rs (put_of b at r) (at + 1) (rw l (omega arith))
    ∙ ap (λ (p : List ℕ). p ++ (bytes_of rs ++ drop (32 * (at + 1 + n)) (put_of b at r))) (put-take b at r i)
    ∙ ap (λ (q : List ℕ). (take (32 * at) b ++ record_bytes r) ++ (bytes_of rs ++ q)) (put-drop b at r i n)
    ∙ append_assoc (take (32 * at) b) (record_bytes r) (bytes_of rs ++ drop (32 * (at + 1 + n)) b)
    ∙ ap (λ (q : List ℕ). take (32 * at) b ++ q) (sym (append_assoc (record_bytes r) (bytes_of rs) (drop (32 * (at + 1 + n)) b)))
    ∙ ap (λ (k : ℕ). take (32 * at) b ++ ((record_bytes r ++ bytes_of rs) ++ drop (32 * k) b)) e

-- the bytes of a slice's records are the slice up to its last whole record
whole_back : (b : List ℕ) → Bytes b → bytes_of (records_of b) ≡ take (32 * (length b / 32)) b
whole_back b h =
    let n = length b / 32 in
    let l = length-take-le (32 * n) b (omega arith) in
    ap bytes_of (sym (records_part b 0 n (omega arith) ∙ take_all n (records_of b) (omega (arith, length_records b))))
    ∙ bytes_back (take (32 * n) b) (omega arith) (bytes-part (32 * n) 0 b h)

-- records copied by their bytes, where all have room
pub puts-copied : (c b : List ℕ) (at : ℕ) {y : List ℕ} {k : ℕ} → Bytes c → at + length c / 32 ≤ length b / 32
    → y ≡ take (32 * (length c / 32)) c → k ≡ 32 * (length c / 32)
    → place (put_mid (32 * at) k b y) (at + length c / 32) ≡ puts (records_of c) (place b at)
puts-copied c b at {y} {k} h i f g =
    let n = length c / 32 in
    let l = length_records c in
    let e : 32 * (at + length (records_of c)) ≡ 32 * at + 32 * n = omega arith in
    let q = puts-at (records_of c) (place b at) (omega arith) in
    let w =
    puts-bytes (records_of c) b at (omega arith)
    ∙ ap (λ (x : List ℕ). take (32 * at) b ++ (x ++ drop (32 * (at + length (records_of c))) b)) (whole_back c h)
    ∙ ap (λ (j : ℕ). take (32 * at) b ++ (take (32 * n) c ++ drop j b)) e
    ∙ sym
    (ap (λ (j : ℕ). put_mid (32 * at) j b y) g
    ∙ ap (put_mid (32 * at) (32 * n) b) f
    ∙ ap (λ (x : List ℕ). take (32 * at) b ++ (take (32 * n) c ++ x)) (drop-drop (32 * n) (32 * at) b))
    in
    sym (ap (λ (x : List ℕ). place x (puts (records_of c) (place b at)).at) w ∙ ap (place _) (q ∙ ap (λ (j : ℕ). at + j) l))

-- from the first record on
pub puts-front : (rs : List Record) (b : List ℕ) → length rs ≤ length b / 32
    → (puts rs (place b 0)).bytes ≡ bytes_of rs ++ drop (length (bytes_of rs)) b
puts-front rs b h =
    let e : 32 * (0 + length rs) ≡ length (bytes_of rs) = omega (arith, bytes-length rs) in
    puts-bytes rs b 0 (omega arith) ∙ ap (λ (k : ℕ). bytes_of rs ++ drop k b) e

-- the bytes that a writer leaves, if it began with the first record and all had room
pub wrote_front : {w w' : Writer} {rs : List Record} → Wrote w rs w' → w.at ≡ 0 → length rs ≤ length w.out.now / 32
    → w'.out.now ≡ bytes_of rs ++ drop (length (bytes_of rs)) w.out.now
wrote_front {w} {rs = rs} p begun room =
    ap (λ (s : Place). s.bytes) p.written ∙ ap (λ (n : ℕ). (puts rs (place w.out.now n)).bytes) begun ∙ puts-front rs w.out.now room
