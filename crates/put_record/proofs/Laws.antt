-- Laws of records in bytes: what is written is read back, the others stay, and writing what was read changes nothing.
use Prim.Native.Nat.{ℕ, zero, suc, ◌+◌, ◌-◌, ◌*◌, ◌/◌, ◌≤◌, ◌<◌, ◌^◌}
use native.Mathlib.Omega.{arith}
use mathlib.Core.Path.{◌≡◌, refl, sym, ap, subst, ◌∙◌}
use mathlib.Core.Bool.{Bool, true, false}
use mathlib.Core.List.{List, [], ◌∷◌, ◌++◌, append_assoc}
use mathlib.Core.Logic.{◌⊎◌, inl, inr}
use lib.ListN.{length, get_or, take, drop, set, length-append, length-drop, length-set, take-append-drop}
use lib.Seq.{sets, sets-eq, length-sets, drop-cons, drop-append-le, drop-append-add, drop-drop, length-take-le}
use lib.Seq.{get_or-set_same, get_or-set_other, ext_get_or, get_or-drop}
use lib.Dec.{eqb}
use borrow.Rule.Slice.PartMut.{put_mid}
use borrow.Author.Tests.{lt-ltb, le-ltb, eqb-true, eqb-false}
use Rattle.general.proofs.Numbers.{order}
use Rattle.records.specs.declared.Record.{Record}
use Rattle.records.specs.Record.{record_in, record_at, records_of, word_at, blank}
use Rattle.records.proofs.Laws.{record_drop, record_at_lem, record_past, length_records}
use Rattle.put_record.specs.Store.{record_bytes, word_bytes, tag_bytes, byte_of, put_of, Bytes, Fits}

-- stores in a row, one part after the other
sets-append : (l vs ws : List ℕ) (i j : ℕ) → j ≡ i + length vs → sets l i (vs ++ ws) ≡ sets (sets l i vs) j ws
sets-append l [] ws i j e = ap (λ (n : ℕ). sets l n ws) (omega arith)
sets-append l (v ∷ vs) ws i j e = sets-append (set l i v) vs ws (suc i) j (omega arith)

-- a part that was written over
pub part-sets : (b vs : List ℕ) (at k : ℕ) → k ≡ length vs → at + length vs ≤ length b → put_mid at k b vs ≡ sets b at vs
part-sets b vs at k e h =
    ap (λ (d : List ℕ). take at b ++ (vs ++ d)) (drop-drop k at b ∙ ap (λ (n : ℕ). drop (at + n) b) e)
    ∙ sym (sets-eq vs b at h ∙ append_assoc (take at b) vs _)

length-word : (x : ℕ) → length (word_bytes x) ≡ 4
unfolding word_bytes
length-word x = refl

length_tag : (r : Record) → length (tag_bytes r) ≡ 4
unfolding tag_bytes
length_tag r = refl

pub put-parts : (b : List ℕ) (at : ℕ) (r : Record) →
    sets
    (sets
    (sets
    (sets
    (sets
    (sets (sets (sets b at (tag_bytes r)) (at + 4) (word_bytes r.stmt)) (at + 8) (word_bytes r.p1))
    (at + 12)
    (word_bytes r.p2))
    (at + 16)
    (word_bytes r.p3))
    (at + 20)
    (word_bytes r.p4))
    (at + 24)
    (word_bytes r.p5))
    (at + 28)
    (word_bytes r.p6)
    ≡ sets b at (record_bytes r)
put-parts b at r =
    sym
    (sets-append _ (tag_bytes r) _ at (at + 4) (omega (arith, length_tag r))
    ∙ sets-append _ (word_bytes r.stmt) _ (at + 4) (at + 8) (omega (arith, length-word r.stmt))
    ∙ sets-append _ (word_bytes r.p1) _ (at + 8) (at + 12) (omega (arith, length-word r.p1))
    ∙ sets-append _ (word_bytes r.p2) _ (at + 12) (at + 16) (omega (arith, length-word r.p2))
    ∙ sets-append _ (word_bytes r.p3) _ (at + 16) (at + 20) (omega (arith, length-word r.p3))
    ∙ sets-append _ (word_bytes r.p4) _ (at + 20) (at + 24) (omega (arith, length-word r.p4))
    ∙ sets-append _ (word_bytes r.p5) (word_bytes r.p6) (at + 24) (at + 28) (omega (arith, length-word r.p5)))

pub length-bytes : (r : Record) → length (record_bytes r) ≡ 32
unfolding word_bytes tag_bytes
length-bytes r = refl

-- the part from a place, byte by byte
abbrev from : List ℕ → ℕ → ℕ → List ℕ
from d k zero = []
from d k (suc n) = get_or d k 0 ∷ from d (suc k) n

from-drop : (n k : ℕ) (d : List ℕ) → k + n ≤ length d → drop k d ≡ from d k n ++ drop (k + n) d
from-drop zero k d h = let e : k ≡ k + 0 = omega arith in ap (λ (i : ℕ). drop i d) e
from-drop (suc n) k d h =
    let e : suc k + n ≡ k + suc n = omega arith in
    drop-cons d k 0 (omega arith)
    ∙ ap (λ (l : List ℕ). get_or d k 0 ∷ l)
    (from-drop n (suc k) d (omega arith) ∙ ap (λ (i : ℕ). from d (suc k) n ++ drop i d) e)

-- a record depends on its 32 bytes alone
record_start : (d q : List ℕ) → 32 ≤ length d → record_in (d ++ q) 0 ≡ record_in d 0
record_start d q h =
    let e = from-drop 32 0 d h in
    ap (λ (l : List ℕ). record_in (l ++ q) 0) e ∙ sym (ap (λ (l : List ℕ). record_in l 0) e)

record_from : (b : List ℕ) (at : ℕ) → record_in b at ≡ record_in (drop at b) 0
record_from b at = sym (record_drop b at 0 ∙ ap (record_in b) (omega arith))

record_before : (p q : List ℕ) (at : ℕ) → at + 32 ≤ length p → record_in (p ++ q) at ≡ record_in p at
record_before p q at h =
    record_from (p ++ q) at
    ∙ ap (λ (l : List ℕ). record_in l 0) (drop-append-le at p q (omega arith))
    ∙ record_start (drop at p) q (rw length-drop (omega arith))
    ∙ sym (record_from p at)

record_after : (p q : List ℕ) (at m : ℕ) → at ≡ length p + m → record_in (p ++ q) at ≡ record_in q m
record_after p q at m e =
    record_from (p ++ q) at
    ∙ ap (λ (l : List ℕ). record_in l 0) (ap (λ (i : ℕ). drop i (p ++ q)) e ∙ drop-append-add p q m)
    ∙ sym (record_from q m)

low : (x : ℕ) → x ≡ 256 * (x / 256) + byte_of x
low x = omega arith

top : (x : ℕ) → x < 2 ^ 32 → x / 16777216 ≡ byte_of (x / 16777216)
top x h = omega arith

join : (x y z w p q r s : ℕ) → x ≡ 256 * y + p → y ≡ 256 * z + q → z ≡ 256 * w + r → w ≡ s → p + 256 * q + 65536 * r + 16777216 * s ≡ x
join x y z w p q r s d e f g = omega arith

word_back : (x : ℕ) → x < 2 ^ 32 → byte_of x + 256 * byte_of (x / 256) + 65536 * byte_of (x / 65536) + 16777216 * byte_of (x / 16777216) ≡ x
word_back x h =
    let e2 : x / 65536 ≡ x / 256 / 256 = omega arith in
    let e3 : x / 16777216 ≡ x / 256 / 256 / 256 = omega arith in
    rw (e2, e3)
    (join x _ _ _ _ _ _ _ (low x) (low (x / 256)) (low (x / 256 / 256)) (subst (λ (y : ℕ). y ≡ byte_of y) e3 (top x h)))

byte_back : (x : ℕ) → x < 256 → byte_of x ≡ x
byte_back x h = omega arith

pub written_read : (r : Record) (q : List ℕ) → Fits r → record_in (record_bytes r ++ q) 0 ≡ r
unfolding word_bytes tag_bytes
written_read r q f =
    rw (
      byte_back r.class f.class,
      byte_back r.kind f.kind,
      byte_back r.op f.op,
      byte_back r.zero f.zero,
      word_back r.stmt f.stmt,
      word_back r.p1 f.p1,
      word_back r.p2 f.p2,
      word_back r.p3 f.p3,
      word_back r.p4 f.p4,
      word_back r.p5 f.p5,
      word_back r.p6 f.p6,
    )

module _ (p q r s : ℕ) (hp : p < 256) (hq : q < 256) (hr : r < 256) (hs : s < 256) where
  abbrev whole : ℕ
  whole = p + 256 * q + 65536 * r + 16777216 * s

  byte0 : byte_of whole ≡ p
  byte0 = omega arith

  byte1 : byte_of (whole / 256) ≡ q
  byte1 = omega arith

  byte2 : byte_of (whole / 65536) ≡ r
  byte2 = omega arith

  byte3 : byte_of (whole / 16777216) ≡ s
  byte3 = omega arith

  four_bytes : word_bytes whole ≡ p ∷ q ∷ r ∷ s ∷ []
  unfolding word_bytes
  four_bytes = rw (byte0, byte1, byte2, byte3)

word-bytes : (d : List ℕ) (i : ℕ) → Bytes d → word_bytes (word_at d i) ≡ get_or d i 0 ∷ get_or d (i + 1) 0 ∷ get_or d (i + 2) 0 ∷ get_or d (i + 3) 0 ∷ []
word-bytes d i h = four_bytes _ _ _ _ (h i) (h (i + 1)) (h (i + 2)) (h (i + 3))

read-written : (d : List ℕ) → Bytes d → record_bytes (record_in d 0) ≡ from d 0 32
unfolding tag_bytes
read-written d h =
    rw (
      byte_back (get_or d 0 0) (h 0),
      byte_back (get_or d 1 0) (h 1),
      byte_back (get_or d 2 0) (h 2),
      byte_back (get_or d 3 0) (h 3),
      word-bytes d 4 h,
      word-bytes d 8 h,
      word-bytes d 12 h,
      word-bytes d 16 h,
      word-bytes d 20 h,
      word-bytes d 24 h,
      word-bytes d 28 h,
    )

word_fits : (d : List ℕ) (i : ℕ) → Bytes d → word_at d i < 2 ^ 32
word_fits d i h = omega (arith, h i, h (i + 1), h (i + 2), h (i + 3))

-- bytes hold records that fit
pub fits_in : (b : List ℕ) (at : ℕ) → Bytes b → Fits (record_in b at)
fits_in b at h = record {
  class = h at;
  kind = h (at + 1);
  op = h (at + 2);
  zero = h (at + 3);
  stmt = word_fits b (at + 4) h;
  p1 = word_fits b (at + 8) h;
  p2 = word_fits b (at + 12) h;
  p3 = word_fits b (at + 16) h;
  p4 = word_fits b (at + 20) h;
  p5 = word_fits b (at + 24) h;
  p6 = word_fits b (at + 28) h;
}

fits-blank : Fits blank
fits-blank =
    record {
      class = omega arith;
      kind = omega arith;
      op = omega arith;
      zero = omega arith;
      stmt = omega arith;
      p1 = omega arith;
      p2 = omega arith;
      p3 = omega arith;
      p4 = omega arith;
      p5 = omega arith;
      p6 = omega arith;
    }

pub fits-at : (b : List ℕ) (k : ℕ) → Bytes b → Fits (record_at b k)
fits-at b k h = go (order k (length b / 32))
  where
    go : (k < length b / 32) ⊎ (length b / 32 ≤ k) → Fits (record_at b k)
    go (inl e) = subst Fits (sym (record_at_lem b k e)) (fits_in b (32 * k) h)
    go (inr e) = subst Fits (sym (record_past b k e)) fits-blank

-- the stores leave what the definition says
pub put-sets : (b : List ℕ) (k : ℕ) (r : Record) → k < length b / 32 → sets b (32 * k) (record_bytes r) ≡ put_of b k r
unfolding put_of
put-sets b k r h =
    let l = length-bytes r in
    sets-eq (record_bytes r) b (32 * k) (omega arith)
    ∙ append_assoc (take (32 * k) b) (record_bytes r) _
    ∙ rw (lt-ltb k (length b / 32) h, l)

pub put-past : (b : List ℕ) (k : ℕ) (r : Record) → length b / 32 ≤ k → put_of b k r ≡ b
unfolding put_of
put-past b k r h = rw (le-ltb k (length b / 32) h)

pub put-length : (b : List ℕ) (k : ℕ) (r : Record) → length (put_of b k r) ≡ length b
put-length b k r = go (order k (length b / 32))
  where
    go : (k < length b / 32) ⊎ (length b / 32 ≤ k) → length (put_of b k r) ≡ length b
    go (inl h) = ap length (sym (put-sets b k r h)) ∙ length-sets b (32 * k) (record_bytes r)
    go (inr h) = ap length (put-past b k r h)

module _ (b : List ℕ) (k : ℕ) (r : Record) (h : k < length b / 32) where
  put_in : put_of b k r ≡ take (32 * k) b ++ (record_bytes r ++ drop (32 * k + 32) b)
  unfolding put_of
  put_in = rw (lt-ltb k (length b / 32) h)

  front : length (take (32 * k) b) ≡ 32 * k
  front = length-take-le (32 * k) b (omega arith)

  inside : (j : ℕ) → j < length b / 32 → j < length (put_of b k r) / 32
  inside j i = rw (put-length b k r) i

  -- "what was written reads back"
  pub put_same : Fits r → record_at (put_of b k r) k ≡ r
  put_same f =
      record_at_lem (put_of b k r) k (inside k h)
      ∙ ap (λ (l : List ℕ). record_in l (32 * k)) put_in
      ∙ record_after (take (32 * k) b) _ (32 * k) 0 (omega (arith, front))
      ∙ written_read r _ f

  before : (j : ℕ) → j < k → record_in (put_of b k r) (32 * j) ≡ record_in b (32 * j)
  before j i =
      ap (λ (l : List ℕ). record_in l (32 * j)) put_in
      ∙ record_before (take (32 * k) b) _ (32 * j) (omega (arith, front))
      ∙ sym (record_before (take (32 * k) b) (drop (32 * k) b) (32 * j) (omega (arith, front)))
      ∙ ap (λ (l : List ℕ). record_in l (32 * j)) (take-append-drop (32 * k) b)

  after : (j m : ℕ) → j ≡ suc k + m → record_in (put_of b k r) (32 * j) ≡ record_in b (32 * j)
  after j m e =
      let p = take (32 * k) b ++ record_bytes r in
      let w : length p ≡ 32 * k + 32 = length-append (take (32 * k) b) (record_bytes r) ∙ rw (front, length-bytes r) in
      let same : 32 * k + 32 + 32 * m ≡ 32 * j = omega arith in
      ap (λ (l : List ℕ). record_in l (32 * j)) (put_in ∙ sym (append_assoc (take (32 * k) b) (record_bytes r) _))
      ∙ record_after p _ (32 * j) (32 * m) (omega (arith, w))
      ∙ record_drop b (32 * k + 32) (32 * m)
      ∙ ap (record_in b) same

-- "the others stay"
pub put_other : (b : List ℕ) (k : ℕ) (r : Record) (j : ℕ) → (j ≡ k → ⊥) → record_at (put_of b k r) j ≡ record_at b j
put_other b k r j ne = go (order k (length b / 32)) (order j (length b / 32)) (order j k)
  where
    go : (k < length b / 32) ⊎ (length b / 32 ≤ k) → (j < length b / 32) ⊎ (length b / 32 ≤ j) → (j < k) ⊎ (k ≤ j) → record_at (put_of b k r) j ≡ record_at b j
    go (inr h) i o = ap (λ (l : List ℕ). record_at l j) (put-past b k r h)
    go (inl h) (inr i) o = record_past (put_of b k r) j (rw (put-length b k r) i) ∙ sym (record_past b j i)
    go (inl h) (inl i) (inl o) = record_at_lem (put_of b k r) j (inside b k r h j i) ∙ before b k r h j o ∙ sym (record_at_lem b j i)
    go (inl h) (inl i) (inr o) =
        let m = j - suc k in
        record_at_lem (put_of b k r) j (inside b k r h j i) ∙ after b k r h j m (omega arith) ∙ sym (record_at_lem b j i)

-- "writing what was read leaves the bytes as they were"
pub put_back : (b : List ℕ) (k : ℕ) → Bytes b → put_of b k (record_at b k) ≡ b
put_back b k h = go (order k (length b / 32))
  where
    go : (k < length b / 32) ⊎ (length b / 32 ≤ k) → put_of b k (record_at b k) ≡ b
    go (inr i) = put-past b k (record_at b k) i
    go (inl i) =
        let d = drop (32 * k) b in
        let hd : Bytes d = λ (j : ℕ). rw (get_or-drop (32 * k) b j 0) (h (32 * k + j)) in
        let read : record_bytes (record_at b k) ≡ from d 0 32 = ap record_bytes (record_at_lem b k i ∙ record_from b (32 * k)) ∙ read-written d hd in
        let fit : 32 ≤ length d = rw length-drop (omega arith) in
        put_in b k (record_at b k) i
        ∙ ap (λ (l : List ℕ). take (32 * k) b ++ l)
        (ap (λ (l : List ℕ). l ++ drop (32 * k + 32) b) read
        ∙ ap (λ (l : List ℕ). from d 0 32 ++ l) (sym (drop-drop 32 (32 * k) b))
        ∙ sym (from-drop 32 0 d fit))
        ∙ take-append-drop (32 * k) b

-- both laws in one: the file's records, with record k replaced
pub put_records : (b : List ℕ) (k : ℕ) (r : Record) → k < length b / 32 → Fits r → records_of (put_of b k r) ≡ set (records_of b) k r
put_records b k r h f = ext_get_or blank (records_of (put_of b k r)) (set (records_of b) k r) same each
  where
    same : length (records_of (put_of b k r)) ≡ length (set (records_of b) k r)
    same = length_records (put_of b k r) ∙ ap (λ (n : ℕ). n / 32) (put-length b k r) ∙ sym (length-set (records_of b) k r ∙ length_records b)

    each : (j : ℕ) → j < length (records_of (put_of b k r)) → get_or (records_of (put_of b k r)) j blank ≡ get_or (set (records_of b) k r) j blank
    each j i = go (eqb j k) refl
      where
        go : (t : Bool) → eqb j k ≡ t → get_or (records_of (put_of b k r)) j blank ≡ get_or (set (records_of b) k r) j blank
        go true e = rw (eqb-true j k e) (put_same b k r h f ∙ sym (get_or-set_same (records_of b) k r blank (rw (length_records b) h)))
        go false e = put_other b k r j (eqb-false j k e) ∙ sym (get_or-set_other (records_of b) k j r blank (eqb-false j k e))
