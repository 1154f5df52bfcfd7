-- What is written and what is taken out of bytes are bytes; a code of bytes holds instructions in range.
use Prim.Native.Nat.{ℕ, zero, suc, ◌*◌, ◌-◌, ◌+◌, ◌/◌, ◌<◌}
use native.Mathlib.Omega.{arith}
use mathlib.Core.Path.{◌≡◌, refl, sym, subst}
use mathlib.Core.Bool.{Bool, true, false, cond}
use mathlib.Core.List.{List, [], ◌∷◌, ◌++◌}
use lib.ListN.{length, get_or, take, drop}
use lib.Dec.{ltb}
use lib.Seq.{paste}
use Rattle.records.specs.declared.Record.{Record}
use Rattle.records.specs.Record.{record_at}
use Rattle.put_record.specs.Store.{word_bytes, tag_bytes, record_bytes, put_of, Bytes}
use Rattle.put_record.proofs.Laws.{put-length, fits-at}
use Rattle.inst.specs.declared.Code.{Code}
use Rattle.inst.specs.declared.Inst.{Inst}
use Rattle.codec.specs.Codec.{InRange, rewritten_record}
use Rattle.codec.proofs.Laws.{read-range}
use Rattle.procedure.specs.Procedure.{codes_of}
use Rattle.ends.specs.Ends.{code_at}
use Rattle.ends.proofs.Laws.{code-at}
use Rattle.blocks.specs.Blocks.{blocks_of, end_in, start_in, block_bytes}
use Rattle.blocks.specs.Rewrite.{end_rewritten}
use Rattle.blocks.proofs.Parts.{block_codes}

-- each element is a byte
abbrev Small : List ℕ → Type 0
Small [] = Unit {0}
Small (x ∷ l) = (x < 256) × Small l

small_bytes : (l : List ℕ) → Small l → Bytes l
small_bytes [] s i = omega arith
small_bytes (x ∷ l) s zero = s.0
small_bytes (x ∷ l) s (suc i) = small_bytes l s.1 i

bytes_small : (l : List ℕ) → Bytes l → Small l
bytes_small [] b = tt
bytes_small (x ∷ l) b = (b 0, bytes_small l (λ i. b (suc i)))

small-append : (p q : List ℕ) → Small p → Small q → Small (p ++ q)
small-append [] q f g = g
small-append (x ∷ p) q f g = (f.0, small-append p q f.1 g)

small-take : (n : ℕ) (l : List ℕ) → Small l → Small (take n l)
small-take zero l b = tt
small-take (suc n) [] b = tt
small-take (suc n) (x ∷ l) b = (b.0, small-take n l b.1)

small-drop : (n : ℕ) (l : List ℕ) → Small l → Small (drop n l)
small-drop zero l b = b
small-drop (suc n) [] b = tt
small-drop (suc n) (x ∷ l) b = small-drop n l b.1

small_word : (x : ℕ) → Small (word_bytes x)
unfolding word_bytes
small_word x = (omega arith, (omega arith, (omega arith, (omega arith, tt))))

small_tag : (r : Record) → Small (tag_bytes r)
unfolding tag_bytes
small_tag r = (omega arith, (omega arith, (omega arith, (omega arith, tt))))

small_record : (r : Record) → Small (record_bytes r)
small_record r =
    small-append (tag_bytes r) _ (small_tag r)
    (small-append (word_bytes r.stmt) _ (small_word r.stmt)
    (small-append (word_bytes r.p1) _ (small_word r.p1)
    (small-append (word_bytes r.p2) _ (small_word r.p2)
    (small-append (word_bytes r.p3) _ (small_word r.p3)
    (small-append (word_bytes r.p4) _ (small_word r.p4)
    (small-append (word_bytes r.p5) (word_bytes r.p6) (small_word r.p5) (small_word r.p6)))))))

-- what is taken out of bytes are bytes
pub bytes-part : (n s : ℕ) (b : List ℕ) → Bytes b → Bytes (take n (drop s b))
bytes-part n s b h = small_bytes (take n (drop s b)) (small-take n (drop s b) (small-drop s b (bytes_small b h)))

pub bytes_drop : (n : ℕ) (b : List ℕ) → Bytes b → Bytes (drop n b)
bytes_drop n b h = small_bytes (drop n b) (small-drop n b (bytes_small b h))

-- and what is copied to them
pub bytes-paste : (d : List ℕ) (at : ℕ) (s : List ℕ) (n : ℕ) → Bytes d → Bytes s → Bytes (paste d at s n)
bytes-paste d at s n h g =
    let f = small-append (take at d) (take n s) (small-take at d (bytes_small d h)) (small-take n s (bytes_small s g)) in
    small_bytes (paste d at s n) (small-append (take at d ++ take n s) (drop (at + n) d) f (small-drop (at + n) d (bytes_small d h)))

-- and what is written to them
pub put-bytes : (b : List ℕ) (k : ℕ) (r : Record) → Bytes b → Bytes (put_of b k r)
unfolding put_of
put-bytes b k r h = go (ltb k (length b / 32))
  where
    go : (t : Bool) → Bytes (cond t (take (32 * k) b ++ (record_bytes r ++ drop (32 * k + 32) b)) b)
    go false = h
    go true =
        let s = bytes_small b h in
        let rest = record_bytes r ++ drop (32 * k + 32) b in
        small_bytes (take (32 * k) b ++ rest)
        (small-append (take (32 * k) b) rest (small-take (32 * k) b s)
        (small-append (record_bytes r) (drop (32 * k + 32) b) (small_record r) (small-drop (32 * k + 32) b s)))

pub end-bytes : (code : List ℕ) (r : Record) (i : Inst) → Bytes code → Bytes (end_rewritten code r i)
unfolding end_rewritten
end-bytes code r i h = go (ltb r.p1 r.p2)
  where
    go : (t : Bool) → Bytes (cond t (put_of code (r.p2 - 1) (rewritten_record (record_at code (r.p2 - 1)) i)) code)
    go false = h
    go true = put-bytes code (r.p2 - 1) (rewritten_record (record_at code (r.p2 - 1)) i) h

pub end-length : (code : List ℕ) (r : Record) (i : Inst) → length (end_rewritten code r i) ≡ length code
unfolding end_rewritten
end-length code r i = go (ltb r.p1 r.p2)
  where
    go : (t : Bool) → length (cond t (put_of code (r.p2 - 1) (rewritten_record (record_at code (r.p2 - 1)) i)) code) ≡ length code
    go false = refl
    go true = put-length code (r.p2 - 1) (rewritten_record (record_at code (r.p2 - 1)) i)

-- a code of bytes holds instructions in range
pub codes_range : (code : List ℕ) (k : ℕ) → Bytes code → InRange (code_at (codes_of code) k)
codes_range code k h = subst InRange (sym (code-at code k)) (read-range (record_at code k) (fits-at code k h))

pub block-range : (code table : List ℕ) (k j : ℕ) → Bytes code → InRange (code_at (get_or (blocks_of code table) k []) j)
block-range code table k j h =
    let n = length code / 32 in
    let r = record_at table k in
    let s = start_in n r.p1 r.p2 in
    let b = bytes-part (32 * end_in n r.p2 - 32 * s) (32 * s) code h in
    subst (λ (c : List Code). InRange (code_at c j)) (block_codes code table k)
    (codes_range (block_bytes code table k) j b)
