-- The records of a part of some bytes are a part of the records; so a block's bytes hold the block's records.
use Prim.Native.Nat.{ℕ, ◌+◌, ◌*◌, ◌-◌, ◌/◌, ◌≤◌, ◌<◌, min}
use native.Mathlib.Nat.{add-zero}
use native.Mathlib.Omega.{arith}
use mathlib.Core.Path.{◌≡◌, sym, ap, ◌∙◌}
use mathlib.Core.List.{List, [], map}
use mathlib.Core.Logic.{◌⊎◌, inl, inr}
use lib.Dec.{lit<}
use lib.ListN.{length, get_or, take, drop, length-drop, length-map, drop_of_length-le, get_or-map}
use lib.Seq.{get_or-take, get_or-drop, length-take-le, ext_get_or, take-nil, take_all}
use Rattle.general.proofs.Numbers.{order}
use Rattle.records.specs.declared.Record.{Record}
use Rattle.records.specs.Record.{word_at, record_in, records_of, record_at, blank}
use Rattle.records.proofs.Laws.{length_records, record_at_lem}
use Rattle.read.specs.Structure.{code_of as recordsOfBlock}
use Rattle.codec.specs.Codec.{code_of}
use Rattle.procedure.specs.Procedure.{codes_of}
use Rattle.blocks.specs.Blocks.{block_records_in, blocks_of, end_in, start_in, bytes_of_block, block_bytes}

-- two places of bytes that agree over a record
module _ (x b : List ℕ) (at to : ℕ) (f : (j : ℕ) → j < 32 → get_or x (at + j) 0 ≡ get_or b (to + j) 0) where
  byte : (o k : ℕ) → o + k < 32 → get_or x (at + o + k) 0 ≡ get_or b (to + o + k) 0
  byte o k h =
      let d : at + o + k ≡ at + (o + k) = omega arith in
      let e : to + (o + k) ≡ to + o + k = omega arith in
      ap (λ (n : ℕ). get_or x n 0) d ∙ f (o + k) h ∙ ap (λ (n : ℕ). get_or b n 0) e

  word : (o : ℕ) → o + 3 < 32 → word_at x (at + o) ≡ word_at b (to + o)
  word o h = rw (f o (omega arith), byte o 1 (omega arith), byte o 2 (omega arith), byte o 3 h)

  first : get_or x at 0 ≡ get_or b to 0
  first = ap (λ (n : ℕ). get_or x n 0) (sym (add-zero at)) ∙ f 0 (lit< tt) ∙ ap (λ (n : ℕ). get_or b n 0) (add-zero to)

  pub record_same : record_in x at ≡ record_in b to
  record_same =
      let t = f 1 (lit< tt) in
      let u = f 2 (lit< tt) in
      let v = f 3 (lit< tt) in
      rw (first, t, u, v, word 4 (lit< tt), word 8 (lit< tt), word 12 (lit< tt))
      (rw (word 16 (lit< tt), word 20 (lit< tt), word 24 (lit< tt), word 28 (lit< tt)))

-- m records from record s on
module _ (b : List ℕ) (s m : ℕ) (h : s + m ≤ length b / 32) where
  bytes : List ℕ
  bytes = take (32 * m) (drop (32 * s) b)

  bytes-length : length bytes ≡ 32 * m
  unfolding bytes
  bytes-length = length-take-le (32 * m) (drop (32 * s) b) (let e = length-drop (32 * s) b in omega arith)

  at_byte : (i j : ℕ) → i < m → j < 32 → get_or bytes (32 * i + j) 0 ≡ get_or b (32 * (s + i) + j) 0
  unfolding bytes
  at_byte i j p q =
      let e : 32 * s + (32 * i + j) ≡ 32 * (s + i) + j = omega arith in
      get_or-take (32 * m) (drop (32 * s) b) (32 * i + j) 0 (omega arith)
      ∙ get_or-drop (32 * s) b (32 * i + j) 0
      ∙ ap (λ (n : ℕ). get_or b n 0) e

  records_length : length (records_of bytes) ≡ m
  records_length = let e = bytes-length in length_records bytes ∙ omega arith

  part_length : length (take m (drop s (records_of b))) ≡ m
  part_length =
      let e = length-drop s (records_of b) in
      let n = length_records b in
      length-take-le m (drop s (records_of b)) (omega arith)

  pub records_part : records_of (take (32 * m) (drop (32 * s) b)) ≡ take m (drop s (records_of b))
  unfolding bytes
  records_part = ext_get_or blank (records_of bytes) (take m (drop s (records_of b))) (records_length ∙ sym part_length) each
    where
      each : (i : ℕ) → i < length (records_of bytes) → get_or (records_of bytes) i blank ≡ get_or (take m (drop s (records_of b))) i blank
      each i q =
          let n = records_length in
          let l = bytes-length in
          record_at_lem bytes i (omega arith)
          ∙ record_same bytes b (32 * i) (32 * (s + i)) (λ j r. at_byte i j (omega arith) r)
          ∙ sym (get_or-take m (drop s (records_of b)) i blank (omega arith) ∙ get_or-drop s (records_of b) i blank ∙ record_at_lem b (s + i) (omega arith))

-- a block's start and end, kept within the code
module _ {A : Type 0} (l : List A) (s e : ℕ) where
  pub kept-within : take (min e (length l) - min s (min e (length l))) (drop (min s (min e (length l))) l) ≡ take (e - s) (drop s l)
  kept-within = go (order s (min e (length l))) (order e (length l))
    where
      go : (s < min e (length l)) ⊎ (min e (length l) ≤ s) → (e < length l) ⊎ (length l ≤ e)
          → take (min e (length l) - min s (min e (length l))) (drop (min s (min e (length l))) l) ≡ take (e - s) (drop s l)
      go (inl i) (inl j) =
          let x : min e (length l) ≡ e = omega arith in
          let y : min s e ≡ s = omega arith in
          rw (x, y)
      go (inl i) (inr j) =
          let x : min e (length l) ≡ length l = omega arith in
          let y : min s (length l) ≡ s = omega arith in
          let d = length-drop s l in
          rw (x, y) (take_all (length l - s) (drop s l) (omega arith) ∙ sym (take_all (e - s) (drop s l) (omega arith)))
      go (inr i) (inl j) =
          let x : min e (length l) - min s (min e (length l)) ≡ 0 = omega arith in
          let y : e - s ≡ 0 = omega arith in
          rw (x, y)
      go (inr i) (inr j) =
          let x : min e (length l) - min s (min e (length l)) ≡ 0 = omega arith in
          rw (x, drop_of_length-le l {i = s} (omega arith)) (sym (take-nil (e - s)))

-- the records of a block's bytes, one by one
module _ (code : List ℕ) (r : Record) where
  abbrev pub end-within : ℕ
  end-within = end_in (length code / 32) r.p2

  abbrev pub start-within : ℕ
  start-within = start_in (length code / 32) r.p1 r.p2

  pub records_between : records_of (bytes_of_block code r) ≡ take (end-within - start-within) (drop start-within (records_of code))
  records_between =
      let x : 32 * end-within - 32 * start-within ≡ 32 * (end-within - start-within) = omega arith in
      ap (λ (i : ℕ). records_of (take i (drop (32 * start-within) code))) x ∙ records_part code start-within (end-within - start-within) (omega arith)

  pub between_length : length (records_of (bytes_of_block code r)) ≡ end-within - start-within
  between_length =
      let d = length-drop start-within (records_of code) in
      let n = length_records code in
      ap length records_between ∙ length-take-le (end-within - start-within) (drop start-within (records_of code)) (omega arith)

  pub between_at : (j : ℕ) → j < end-within - start-within → record_at (bytes_of_block code r) j ≡ record_at code (start-within + j)
  between_at j h =
      ap (λ (l : List Record). get_or l j blank) records_between
      ∙ get_or-take (end-within - start-within) (drop start-within (records_of code)) j blank h
      ∙ get_or-drop start-within (records_of code) j blank

module _ (code : List ℕ) where
  -- a block's bytes hold its records
  pub records_in_lem : (r : Record) → records_of (bytes_of_block code r) ≡ recordsOfBlock (records_of code) r
  records_in_lem r =
      let m = length_records code in
      records_between code r
      ∙ ap (λ (i : ℕ). take (min r.p2 i - min r.p1 (min r.p2 i)) (drop (min r.p1 (min r.p2 i)) (records_of code))) (sym m)
      ∙ kept-within (records_of code) r.p1 r.p2

  module _ (table : List ℕ) where
    pub records_at : (k : ℕ) → get_or (block_records_in code table) k [] ≡ recordsOfBlock (records_of code) (record_at table k)
    records_at k = get_or-map (recordsOfBlock (records_of code)) (records_of table) k blank

    pub codes_at : (k : ℕ) → get_or (blocks_of code table) k [] ≡ map code_of (get_or (block_records_in code table) k [])
    codes_at k = get_or-map (map code_of) (block_records_in code table) k []

    -- the bytes of block k hold the records and the instructions of block k
    pub block_records_lem : (k : ℕ) → records_of (block_bytes code table k) ≡ get_or (block_records_in code table) k []
    block_records_lem k = records_in_lem (record_at table k) ∙ sym (records_at k)

    pub block_codes : (k : ℕ) → codes_of (block_bytes code table k) ≡ get_or (blocks_of code table) k []
    block_codes k = ap (map code_of) (block_records_lem k) ∙ sym (codes_at k)

    pub length-table : length (block_records_in code table) ≡ length table / 32
    length-table = length-map (records_of table) (recordsOfBlock (records_of code)) ∙ length_records table

    pub length-blocks : length (blocks_of code table) ≡ length table / 32
    length-blocks = length-map (block_records_in code table) (map code_of) ∙ length-table
