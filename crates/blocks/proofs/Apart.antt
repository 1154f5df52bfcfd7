-- Blocks that lie apart: what is stored at a place of one is seen in no other. Blocks that tile lie apart.
use Prim.Native.Nat.{ℕ, zero, suc, ◌+◌, ◌-◌, ◌/◌, ◌≤◌, ◌<◌}
use native.Mathlib.Omega.{arith}
use mathlib.Core.Path.{◌≡◌, refl, sym, ap, ◌∙◌}
use mathlib.Core.Bool.{true}
use mathlib.Core.List.{List, [], ◌∷◌, map}
use mathlib.Core.Logic.{◌⊎◌, inl, inr}
use borrow.Author.Tests.{eqb-true, ltb-true, leb-true}
use lib.Dec.{eqb, ltb, leb}
use lib.ListN.{length, get_or, take, drop, set, length-drop, get_or-map}
use lib.Seq.{drop-set-lt, drop-set-add, take-set-le, take-set-lt, get_or-take, get_or-drop, length-take-le, set-get_or}
use Rattle.general.proofs.Booleans.{and_first, and_second}
use Rattle.general.proofs.Numbers.{order}
use Rattle.general.proofs.Lists.{map-set}
use Rattle.records.specs.declared.Record.{Record}
use Rattle.records.specs.Record.{records_of, record_at, blank}
use Rattle.records.proofs.Laws.{length_records}
use Rattle.layout.specs.Walk.{walk}
use Rattle.layout.proofs.Walks.{walk_head, walk_tail}
use Rattle.put_record.specs.Store.{Bytes}
use Rattle.put_record.proofs.Laws.{put_records, fits-at}
use Rattle.read.specs.Structure.{State, tiles, next_block, code_of as recordsOfBlock}
use Rattle.inst.specs.declared.Inst.{Inst}
use Rattle.codec.specs.Codec.{code_of, record_of, in_range, rewritten_record}
use Rattle.codec.proofs.Laws.{written-fits}
use Rattle.ends.specs.Ends.{with_end}
use Rattle.codec.specs.Codec.{with_inst}
use Rattle.blocks.specs.Blocks.{block_records_in, blocks_of, Canonical}
use Rattle.blocks.specs.Rewrite.{end_rewritten, last_by, Holds, Apart, Tiled}
use Rattle.blocks.proofs.Parts.{records_at, codes_at}
use Rattle.blocks.proofs.Rewrites.{end_rewritten_lem, end_kept, last_set, last_codes, last_records}

-- one element after the other, each block starts at or after the end of the one before, holds code, and ends within n
abbrev Row : ℕ → ℕ → List Record → Type 0
Row n due [] = Unit {0}
Row n due (r ∷ rs) = (due ≤ r.p1) × (r.p1 < r.p2) × (r.p2 ≤ n) × Row n r.p2 rs

tiles_are : (n : ℕ) (s : State) (r : Record) → tiles n s r ≡ true → (r.p1 ≡ s.0) × (r.p1 < r.p2) × (r.p2 ≤ n)
unfolding tiles
tiles_are n s r t =
    let u = and_second (eqb r.p1 s.0) _ t in
    let v = and_second (ltb r.p1 r.p2) _ u in
    let x = eqb-true r.p1 s.0 (and_first (eqb r.p1 s.0) _ t) in
    (x, ltb-true r.p1 r.p2 (and_first (ltb r.p1 r.p2) _ u), leb-true r.p2 n (and_first (leb r.p2 n) _ v))

row : (n : ℕ) (s : State) (rs : List Record) → walk (tiles n) next_block s rs ≡ length rs → Row n s.0 rs
row n s [] e = tt
row n s (r ∷ rs) e =
    let t = tiles_are n s r (walk_head (tiles n) next_block s r rs e) in
    let p = t.0 in
    (omega arith, t.1, t.2, row n (next_block s r) rs (walk_tail (tiles n) next_block s r rs e))

row_within : (n due : ℕ) (rs : List Record) → Row n due rs → (k x : ℕ) → Holds (get_or rs k blank) x → x < n
row_within n due [] a k x h = absurd (let t = h.to in omega arith)
row_within n due (r ∷ rs) a zero x h = let t = h.to in let b = a.2 in omega arith
row_within n due (r ∷ rs) a (suc k) x h = row_within n r.p2 rs a.3 k x h

row_after : (n due : ℕ) (rs : List Record) → Row n due rs → (k x : ℕ) → Holds (get_or rs k blank) x → due ≤ x
row_after n due [] a k x h = absurd (let t = h.to in omega arith)
row_after n due (r ∷ rs) a zero x h = let b = a.0 in let f = h.from in omega arith
row_after n due (r ∷ rs) a (suc k) x h =
    let b = a.0 in
    let d = a.1 in
    let l = row_after n r.p2 rs a.3 k x h in
    omega arith

row_alone : (n due : ℕ) (rs : List Record) → Row n due rs → (j k x : ℕ) → Holds (get_or rs j blank) x → Holds (get_or rs k blank) x → j ≡ k
row_alone n due [] a j k x g h = absurd (let t = g.to in omega arith)
row_alone n due (r ∷ rs) a zero zero x g h = refl
row_alone n due (r ∷ rs) a zero (suc k) x g h = absurd (let t = g.to in let l = row_after n r.p2 rs a.3 k x h in omega arith)
row_alone n due (r ∷ rs) a (suc j) zero x g h = absurd (let t = h.to in let l = row_after n r.p2 rs a.3 j x g in omega arith)
row_alone n due (r ∷ rs) a (suc j) (suc k) x g h = ap suc (row_alone n r.p2 rs a.3 j k x g h)

-- blocks that tile lie apart
pub tiled-apart : (code table : List ℕ) → Tiled code table → Apart (length code / 32) table
tiled-apart code table t =
    let n = length code / 32 in
    let rs = records_of table in
    let a = row n (0, length rs) rs t in
    record { within = row_within n 0 rs a; alone = row_alone n 0 rs a }

-- two lists whose elements look the same
map_same : {B : Type 0} (f g : Record → B) (rs qs : List Record) → length qs ≡ length rs
    → ((j : ℕ) → g (get_or qs j blank) ≡ f (get_or rs j blank)) → map g qs ≡ map f rs
map_same f g [] [] e o = refl
map_same f g [] (q ∷ qs) e o = absurd (omega arith)
map_same f g (r ∷ rs) [] e o = absurd (omega arith)
map_same f g (r ∷ rs) (q ∷ qs) e o =
    ap (λ (b : _). b ∷ map g qs) (o 0) ∙ ap (λ (l : List _). f r ∷ l) (map_same f g rs qs (omega arith) (λ j. o (suc j)))

-- but for one
pub map-one : {B : Type 0} (f g : Record → B) (rs qs : List Record) (k : ℕ) (v : B) → length qs ≡ length rs
    → ((j : ℕ) → (j ≡ k → ⊥) → g (get_or qs j blank) ≡ f (get_or rs j blank)) → (k < length rs → g (get_or qs k blank) ≡ v)
    → map g qs ≡ set (map f rs) k v
map-one f g [] [] zero v e o s = refl
map-one f g [] [] (suc k) v e o s = refl
map-one f g [] (q ∷ qs) k v e o s = absurd (omega arith)
map-one f g (r ∷ rs) [] k v e o s = absurd (omega arith)
map-one f g (r ∷ rs) (q ∷ qs) zero v e o s =
    ap (λ (b : _). b ∷ map g qs) (s (omega arith))
    ∙ ap (λ (l : List _). v ∷ l) (map_same f g rs qs (omega arith) (λ j. o (suc j) (λ z. omega arith)))
map-one f g (r ∷ rs) (q ∷ qs) (suc k) v e o s =
    ap (λ (b : _). b ∷ map g qs) (o 0 (λ z. omega arith))
    ∙ ap (λ (l : List _). f r ∷ l) (map-one f g rs qs k v (omega arith) (λ j n. o (suc j) (λ z. n (omega arith))) (λ i. s (omega arith)))

module _ {A : Type 0} (c : List A) (s e x : ℕ) (v : A) where
  -- a store outside a part
  pub outside : (s ≤ x → x < e → ⊥) → take (e - s) (drop s (set c x v)) ≡ take (e - s) (drop s c)
  outside h = go (order x s) (order x e)
    where
      go : (x < s) ⊎ (s ≤ x) → (x < e) ⊎ (e ≤ x) → take (e - s) (drop s (set c x v)) ≡ take (e - s) (drop s c)
      go (inl i) j = ap (take (e - s)) (drop-set-lt s c x v i)
      go (inr i) (inl j) = absurd (h i j)
      go (inr i) (inr j) =
          let m : x ≡ s + (x - s) = omega arith in
          ap (λ (n : ℕ). take (e - s) (drop s (set c n v))) m
          ∙ ap (take (e - s)) (drop-set-add s c (x - s) v)
          ∙ take-set-le (e - s) (drop s c) (x - s) v (omega arith)

  -- a store inside it
  pub inside : s ≤ x → x < e → take (e - s) (drop s (set c x v)) ≡ set (take (e - s) (drop s c)) (x - s) v
  inside i j =
      let m : x ≡ s + (x - s) = omega arith in
      ap (λ (n : ℕ). take (e - s) (drop s (set c n v))) m
      ∙ ap (take (e - s)) (drop-set-add s c (x - s) v)
      ∙ take-set-lt (e - s) (drop s c) (x - s) v (omega arith)

-- a block that isn't empty holds its last place
pub last-place : (r : Record) → r.p1 < r.p2 → Holds r (r.p2 - 1)
last-place r h = record { from = omega arith; to = omega arith }

-- a store at a block's own last place
pub own_last : (c : List Record) (r : Record) (f : Record → Record) → r.p1 < r.p2 → r.p2 ≤ length c
    → recordsOfBlock (set c (r.p2 - 1) (f (get_or c (r.p2 - 1) blank))) r ≡ last_by f (recordsOfBlock c r)
own_last c r f g h =
    let x = r.p2 - 1 in
    let d = length-drop r.p1 c in
    let l = length-take-le (r.p2 - r.p1) (drop r.p1 c) (omega arith) in
    let y : r.p1 + (x - r.p1) ≡ x = omega arith in
    let e : get_or (recordsOfBlock c r) (x - r.p1) blank ≡ get_or c x blank =
    get_or-take (r.p2 - r.p1) (drop r.p1 c) (x - r.p1) blank (omega arith)
    ∙ get_or-drop r.p1 c (x - r.p1) blank
    ∙ ap (λ (m : ℕ). get_or c m blank) y in
    inside c r.p1 r.p2 x (f (get_or c x blank)) (omega arith) (omega arith)
    ∙ ap (λ (q : Record). set (recordsOfBlock c r) (x - r.p1) (f q)) (sym e)
    ∙ sym (last_set f (recordsOfBlock c r) (x - r.p1) blank (l ∙ omega arith))

-- the last record of block k rewritten, where the blocks lie apart
module _
    (code table : List ℕ)
    (n : ℕ)
    (a : Apart n table)
    (fit : n ≤ length code / 32)
    (bytes : Bytes code)
    (k : ℕ)
    (i : Inst)
    (h : in_range i ≡ true)
  where
    written : (record_at table k).p1 < (record_at table k).p2
        → records_of (end_rewritten code (record_at table k) i)
        ≡ set (records_of code) ((record_at table k).p2 - 1) (rewritten_record (record_at code ((record_at table k).p2 - 1)) i)
    written g =
        let r = record_at table k in
        let old = record_at code (r.p2 - 1) in
        let w = a.within k (r.p2 - 1) (last-place r g) in
        let f = written-fits (with_inst i (code_of old)) (record { inst = h; stmt = (fits-at code (r.p2 - 1) bytes).stmt }) in
        ap records_of (sym (end_rewritten_lem code r i g)) ∙ put_records code (r.p2 - 1) (rewritten_record old i) (omega arith) f

    pub end_records : block_records_in (end_rewritten code (record_at table k) i) table
        ≡ set (block_records_in code table) k (last_by (λ r. rewritten_record r i) (get_or (block_records_in code table) k []))
    unfolding last_by
    end_records = go (order (record_at table k).p1 (record_at table k).p2)
      where
        go : ((record_at table k).p1 < (record_at table k).p2) ⊎ ((record_at table k).p2 ≤ (record_at table k).p1)
            → block_records_in (end_rewritten code (record_at table k) i) table
            ≡ set (block_records_in code table) k (last_by (λ r. rewritten_record r i) (get_or (block_records_in code table) k []))
        go (inr g) =
            let r = record_at table k in
            let P = block_records_in code table in
            let z : r.p2 - r.p1 ≡ 0 = omega arith in
            let e : get_or P k [] ≡ [] = records_at code table k ∙ ap (λ (m : ℕ). take m (drop r.p1 (records_of code))) z in
            ap (λ (b : List ℕ). block_records_in b table) (sym (end_kept code r i g))
            ∙ sym (set-get_or P k [])
            ∙ ap (set P k) (e ∙ sym (ap (last_by (λ (q : Record). rewritten_record q i)) e))
        go (inl g) =
            let r = record_at table k in
            let c = records_of code in
            let x = r.p2 - 1 in
            let v = rewritten_record (record_at code x) i in
            let rs = records_of table in
            let f : Record → Record = λ q. rewritten_record q i in
            let mine = last-place r g in
            let w = a.within k x mine in
            let m = length_records code in
            ap (λ (d : List Record). map (recordsOfBlock d) rs) (written g)
            ∙ map-one (recordsOfBlock c) (recordsOfBlock (set c x v)) rs rs k (last_by f (get_or (block_records_in code table) k [])) refl
            (λ j ne. let q = record_at table j in outside c q.p1 q.p2 x v (λ s t. ne (a.alone j k x (record { from = s; to = t }) mine)))
            (λ z. own_last c r f g (omega arith) ∙ ap (last_by f) (sym (records_at code table k)))

    pub end_codes : blocks_of (end_rewritten code (record_at table k) i) table ≡ set (blocks_of code table) k (with_end i (get_or (blocks_of code table) k []))
    end_codes =
        let P = block_records_in code table in
        ap (map (map code_of)) end_records
        ∙ map-set (map code_of) P k (last_by (λ (r : Record). rewritten_record r i) (get_or P k []))
        ∙ ap (set (blocks_of code table) k) (last_codes i h (get_or P k []) ∙ ap (with_end i) (sym (codes_at code table k)))

    -- what was canonical stays so
    pub end-canonical : Canonical code table → Canonical (end_rewritten code (record_at table k) i) table
    end-canonical c =
        let P = blocks_of code table in
        end_records
        ∙ ap (λ (R : List (List Record)). set R k (last_by (λ (r : Record). rewritten_record r i) (get_or R k []))) c
        ∙ ap (λ (b : List Record). set (map (map record_of) P) k (last_by (λ (r : Record). rewritten_record r i) b)) (get_or-map (map record_of) P k [])
        ∙ ap (set (map (map record_of) P) k) (last_records i (get_or P k []))
        ∙ sym (ap (map (map record_of)) end_codes ∙ map-set (map record_of) P k (with_end i (get_or P k [])))
