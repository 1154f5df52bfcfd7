-- Blocks that tile the code, and the code of each.
use Prim.Native.Nat.{ℕ, suc, ◌+◌, ◌-◌, ◌≤◌, ◌<◌}
use native.Mathlib.Omega.{arith}
use mathlib.Core.Path.{◌≡◌, refl, sym, ap, subst, ◌∙◌}
use mathlib.Core.Bool.{Bool, true, false, ◌||◌, not}
use mathlib.Core.List.{List, [], ◌∷◌, ◌++◌, map, append-nil}
use mathlib.Core.Logic.{◌⊎◌, inl, inr}
use borrow.Author.Tests.{ltb-true, leb-true, eqb-true, lt-ltb, le-leb, eq-eqb}
use lib.Dec.{eqb, ltb, leb}
use lib.ListN.{length, take, drop, length-append, length-map, length-drop, take-append-drop}
use lib.Seq.{take_all, take_at, drop_at, drop-drop, length-take-le}
use Rattle.general.proofs.Booleans.{cases, and_first, and_second}
use Rattle.records.specs.declared.Record.{Record}
use Rattle.layout.specs.Walk.{walk}
use Rattle.layout.specs.Work.{right_of}
use Rattle.layout.proofs.Walks.{walk_pass, walk_head, walk_tail}
use Rattle.layout.proofs.Order.{in-class}
use Rattle.read.specs.Structure.{tiles, next_block, code_of as recordsOfBlock}
use Rattle.inst.specs.declared.Code.{Code}
use Rattle.codec.specs.Codec.{code_of, record_of, InRange}
use Rattle.codec.proofs.Laws.{read_back}
use Rattle.items.specs.Items.{block_record}
use Rattle.items.proofs.Laws.{block_write_back}
use Rattle.procedure.specs.Lists.{joined}
use Rattle.steps.specs.Write.{block_records}
use Rattle.round_trips.specs.WellFormed.{All}
use Rattle.round_trips.proofs.Lists.{map_back}
use Rattle.round_trips.proofs.Sections.{is_right}

-- a block that tiles, after blocks that end at due
pub record Tile (n due left : ℕ) (r : Record) : Type 0 where
  pub start : r.p1 ≡ due
  pub some : r.p1 < r.p2
  pub within : r.p2 ≤ n
  pub last : left ≡ 1 → r.p2 ≡ n

pub last_of : (left : ℕ) (x : Bool) → (not (eqb left 1) || x) ≡ true → left ≡ 1 → x ≡ true
last_of left x e h = sym (rw (eq-eqb left 1 h)) ∙ e

pub tile : (n due left : ℕ) (r : Record) → tiles n (due, left) r ≡ true → Tile n due left r
unfolding tiles
tile n due left r e =
    let f = and_second (eqb r.p1 due) _ e in
    let g = and_second (ltb r.p1 r.p2) _ f in
    let h = and_second (leb r.p2 n) _ g in
    record {
      start = eqb-true r.p1 due (and_first (eqb r.p1 due) _ e);
      some = ltb-true r.p1 r.p2 (and_first (ltb r.p1 r.p2) _ f);
      within = leb-true r.p2 n (and_first (leb r.p2 n) _ g);
      last = λ i. eqb-true r.p2 n (last_of left (eqb r.p2 n) h i);
    }

-- all of some blocks tile, from a place on
abbrev pub Tiled : ℕ → ℕ → List Record → Type 0
Tiled n due bs = walk (tiles n) next_block (due, length bs) bs ≡ length bs

module _ (n due : ℕ) (r : Record) (bs : List Record) (h : Tiled n due (r ∷ bs)) where
  pub first_tile : Tile n due (suc (length bs)) r
  first_tile = tile n due (suc (length bs)) r (walk_head (tiles n) next_block (due, suc (length bs)) r bs h)

  pub next-tiles : Tiled n r.p2 bs
  next-tiles =
      let e : suc (length bs) - 1 ≡ length bs = omega arith in
      subst (λ (k : ℕ). walk (tiles n) next_block (r.p2, k) bs ≡ length bs) e (walk_tail (tiles n) next_block (due, suc (length bs)) r bs h)

module _ (code : List Record) where
  part-size : (due left : ℕ) (r : Record) → Tile (length code) due left r → length (recordsOfBlock code r) ≡ r.p2 - r.p1
  part-size due left r t = length-take-le (r.p2 - r.p1) (drop r.p1 code) (let e = length-drop r.p1 code in omega arith)

  -- blocks are written as they were read
  pub blocks-back : (due : ℕ) (bs : List Record) → Tiled (length code) due bs → All (λ r. right_of 2 r ≡ true) bs →
      block_records due (map (λ b. map code_of (recordsOfBlock code b)) bs) ≡ bs
  unfolding block_records
  blocks-back due [] h c = refl
  blocks-back due (r ∷ bs) h c =
      let t = first_tile (length code) due r bs h in
      let m : length (map code_of (recordsOfBlock code r)) ≡ r.p2 - r.p1 = length-map (recordsOfBlock code r) code_of ∙ part-size due _ r t in
      let e : due + length (map code_of (recordsOfBlock code r)) ≡ r.p2 = omega arith in
      let s = t.start in
      rw (e, blocks-back r.p2 bs (next-tiles (length code) due r bs h) c.1, ← s, block_write_back r (is_right 2 r c.0) (in-class 2 r c.0))

  -- the parts of the blocks are the code
  pub code-back : (due : ℕ) (b : Record) (bs : List Record) → Tiled (length code) due (b ∷ bs) → joined (map (recordsOfBlock code) (b ∷ bs)) ≡ drop due code
  code-back due r [] h =
      let t = first_tile (length code) due r [] h in
      append-nil (recordsOfBlock code r)
      ∙ take_all (r.p2 - r.p1) (drop r.p1 code) (let e = length-drop r.p1 code in let f = t.last refl in omega arith)
      ∙ ap (λ (k : ℕ). drop k code) t.start
  code-back due r (b ∷ bs) h =
      let t = first_tile (length code) due r (b ∷ bs) h in
      let e : r.p1 + (r.p2 - r.p1) ≡ r.p2 = omega arith in
      ap (λ (l : List Record). recordsOfBlock code r ++ l)
      (code-back r.p2 b bs (next-tiles (length code) due r (b ∷ bs) h)
      ∙ ap (λ (k : ℕ). drop k code) (sym e)
      ∙ sym (drop-drop (r.p2 - r.p1) r.p1 code))
      ∙ take-append-drop (r.p2 - r.p1) (drop r.p1 code)
      ∙ ap (λ (k : ℕ). drop k code) t.start

pub map-append : {A B : Type 0} (f : A → B) (x y : List A) → map f (x ++ y) ≡ map f x ++ map f y
map-append f [] y = refl
map-append f (a ∷ x) y = ap (λ (l : List _). f a ∷ l) (map-append f x y)

pub joined-map : {A B : Type 0} (f : A → B) (xs : List (List A)) → joined (map (map f) xs) ≡ map f (joined xs)
joined-map f [] = refl
joined-map f (x ∷ xs) = ap (λ (l : List _). map f x ++ l) (joined-map f xs) ∙ sym (map-append f x (joined xs))

-- blocks as they are written tile
pub length-blocks : (due : ℕ) (cs : List (List Code)) → length (block_records due cs) ≡ length cs
unfolding block_records
length-blocks due [] = refl
length-blocks due (c ∷ cs) = ap suc (length-blocks (due + length c) cs)

pub to_last : (left : ℕ) (x : Bool) → (left ≡ 1 → x ≡ true) → (not (eqb left 1) || x) ≡ true
to_last left x h = by (cases (eqb left 1))
  where
    by : (eqb left 1 ≡ true) ⊎ (eqb left 1 ≡ false) → (not (eqb left 1) || x) ≡ true
    by (inl e) = rw (e, h (eqb-true left 1 e))
    by (inr e) = rw e

tile_ok : (n due left : ℕ) (r : Record) → r.p1 ≡ due → r.p1 < r.p2 → r.p2 ≤ n → (left ≡ 1 → eqb r.p2 n ≡ true) → tiles n (due, left) r ≡ true
unfolding tiles
tile_ok n due left r a b c d = rw (eq-eqb r.p1 due a, lt-ltb r.p1 r.p2 b, le-leb r.p2 n c) (to_last left (eqb r.p2 n) d)

none-joined : (cs : List (List Code)) → length cs ≡ 0 → length (joined cs) ≡ 0
none-joined [] e = refl
none-joined (c ∷ cs) e = absurd (omega arith)

pub blocks_tile : (n due : ℕ) (cs : List (List Code)) → All (λ c. 1 ≤ length c) cs → due + length (joined cs) ≡ n → Tiled n due (block_records due cs)
unfolding block_records walk
blocks_tile n due [] h e = refl
blocks_tile n due (c ∷ cs) h e =
    let bs = block_records (due + length c) cs in
    let m = length-append c (joined cs) in
    let last : suc (length bs) ≡ 1 → eqb (due + length c) n ≡ true = λ i. eq-eqb (due + length c) n
    (let z = none-joined cs (let k = length-blocks (due + length c) cs in omega arith) in omega arith) in
    let r = block_record (record { start = due; end = due + length c }) in
    let ok : tiles n (due, suc (length bs)) r ≡ true = tile_ok n due (suc (length bs)) r refl (let i = h.0 in omega arith) (omega arith) last in
    let k : suc (length bs) - 1 ≡ length bs = omega arith in
    walk_pass (tiles n) next_block bs ok
    ∙ ap suc (ap (λ (x : ℕ). walk (tiles n) next_block (due + length c, x) bs) k ∙ blocks_tile n (due + length c) cs h.1 (omega arith))

-- the part of the code that a block has
module _ (code : List Record) (due : ℕ) (c : List Code) (cs : List (List Code)) (e : drop due code ≡ map record_of (c ++ joined cs)) where
  split : drop due code ≡ map record_of c ++ map record_of (joined cs)
  split = e ∙ map-append record_of c (joined cs)

  pub part-is : recordsOfBlock code (block_record (record { start = due; end = due + length c })) ≡ map record_of c
  part-is =
      let k : due + length c - due ≡ length c = omega arith in
      ap (λ (m : ℕ). take m (drop due code)) k
      ∙ ap (take (length c)) split
      ∙ take_at (map record_of c) (map record_of (joined cs)) (length c) (length-map c record_of)

  pub rest_is : drop (due + length c) code ≡ map record_of (joined cs)
  rest_is =
      sym (drop-drop (length c) due code)
      ∙ ap (drop (length c)) split
      ∙ drop_at (map record_of c) (map record_of (joined cs)) (length c) (length-map c record_of)

module _ (code : List Record) where
  -- blocks are read as they were written
  pub parts-back : (due : ℕ) (cs : List (List Code)) → drop due code ≡ map record_of (joined cs) → All (All InRange) cs →
      map (λ b. map code_of (recordsOfBlock code b)) (block_records due cs) ≡ cs
  unfolding block_records
  parts-back due [] e h = refl
  parts-back due (c ∷ cs) e h =
      rw (part-is code due c cs e, map_back {P = InRange} record_of code_of read_back c h.0, parts-back (due + length c) cs (rest_is code due c cs e) h.1)

  -- what holds of the records of each block's code
  pub all-parts : (P : List Record → Type 0) (due : ℕ) (cs : List (List Code)) → drop due code ≡ map record_of (joined cs) →
      All (λ c. P (map record_of c)) cs → All (λ r. P (recordsOfBlock code r)) (block_records due cs)
  unfolding block_records
  all-parts P due [] e h = tt
  all-parts P due (c ∷ cs) e h = (subst P (sym (part-is code due c cs e)) h.0, all-parts P (due + length c) cs (rest_is code due c cs e) h.1)
