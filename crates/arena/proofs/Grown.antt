-- Where the blocks lie apart and block k is the last, a pop takes its last instruction and a push adds one; the other blocks stay.
use Prim.Native.Nat.{ℕ, suc, ◌+◌, ◌-◌, ◌/◌, ◌≤◌, ◌<◌, ◌^◌, min}
use native.Mathlib.Omega.{arith}
use mathlib.Core.Path.{◌≡◌, refl, sym, ap, subst, ◌∙◌}
use mathlib.Core.Bool.{true}
use mathlib.Core.List.{List, [], ◌∷◌, ◌++◌, map}
use mathlib.Core.Logic.{◌⊎◌, inl, inr}
use borrow.Author.Tests.{leb-true, le-leb, lt-ltb, eq-eqb}
use lib.ListN.{length, get_or, take, drop, set, length-drop, length-map, get_or-map}
use lib.Seq.{take-take, take-suc-set, drop-set-add, length-take-le, set-set, get_or-set_same}
use Rattle.std.proofs.lemmas.List.{take-map, map_push}
use Rattle.general.proofs.Numbers.{order}
use Rattle.general.proofs.Lists.{map-set}
use Rattle.records.specs.declared.Record.{Record}
use Rattle.records.specs.Record.{records_of, record_at}
use Rattle.records.proofs.Laws.{length_records}
use Rattle.put_record.specs.Store.{put_of}
use Rattle.put_record.proofs.Laws.{fits-at, put_records, put-length}
use Rattle.read.specs.Structure.{code_of as recordsOfBlock}
use Rattle.inst.specs.declared.Code.{Code}
use Rattle.codec.specs.Codec.{code_of, record_of, InRange}
use Rattle.codec.proofs.Laws.{written-fits, read_back}
use Rattle.ends.specs.Ends.{front}
use Rattle.blocks.specs.Blocks.{block_records_in, blocks_of, Canonical}
use Rattle.blocks.specs.Rewrite.{Holds, Apart}
use Rattle.blocks.proofs.Parts.{records_at, codes_at, length-blocks}
use Rattle.blocks.proofs.Rewrites.{front-take}
use Rattle.blocks.proofs.Bytes.{put-bytes}
use Rattle.blocks.proofs.Apart.{outside}
use Rattle.arena.specs.Arena.{Arena, arena, Topped, topped, pointed, room, popped, pop, grows, push}
use Rattle.arena.proofs.Laws.{by_popped, by_grows}
use Rattle.arena.proofs.Pointed.{block_at, pointed-there, pointed-other, pointed-length, blocks_with, apart_with}
use Rattle.arena.proofs.Moved.{Sound, Last}

-- a block without its last record
abbrev pub front_records : List Record → List Record
front_records b = take (length b - 1) b

front_codes : (b : List Record) → map code_of (front_records b) ≡ front (map code_of b)
front_codes b =
    sym (take-map code_of (length b - 1) b)
    ∙ ap (λ (n : ℕ). take (n - 1) (map code_of b)) (sym (length-map b code_of))
    ∙ front-take (map code_of b)

-- the storage t holds the blocks of s, but for block k, which is the last in it
pub record Grown (s t : Arena) (k : ℕ) (v : List Record) (b : List Code) : Type 0 where
  pub records : block_records_in t.work t.table ≡ set (block_records_in s.work s.table) k v
  pub codes : blocks_of t.work t.table ≡ set (blocks_of s.work s.table) k b
  pub sound : Sound t
  pub last : Last (record_at t.table k) t.top

-- one after the other
pub grown_then : {s t u : Arena} {k : ℕ} {v v' : List Record} {b b' : List Code} → Grown s t k v b → Grown t u k v' b' → Grown s u k v' b'
grown_then {s} {t} {u} {k} {v} {v'} {b} {b'} f g = record {
  records =
      g.records
      ∙ ap (λ (R : List (List Record)). set R k v') f.records
      ∙ set-set (block_records_in s.work s.table) k v v';
  codes = g.codes ∙ ap (λ (B : List (List Code)). set B k b') f.codes ∙ set-set (blocks_of s.work s.table) k b b';
  sound = g.sound;
  last = g.last;
}

-- block k of t
pub grown-block : {s t : Arena} {k : ℕ} {v : List Record} {b : List Code} → Grown s t k v b → k < length s.table / 32
    → get_or (blocks_of t.work t.table) k [] ≡ b
grown-block {s} {t} {k} {v} {b} g h =
    ap (λ (B : List (List Code)). get_or B k []) g.codes
    ∙ get_or-set_same (blocks_of s.work s.table) k b [] (rw (length-blocks s.work s.table) h)

codes_with : (s t : Arena) (k : ℕ) (v : List Record) (b : List Code)
    → block_records_in t.work t.table ≡ set (block_records_in s.work s.table) k v
    → map code_of v ≡ b
    → blocks_of t.work t.table ≡ set (blocks_of s.work s.table) k b
codes_with s t k v b e f =
    ap (map (map code_of)) e
    ∙ map-set (map code_of) (block_records_in s.work s.table) k v
    ∙ ap (set (blocks_of s.work s.table) k) f

module _ (s : Arena) (w : Sound s) (k : ℕ) (h : k < length s.table / 32) (l : Last (record_at s.table k) s.top) where
  start : (record_at s.table k).p1 < 2 ^ 32
  start = (fits-at s.table k w.table-bytes).p1

  -- a block that holds a record loses it
  module _ (g : (record_at s.table k).p1 < (record_at s.table k).p2) where
    table-popped : List ℕ
    table-popped = pointed s.table k (record_at s.table k).p1 ((record_at s.table k).p2 - 1)

    pops : topped table-popped (s.top - 1) ≡ pop k (topped s.table s.top)
    unfolding table-popped
    pops =
        let r = record_at s.table k in
        let t : true ≡ popped r s.top = sym (rw (lt-ltb r.p1 r.p2 g, eq-eqb r.p2 s.top l.end)) in
        by_popped k (topped s.table s.top) refl t

    pub popped-top : (pop k (topped s.table s.top)).top ≡ s.top - 1
    popped-top = ap (λ (t : Topped). t.top) (sym pops)

    pop-there : record_at table-popped k ≡ block_at (record_at s.table k).p1 ((record_at s.table k).p2 - 1)
    unfolding table-popped
    pop-there =
        let r = record_at s.table k in
        let e = l.end in
        let v = w.word in
        pointed-there s.table k r.p1 (r.p2 - 1) h start (omega arith)

    pop_records : block_records_in s.work table-popped
        ≡ set (block_records_in s.work s.table) k (front_records (get_or (block_records_in s.work s.table) k []))
    unfolding table-popped
    pop_records =
        let r = record_at s.table k in
        let c = records_of s.work in
        let b = recordsOfBlock c r in
        let d = length-drop r.p1 c in
        let n = length_records s.work in
        let f = w.fit in
        let e = l.end in
        let z = length-take-le (r.p2 - r.p1) (drop r.p1 c) (omega arith) in
        let y : r.p2 - 1 - r.p1 ≡ length b - 1 = omega arith in
        blocks_with s.work s.work s.table table-popped k (front_records (get_or (block_records_in s.work s.table) k []))
        (pointed-length s.table k r.p1 (r.p2 - 1))
        (λ j ne. ap (recordsOfBlock c) (pointed-other s.table k r.p1 (r.p2 - 1) j ne))
        (ap (recordsOfBlock c) pop-there
        ∙ ap (λ (m : ℕ). take m (drop r.p1 c)) y
        ∙ sym (take-take (length b - 1) (r.p2 - r.p1) (drop r.p1 c) (omega arith))
        ∙ ap front_records (sym (records_at s.work s.table k)))

    below_last : (x : ℕ) → x < s.top → (Holds (record_at s.table k) x → ⊥) → x < s.top - 1
    below_last x b c = go (order x (s.top - 1))
      where
        go : (x < s.top - 1) ⊎ (s.top - 1 ≤ x) → x < s.top - 1
        go (inl i) = i
        go (inr i) = absurd (c (record { from = let e = l.end in omega arith; to = let e = l.end in omega arith }))

    pop-apart : Apart (s.top - 1) table-popped
    unfolding table-popped
    pop-apart =
        let r = record_at s.table k in
        let e = l.end in
        apart_with s.top (s.top - 1) s.table table-popped k w.apart (pointed-other s.table k r.p1 (r.p2 - 1))
        (λ x i. let t = (subst (λ (q : Record). Holds q x) pop-there i).to in omega arith)
        (λ j x ne i. (
          below_last x (w.apart.within j x i) (λ o. ne (w.apart.alone j k x i o)),
          λ o.
              let q = subst (λ (q : Record). Holds q x) pop-there o in
              let f = q.from in
              let t = q.to in
              ne (w.apart.alone j k x i (record { from = f; to = omega arith })),
        ))

    -- block k without its last instruction
    pub popped-last : Grown s (arena s.work (pop k (topped s.table s.top)).table (pop k (topped s.table s.top)).top) k
        (front_records (get_or (block_records_in s.work s.table) k []))
        (front (get_or (blocks_of s.work s.table) k []))
    unfolding table-popped
    popped-last =
        let r = record_at s.table k in
        let B = block_records_in s.work s.table in
        let v = front_records (get_or B k []) in
        let b = front (get_or (blocks_of s.work s.table) k []) in
        let e = l.end in
        let there = pop-there in
        let here : Grown s (arena s.work table-popped (s.top - 1)) k v b = record {
          records = pop_records;
          codes = codes_with s (arena s.work table-popped (s.top - 1)) k v b pop_records
              (front_codes (get_or B k []) ∙ ap front (sym (codes_at s.work s.table k)));
          sound =
              record {
                work-bytes = w.work-bytes;
                table-bytes = put-bytes s.table k (block_at r.p1 (r.p2 - 1)) w.table-bytes;
                fit = let f = w.fit in omega arith;
                word = let f = w.word in omega arith;
                apart = pop-apart;
              };
          last = record { ordered = rw pop-there (omega arith); end = ap (λ (q : Record). q.p2) pop-there ∙ omega arith };
        } in
        subst (λ (t : Topped). Grown s (arena s.work t.table t.top) k v b) pops here

  -- a block with room gets one record more
  module _ (free : room s.work s.top 1 ≡ true) (c : Code) (range : InRange c) where
    work_pushed : List ℕ
    work_pushed = put_of s.work s.top (record_of c)

    table-pushed : List ℕ
    table-pushed = pointed s.table k (record_at s.table k).p1 (s.top + 1)

    space : (s.top + 1 ≤ length s.work / 32) × (s.top + 1 < 2 ^ 32)
    space = let i = leb-true (s.top + 1) (min (length s.work / 32) 4294967295) free in (omega arith, omega arith)

    pushes : arena work_pushed table-pushed (s.top + 1) ≡ push k c s
    unfolding work_pushed table-pushed
    pushes =
        let r = record_at s.table k in
        let t : true ≡ grows s.work r s.top = sym (rw (le-leb r.p1 r.p2 l.ordered, eq-eqb r.p2 s.top l.end) free) in
        by_grows k c s refl t

    pub pushed-top : (push k c s).top ≡ s.top + 1
    pushed-top = ap (λ (t : Arena). t.top) (sym pushes)

    pub pushed-work : length (push k c s).work ≡ length s.work
    unfolding work_pushed
    pushed-work = ap (λ (t : Arena). length t.work) (sym pushes) ∙ put-length s.work s.top (record_of c)

    pub pushed-table : length (push k c s).table ≡ length s.table
    unfolding table-pushed
    pushed-table =
        ap (λ (t : Arena). length t.table) (sym pushes)
        ∙ put-length s.table k (block_at (record_at s.table k).p1 (s.top + 1))

    push-there : record_at table-pushed k ≡ block_at (record_at s.table k).p1 (s.top + 1)
    unfolding table-pushed
    push-there = pointed-there s.table k (record_at s.table k).p1 (s.top + 1) h start space.1

    push-work : records_of work_pushed ≡ set (records_of s.work) s.top (record_of c)
    unfolding work_pushed
    push-work = let i = space.0 in put_records s.work s.top (record_of c) (omega arith) (written-fits c range)

    grown-part : (cs : List Record) → s.top < length cs
        → take (s.top + 1 - (record_at s.table k).p1) (drop (record_at s.table k).p1 (set cs s.top (record_of c)))
        ≡ recordsOfBlock cs (record_at s.table k) ++ (record_of c ∷ [])
    grown-part cs i =
        let r = record_at s.table k in
        let o = l.ordered in
        let e = l.end in
        let m = r.p2 - r.p1 in
        let x : s.top + 1 - r.p1 ≡ suc m = omega arith in
        let y : s.top ≡ r.p1 + m = omega arith in
        let d = length-drop r.p1 cs in
        ap (λ (n : ℕ). take n (drop r.p1 (set cs s.top (record_of c)))) x
        ∙ ap (λ (n : ℕ). take (suc m) (drop r.p1 (set cs n (record_of c)))) y
        ∙ ap (take (suc m)) (drop-set-add r.p1 cs m (record_of c))
        ∙ take-suc-set (drop r.p1 cs) m (record_of c) (omega arith)

    push_records : block_records_in work_pushed table-pushed
        ≡ set (block_records_in s.work s.table) k (get_or (block_records_in s.work s.table) k [] ++ (record_of c ∷ []))
    unfolding table-pushed
    push_records =
        let r = record_at s.table k in
        let cs = records_of s.work in
        let top = s.top in
        let n = length_records s.work in
        let i = space.0 in
        blocks_with s.work work_pushed s.table table-pushed k (get_or (block_records_in s.work s.table) k [] ++ (record_of c ∷ []))
        (pointed-length s.table k r.p1 (top + 1))
        (λ j ne.
        let q = record_at s.table j in
        ap (recordsOfBlock (records_of work_pushed)) (pointed-other s.table k r.p1 (top + 1) j ne)
        ∙ ap (λ (x : List Record). recordsOfBlock x q) push-work
        ∙ outside cs q.p1 q.p2 top (record_of c)
        (λ f t. let b = w.apart.within j top (record { from = f; to = t }) in omega arith))
        (ap (recordsOfBlock (records_of work_pushed)) push-there
        ∙ ap (λ (x : List Record). take (top + 1 - r.p1) (drop r.p1 x)) push-work
        ∙ grown-part cs (omega arith)
        ∙ ap (λ (b : List Record). b ++ (record_of c ∷ [])) (sym (records_at s.work s.table k)))

    grown-holds : (x : ℕ) → Holds (block_at (record_at s.table k).p1 (s.top + 1)) x → x < s.top → Holds (record_at s.table k) x
    grown-holds x o b = let e = l.end in record { from = o.from; to = omega arith }

    push-apart : Apart (s.top + 1) table-pushed
    unfolding table-pushed
    push-apart =
        let r = record_at s.table k in
        let top = s.top in
        let e = l.end in
        apart_with top (top + 1) s.table table-pushed k w.apart (pointed-other s.table k r.p1 (top + 1))
        (λ x i. (subst (λ (q : Record). Holds q x) push-there i).to)
        (λ j x ne i.
        let b = w.apart.within j x i in
        (omega arith, λ o. ne (w.apart.alone j k x i (grown-holds x (subst (λ (q : Record). Holds q x) push-there o) b))))

    -- block k with one instruction more
    pub pushed-last : Grown s (push k c s) k
        (get_or (block_records_in s.work s.table) k [] ++ (record_of c ∷ []))
        (get_or (blocks_of s.work s.table) k [] ++ (c ∷ []))
    unfolding work_pushed table-pushed
    pushed-last =
        let r = record_at s.table k in
        let B = block_records_in s.work s.table in
        let v = get_or B k [] ++ (record_of c ∷ []) in
        let b = get_or (blocks_of s.work s.table) k [] ++ (c ∷ []) in
        let t = arena work_pushed table-pushed (s.top + 1) in
        let more = map_push code_of (get_or B k []) (record_of c)
        ∙ ap (λ (x : Code). map code_of (get_or B k []) ++ (x ∷ [])) (read_back c range)
        ∙ ap (λ (x : List Code). x ++ (c ∷ [])) (sym (codes_at s.work s.table k)) in
        let i = space.0 in
        let z = put-length s.work s.top (record_of c) in
        let here : Grown s t k v b = record {
          records = push_records;
          codes = codes_with s t k v b push_records more;
          sound =
              record {
                work-bytes = put-bytes s.work s.top (record_of c) w.work-bytes;
                table-bytes = put-bytes s.table k (block_at r.p1 (s.top + 1)) w.table-bytes;
                fit = rw z i;
                word = space.1;
                apart = push-apart;
              };
          last = record { ordered = rw push-there (let o = l.ordered in let e = l.end in omega arith); end = ap (λ (q : Record). q.p2) push-there };
        } in
        subst (λ (t : Arena). Grown s t k v b) pushes here

-- canonical records stay canonical
module _ (s t : Arena) (k : ℕ) (v : List Record) (b : List Code) (g : Grown s t k v b) where
  canonical_with : Canonical s.work s.table → v ≡ map record_of b → Canonical t.work t.table
  canonical_with c e =
      g.records
      ∙ ap (λ (R : List (List Record)). set R k v) c
      ∙ ap (set (map (map record_of) (blocks_of s.work s.table)) k) e
      ∙ sym (ap (map (map record_of)) g.codes ∙ map-set (map record_of) (blocks_of s.work s.table) k b)

module _ (s : Arena) (k : ℕ) (c : Canonical s.work s.table) where
  block-canonical : get_or (block_records_in s.work s.table) k [] ≡ map record_of (get_or (blocks_of s.work s.table) k [])
  block-canonical = ap (λ (R : List (List Record)). get_or R k []) c ∙ get_or-map (map record_of) (blocks_of s.work s.table) k []

  pub pop-canonical : {t : Arena}
      → Grown s t k (front_records (get_or (block_records_in s.work s.table) k [])) (front (get_or (blocks_of s.work s.table) k []))
      → Canonical t.work t.table
  pop-canonical {t} g =
      let b = get_or (blocks_of s.work s.table) k [] in
      canonical_with s t k _ (front b) g c
      (ap front_records block-canonical
      ∙ ap (λ (n : ℕ). take (n - 1) (map record_of b)) (length-map b record_of)
      ∙ take-map record_of (length b - 1) b
      ∙ ap (map record_of) (front-take b))

  pub push-canonical : {t : Arena} (x : Code)
      → Grown s t k
      (get_or (block_records_in s.work s.table) k [] ++ (record_of x ∷ []))
      (get_or (blocks_of s.work s.table) k [] ++ (x ∷ []))
      → Canonical t.work t.table
  push-canonical {t} x g =
      let b = get_or (blocks_of s.work s.table) k [] in
      canonical_with s t k _ (b ++ (x ∷ [])) g c
      (ap (λ (l : List Record). l ++ (record_of x ∷ [])) block-canonical ∙ sym (map_push record_of b x))
