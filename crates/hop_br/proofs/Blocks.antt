-- Where the blocks lie apart and there is room, block a's last instruction is replaced by some code; the other blocks stay.
use Prim.Native.Nat.{ℕ, ◌+◌, ◌-◌, ◌/◌, ◌≤◌, ◌<◌, min}
use native.Mathlib.Omega.{arith}
use mathlib.Core.Path.{◌≡◌, refl, sym, ap, subst, ◌∙◌}
use mathlib.Core.Bool.{Bool, true, false, cond}
use mathlib.Core.List.{List, [], ◌++◌, map, map-append}
use borrow.Author.Tests.{leb-true, le-leb}
use lib.ListN.{length, get_or, take, drop, set, length-set, length-map, length-take, length-drop, get_or-map}
use lib.Seq.{set-get_or, get_or-set_same}
use Rattle.std.proofs.lemmas.List.{take-map}
use Rattle.general.proofs.Lists.{map-set}
use Rattle.records.specs.declared.Record.{Record}
use Rattle.records.specs.Record.{records_of, record_at}
use Rattle.records.proofs.Laws.{length_records}
use Rattle.inst.specs.declared.Code.{Code}
use Rattle.codec.specs.Codec.{code_of, record_of}
use Rattle.ends.specs.Ends.{front}
use Rattle.blocks.specs.Blocks.{block_records_in, blocks_of, Canonical}
use Rattle.blocks.proofs.Parts.{records_at, length-table}
use Rattle.blocks.proofs.Rewrites.{front-take}
use Rattle.blocks.proofs.Apart.{last-place}
use Rattle.arena.specs.Arena.{Arena, size_of, is_last, room, moves, to_end}
use Rattle.arena.proofs.Laws.{moving, by_moves}
use Rattle.arena.proofs.Moved.{Sound, Ready, last_top, end-top, copied-length, to_end_lem}
use Rattle.arena.proofs.Grown.{Grown, front_records, grown_then, grown-block, popped-top, popped-last}
use Rattle.arena.proofs.Appended.{AllInRange, appended}
use Rattle.hop_br.specs.Storage.{cut, replaced}

-- a block made the last is as it was
ready-grown : {s t : Arena} {k : ℕ} → Ready s t k
    → Grown s t k (get_or (block_records_in s.work s.table) k []) (get_or (blocks_of s.work s.table) k [])
ready-grown {s} {t} {k} r = record {
  records = r.same ∙ sym (set-get_or (block_records_in s.work s.table) k []);
  codes = ap (map (map code_of)) r.same ∙ sym (set-get_or (blocks_of s.work s.table) k []);
  sound = r.sound;
  last = r.last;
}

grown-table : {s t : Arena} {k : ℕ} → Ready s t k → length t.table / 32 ≡ length s.table / 32
grown-table {s} {t} r =
    sym (length-table t.work t.table) ∙ ap length r.same ∙ length-table s.work s.table

-- and holds as many records
size_in : (s : Arena) (k : ℕ) → length (get_or (block_records_in s.work s.table) k []) ≤ size_of (record_at s.table k)
size_in s k =
    let r = record_at s.table k in
    let e = ap length (records_at s.work s.table k) ∙ length-take (r.p2 - r.p1) (drop r.p1 (records_of s.work)) in
    omega arith

size_of_lem : (s : Arena) → Sound s → (k : ℕ) → (record_at s.table k).p1 < (record_at s.table k).p2
    → 0 < length (get_or (block_records_in s.work s.table) k [])
size_of_lem s w k g =
    let r = record_at s.table k in
    let e = ap length (records_at s.work s.table k) ∙ length-take (r.p2 - r.p1) (drop r.p1 (records_of s.work)) in
    let d = length-drop r.p1 (records_of s.work) in
    let n = length_records s.work in
    let b = w.apart.within k (r.p2 - 1) (last-place r g) in
    let f = w.fit in
    omega arith

module _
    (s : Arena)
    (w : Sound s)
    (a : ℕ)
    (h : a < length s.table / 32)
    (g : (record_at s.table a).p1 < (record_at s.table a).p2)
    (free : is_last (record_at s.table a) s.top ≡ false → room s.work s.top (size_of (record_at s.table a)) ≡ true)
  where
    holds-still : (record_at (to_end a s).table a).p1 < (record_at (to_end a s).table a).p2
    holds-still =
        let r = to_end_lem s w a h g free in
        let n = size_of_lem s w a g in
        let e = ap (λ (R : List (List Record)). length (get_or R a [])) r.same in
        let m = size_in (to_end a s) a in
        omega arith

    cut-grown : Grown s (cut a (to_end a s)) a
        (front_records (get_or (block_records_in s.work s.table) a []))
        (front (get_or (blocks_of s.work s.table) a []))
    unfolding cut
    cut-grown =
        let r = to_end_lem s w a h g free in
        let t = to_end a s in
        let p = popped-last t r.sound a (rw (grown-table r) h) r.last holds-still in
        let e = grown_then (ready-grown r) p in
        subst (λ (R : List (List Record)). Grown s (cut a t) a (front_records (get_or R a [])) (front (get_or (map (map code_of) R) a []))) r.same e

    module _ (c : List Code) (more : room (cut a (to_end a s)).work (cut a (to_end a s)).top (length c) ≡ true) (range : AllInRange c) where
      replaced-last : Grown s (replaced a c s) a
          (front_records (get_or (block_records_in s.work s.table) a []) ++ map record_of c)
          (front (get_or (blocks_of s.work s.table) a []) ++ c)
      unfolding replaced
      replaced-last =
          let t = cut a (to_end a s) in
          let f = cut-grown in
          let R = block_records_in s.work s.table in
          let n = sym (length-table t.work t.table) ∙ ap length f.records ∙ length-set R a _ ∙ length-table s.work s.table in
          let u = grown_then f (appended a c t f.sound (rw n h) f.last more range) in
          let v = ap (λ (Q : List (List Record)). get_or Q a []) f.records ∙ get_or-set_same R a _ [] (rw (length-table s.work s.table) h) in
          let b = grown-block f h in
          record {
            records = u.records ∙ ap (λ (x : List Record). set R a (x ++ map record_of c)) v;
            codes = u.codes ∙ ap (λ (x : List Code). set (blocks_of s.work s.table) a (x ++ c)) b;
            sound = u.sound;
            last = u.last;
          }

-- as many bytes of code
end-length : (s : Arena) (a : ℕ) → length (to_end a s).work ≡ length s.work
end-length s a = go (moves s.work (record_at s.table a) s.top) refl
  where
    go : (b : Bool) → moves s.work (record_at s.table a) s.top ≡ b → length (to_end a s).work ≡ length s.work
    go true e =
        let r = record_at s.table a in
        sym (ap (λ (t : Arena). length t.work) (by_moves a s refl (sym e))) ∙ copied-length s.work r s.top (moving s.work r s.top e)
    go false e = sym (ap (λ (t : Arena). length t.work) (by_moves a s refl (sym e)))

-- room for some code in place of block a's last record, once block a is the last
module _
    (s : Arena)
    (w : Sound s)
    (a : ℕ)
    (h : a < length s.table / 32)
    (g : (record_at s.table a).p1 < (record_at s.table a).p2)
    (c : List Code)
    (free : room s.work (last_top (record_at s.table a) s.top) (length c - 1) ≡ true)
  where
    all : last_top (record_at s.table a) s.top + (length c - 1) ≤ min (length s.work / 32) 4294967295
    all = leb-true (last_top (record_at s.table a) s.top + (length c - 1)) (min (length s.work / 32) 4294967295) free

    first : is_last (record_at s.table a) s.top ≡ false → room s.work s.top (size_of (record_at s.table a)) ≡ true
    first e =
        let n = size_of (record_at s.table a) in
        let i = all in
        let z = ap (λ (b : Bool). cond b s.top (s.top + n)) e in
        le-leb (s.top + n) (min (length s.work / 32) 4294967295) (omega arith)

    pub cut-top : (cut a (to_end a s)).top + 1 ≤ last_top (record_at s.table a) s.top
    unfolding cut
    cut-top =
        let t = to_end a s in
        let r = to_end_lem s w a h g first in
        let some = holds-still s w a h g first in
        let end = r.last.end in
        let p = popped-top t r.sound a (rw (grown-table r) h) r.last some in
        let far = end-top a s in
        omega arith

    rest : room (cut a (to_end a s)).work (cut a (to_end a s)).top (length c) ≡ true
    unfolding cut
    rest =
        let t = cut a (to_end a s) in
        let i = all in
        let n = end-length s a in
        let e = cut-top in
        le-leb (t.top + length c) (min (length t.work / 32) 4294967295) (rw n (omega arith))

    pub replaced-block : AllInRange c → Grown s (replaced a c s) a
        (front_records (get_or (block_records_in s.work s.table) a []) ++ map record_of c)
        (front (get_or (blocks_of s.work s.table) a []) ++ c)
    replaced-block range = replaced-last s w a h g first c rest range

-- blocks that hold the records that their instructions are written as go on to
module _ (s t : Arena) (a : ℕ) (c : List Code)
    (g : Grown s t a
    (front_records (get_or (block_records_in s.work s.table) a []) ++ map record_of c)
    (front (get_or (blocks_of s.work s.table) a []) ++ c))
  where
    front-written : (b : List Code) → front_records (map record_of b) ≡ map record_of (front b)
    front-written b =
        ap (λ (n : ℕ). take (n - 1) (map record_of b)) (length-map b record_of)
        ∙ take-map record_of (length b - 1) b
        ∙ ap (map record_of) (front-take b)

    pub replaced-canonical : Canonical s.work s.table → Canonical t.work t.table
    replaced-canonical e =
        let R = block_records_in s.work s.table in
        let B = blocks_of s.work s.table in
        let b = get_or B a [] in
        let there = ap (λ (Q : List (List Record)). get_or Q a []) e ∙ get_or-map (map record_of) B a [] in
        let v = ap (λ (x : List Record). front_records x ++ map record_of c) there
        ∙ ap (λ (x : List Record). x ++ map record_of c) (front-written b)
        ∙ sym (map-append record_of (front b) c) in
        g.records
        ∙ ap (set R a) v
        ∙ ap (λ (Q : List (List Record)). set Q a (map record_of (front b ++ c))) e
        ∙ sym (map-set (map record_of) B a (front b ++ c))
        ∙ ap (map (map record_of)) (sym g.codes)
