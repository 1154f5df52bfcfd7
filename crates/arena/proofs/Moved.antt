-- Where the blocks lie apart, a block that is moved to the top leaves all blocks as they were, and apart.
use Prim.Native.Nat.{ℕ, ◌+◌, ◌-◌, ◌*◌, ◌/◌, ◌≤◌, ◌<◌, ◌^◌}
use native.Mathlib.Omega.{arith}
use mathlib.Core.Path.{◌≡◌, refl, sym, ap, subst, ◌∙◌}
use mathlib.Core.Bool.{Bool, true, false, ◌&&◌, not, cond}
use mathlib.Core.List.{List, [], ◌++◌, append_assoc}
use borrow.Author.Tests.{leb-true, le-leb, eqb-true}
use lib.Dec.{leb}
use lib.ListN.{length, get_or, take, drop, length-drop}
use lib.Seq.{paste, take-paste, length-paste, take-take, take_at, drop_at, length-take-le, set-get_or}
use Rattle.general.proofs.Booleans.{and_first, and_second}
use Rattle.records.specs.declared.Record.{Record}
use Rattle.records.specs.Record.{records_of, record_at}
use Rattle.put_record.specs.Store.{Bytes}
use Rattle.read.specs.Structure.{code_of as recordsOfBlock}
use Rattle.blocks.specs.Blocks.{block_records_in}
use Rattle.blocks.specs.Rewrite.{Holds, Apart}
use Rattle.blocks.proofs.Parts.{records_part, records_at}
use Rattle.blocks.proofs.Bytes.{bytes-paste, bytes_drop, put-bytes}
use Rattle.blocks.proofs.Apart.{last-place}
use Rattle.arena.specs.Arena.{Arena, size_of, is_last, room, pointed, copied, moves, move_if, to_end}
use Rattle.arena.proofs.Laws.{Moving, moving, moves_by, by_moves}
use Rattle.arena.proofs.Pointed.{block_at, pointed-there, pointed-other, pointed-length, blocks_with, apart_with, part-below}

-- bytes whose blocks lie apart below the top, which is a number of 32 bits
pub record Sound (s : Arena) : Type 0 where
  pub work-bytes : Bytes s.work
  pub table-bytes : Bytes s.table
  pub fit : s.top ≤ length s.work / 32
  pub word : s.top < 2 ^ 32
  pub apart : Apart s.top s.table

-- a block that ends at the top
pub record Last (r : Record) (top : ℕ) : Type 0 where
  pub ordered : r.p1 ≤ r.p2
  pub end : r.p2 ≡ top

-- where a block ends once it is made the last
abbrev pub last_top : Record → ℕ → ℕ
last_top r top = cond (is_last r top) top (top + size_of r)

pub last_top_le : (r : Record) (top : ℕ) → last_top r top ≤ top + size_of r
last_top_le r top = go (is_last r top)
  where
    go : (b : Bool) → cond b top (top + size_of r) ≤ top + size_of r
    go true = omega arith
    go false = omega arith

pub end-top : (k : ℕ) (s : Arena) → (to_end k s).top ≤ last_top (record_at s.table k) s.top
end-top k s =
    let r = record_at s.table k in
    subst (λ (t : Arena). t.top ≤ last_top r s.top) (by_moves k s refl (moves_by s.work r s.top refl refl))
    (go r (is_last r s.top) (leb (r.p1 + size_of r) s.top && room s.work s.top (size_of r)))
  where
    go : (r : Record) (b c : Bool) → (move_if (not b && c) k r s).top ≤ cond b s.top (s.top + size_of r)
    go r true c = omega arith
    go r false true = omega arith
    go r false false = omega arith

-- a copy, before its place and there
module _ (d : List ℕ) (at : ℕ) (s : List ℕ) (n : ℕ) (h : at ≤ length d) (g : n ≤ length s) where
  paste-before : take at (paste d at s n) ≡ take at d
  paste-before =
      sym (take-take at (at + n) (paste d at s n) (omega arith))
      ∙ ap (take at) (take-paste d at s n h g)
      ∙ take_at (take at d) (take n s) at (length-take-le at d h)

  paste-there : take n (drop at (paste d at s n)) ≡ take n s
  paste-there =
      ap (λ (l : List ℕ). take n (drop at l)) (append_assoc (take at d) (take n s) (drop (at + n) d))
      ∙ ap (take n) (drop_at (take at d) (take n s ++ drop (at + n) d) at (length-take-le at d h))
      ∙ take_at (take n s) (drop (at + n) d) n (length-take-le n s g)

-- the records of a copy
module _ (work : List ℕ) (r : Record) (top : ℕ) (m : Moving work r top) where
  room-there : 32 * size_of r ≤ length (drop (32 * r.p1) work)
  room-there = let e = length-drop (32 * r.p1) work in omega (arith, m.below, m.fits)

  pub copied-length : length (copied work r top) ≡ length work
  copied-length = length-paste work (32 * top) (drop (32 * r.p1) work) (32 * size_of r) (omega (arith, m.fits)) room-there

  pub copied-before : take top (records_of (copied work r top)) ≡ take top (records_of work)
  copied-before =
      let l = copied-length in
      sym (records_part (copied work r top) 0 top (omega (arith, m.fits)))
      ∙ ap records_of (paste-before work (32 * top) (drop (32 * r.p1) work) (32 * size_of r) (omega (arith, m.fits)) room-there)
      ∙ records_part work 0 top (omega (arith, m.fits))

  pub copied-there : take (size_of r) (drop top (records_of (copied work r top))) ≡ recordsOfBlock (records_of work) r
  copied-there =
      let l = copied-length in
      sym (records_part (copied work r top) top (size_of r) (omega (arith, m.fits)))
      ∙ ap records_of (paste-there work (32 * top) (drop (32 * r.p1) work) (32 * size_of r) (omega (arith, m.fits)) room-there)
      ∙ records_part work r.p1 (size_of r) (omega (arith, m.below, m.fits))

-- what a block that was made the last has
pub record Ready (s t : Arena) (k : ℕ) : Type 0 where
  pub same : block_records_in t.work t.table ≡ block_records_in s.work s.table
  pub sound : Sound t
  pub last : Last (record_at t.table k) t.top

module _ (s : Arena) (w : Sound s) (k : ℕ) (h : k < length s.table / 32) where
  module _ (m : Moving s.work (record_at s.table k) s.top) where
    there : record_at (pointed s.table k s.top (s.top + size_of (record_at s.table k))) k ≡ block_at s.top (s.top + size_of (record_at s.table k))
    there = pointed-there s.table k s.top (s.top + size_of (record_at s.table k)) h w.word m.word

    moved_same : block_records_in (copied s.work (record_at s.table k) s.top) (pointed s.table k s.top (s.top + size_of (record_at s.table k)))
        ≡ block_records_in s.work s.table
    moved_same =
        let r = record_at s.table k in
        let top = s.top in
        let work' = copied s.work r top in
        let table' = pointed s.table k top (top + size_of r) in
        let P = block_records_in s.work s.table in
        let z : top + size_of r - top ≡ size_of r = omega arith in
        blocks_with s.work work' s.table table' k (get_or P k []) (pointed-length s.table k top (top + size_of r))
        (λ j ne.
        let q = record_at s.table j in
        ap (recordsOfBlock (records_of work')) (pointed-other s.table k top (top + size_of r) j ne)
        ∙ part-below top q.p1 q.p2 (records_of work') (records_of s.work) (copied-before s.work r top m)
        (λ lt. let x = w.apart.within j (q.p2 - 1) (last-place q lt) in omega arith))
        (ap (recordsOfBlock (records_of work')) there
        ∙ ap (λ (x : ℕ). take x (drop top (records_of work'))) z
        ∙ copied-there s.work r top m
        ∙ sym (records_at s.work s.table k))
        ∙ set-get_or P k []

    moved_apart : Apart (s.top + size_of (record_at s.table k)) (pointed s.table k s.top (s.top + size_of (record_at s.table k)))
    moved_apart =
        let n = size_of (record_at s.table k) in
        let top = s.top in
        let table' = pointed s.table k top (top + n) in
        apart_with top (top + n) s.table table' k w.apart (pointed-other s.table k top (top + n))
        (λ x g. (subst (λ (r : Record). Holds r x) there g).to)
        (λ j x ne g.
        let b = w.apart.within j x g in
        (omega arith, λ i. let f = (subst (λ (r : Record). Holds r x) there i).from in omega arith))

    moved : Ready s (move_if true k (record_at s.table k) s) k
    moved =
        let r = record_at s.table k in
        let work = s.work in
        let l = copied-length work r s.top m in
        let rest = bytes_drop (32 * r.p1) work w.work-bytes in
        record {
          same = moved_same;
          sound =
              record {
                work-bytes = bytes-paste work (32 * s.top) (drop (32 * r.p1) work) (32 * size_of r) w.work-bytes rest;
                table-bytes = put-bytes s.table k (block_at s.top (s.top + size_of r)) w.table-bytes;
                fit = omega (arith, m.fits);
                word = m.word;
                apart = moved_apart;
              };
          last = record { ordered = rw there (omega arith); end = ap (λ (q : Record). q.p2) there };
        }

  -- block k, which holds code and has room at the top where it isn't there, is made the last
  pub to_end_lem : (record_at s.table k).p1 < (record_at s.table k).p2
      → (is_last (record_at s.table k) s.top ≡ false → room s.work s.top (size_of (record_at s.table k)) ≡ true)
      → Ready s (to_end k s) k
  to_end_lem g free = go (is_last r s.top) refl
    where
      r : Record
      r = record_at s.table k

      go : (t : Bool) → is_last (record_at s.table k) s.top ≡ t → Ready s (to_end k s) k
      go true e =
          let q = record_at s.table k in
          let stays = moves_by s.work q s.top {n = size_of q} (sym e) refl in
          let o = leb-true q.p1 q.p2 (and_first (leb q.p1 q.p2) _ e) in
          let z = eqb-true q.p2 s.top (and_second (leb q.p1 q.p2) _ e) in
          let here : Ready s s k = record { same = refl; sound = w; last = record { ordered = o; end = z } } in
          subst (λ (t : Arena). Ready s t k) (by_moves k s refl stays) here
      go false e =
          let q = record_at s.table k in
          let b = w.apart.within k (q.p2 - 1) (last-place q g) in
          let below : true ≡ leb (q.p1 + size_of q) s.top = sym (le-leb (q.p1 + size_of q) s.top (omega arith)) in
          let goes : true ≡ moves s.work q s.top =
          sym (free e) ∙ ap (λ (t : Bool). t && room s.work s.top (size_of q)) below ∙ moves_by s.work q s.top (sym e) refl in
          subst (λ (t : Arena). Ready s t k) (by_moves k s refl goes) (moved (moving s.work q s.top (sym goes)))
