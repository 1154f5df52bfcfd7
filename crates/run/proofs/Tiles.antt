-- Blocks within the first records of a code, and blocks that tile them.
use Prim.Native.Nat.{ℕ, zero, suc, ◌+◌, ◌-◌, ◌*◌, ◌/◌, ◌≤◌}
use native.Mathlib.Omega.{arith}
use mathlib.Core.Path.{◌≡◌, refl, ap, ◌∙◌}
use mathlib.Core.List.{List, [], ◌∷◌, map}
use lib.ListN.{length, get_or, take, drop, length-take, length-drop, length-map}
use lib.Seq.{set_out, take-take}
use Rattle.records.specs.declared.Record.{Record}
use Rattle.records.specs.Record.{records_of, record_at, blank}
use Rattle.read.specs.Structure.{code_of as recordsOfBlock}
use Rattle.codec.specs.Codec.{code_of}
use Rattle.steps.specs.Write.{block_records}
use Rattle.blocks.specs.Blocks.{block_records_in}
use Rattle.blocks.specs.Rewrite.{Apart}
use Rattle.blocks.proofs.Parts.{records_part}
use Rattle.blocks.proofs.Apart.{map-one, last-place}
use Rattle.arena.proofs.Pointed.{part-below}
use Rattle.round_trips.proofs.Blocks.{Tiled, first_tile, next-tiles}
use Rattle.thread.proofs.Whole.{sizes_from}

module _ (n : ℕ) (table : List ℕ) (a : Apart n table) where
  -- they are the same in codes whose first records are
  pub within_same : (c d : List ℕ) → take n (records_of c) ≡ take n (records_of d) → block_records_in c table ≡ block_records_in d table
  within_same c d e =
      let rs = records_of table in
      let blocks = block_records_in d table in
      let m = length-map rs (recordsOfBlock (records_of d)) in
      map-one (recordsOfBlock (records_of d)) (recordsOfBlock (records_of c)) rs rs (length rs) [] refl
      (λ j ne.
      let q = get_or rs j blank in
      part-below n q.p1 q.p2 (records_of c) (records_of d) e (λ lt. let x = a.within j (q.p2 - 1) (last-place q lt) in omega arith))
      (λ h. absurd (omega arith))
      ∙ set_out blocks (length rs) [] (omega arith)

  -- and in those records alone
  pub part_same : (c : List ℕ) → n ≤ length c / 32 → block_records_in (take (32 * n) c) table ≡ block_records_in c table
  part_same c h =
      within_same (take (32 * n) c) c (ap (take n) (records_part c 0 n (omega arith)) ∙ take-take n n (records_of c) (omega arith))

rest_at : (l : List Record) (a : ℕ) (r : Record) (bs : List Record) → drop a l ≡ r ∷ bs → (get_or l a blank ≡ r) × (drop (suc a) l ≡ bs)
rest_at [] zero r bs e = absurd (let z : ◌≡◌ {A = ℕ} 0 1 = cc in omega arith)
rest_at [] (suc a) r bs e = absurd (let z : ◌≡◌ {A = ℕ} 0 1 = cc in omega arith)
rest_at (x ∷ l) zero r bs e = (cc, cc)
rest_at (x ∷ l) (suc a) r bs e = rest_at l a r bs e

-- the places of blocks that tile n records from place due on
pub sizes_tiled : (n due : ℕ) (table : List ℕ) (m a : ℕ) (bs : List Record) → drop a (records_of table) ≡ bs → length bs ≡ m → due ≤ n
    → Tiled n due bs → sizes_from m a table + due ≤ n
sizes_tiled n due table zero a bs e l h t = omega arith
sizes_tiled n due table (suc m) a [] e l h t = absurd (omega arith)
sizes_tiled n due table (suc m) a (r ∷ bs) e l h t =
    let f = first_tile n due r bs t in
    let q = rest_at (records_of table) a r bs e in
    let s = f.start in
    let o = f.some in
    let w = f.within in
    let i = sizes_tiled n r.p2 table m (suc a) bs q.1 (omega arith) f.within (next-tiles n due r bs t) in
    let here : (record_at table a).p2 - (record_at table a).p1 ≡ r.p2 - r.p1 = ap (λ (x : Record). x.p2 - x.p1) q.0 in
    omega arith

-- the blocks of two codes of one length are of one length each
pub heads-same : (C D : List Record) → length C ≡ length D → (bs : List Record) (due : ℕ)
    → block_records due (map (map code_of) (map (recordsOfBlock C) bs)) ≡ block_records due (map (map code_of) (map (recordsOfBlock D) bs))
unfolding block_records
heads-same C D h [] due = refl
heads-same C D h (r ∷ bs) due =
    let c = recordsOfBlock C r in
    let d = recordsOfBlock D r in
    let dc = length-drop r.p1 C in
    let dd = length-drop r.p1 D in
    let tc = length-take (r.p2 - r.p1) (drop r.p1 C) in
    let td = length-take (r.p2 - r.p1) (drop r.p1 D) in
    let mc = length-map c code_of in
    let md = length-map d code_of in
    let e : length (map code_of c) ≡ length (map code_of d) = omega arith in
    rw (e, heads-same C D h bs (due + length (map code_of d)))
