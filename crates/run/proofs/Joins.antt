-- The code of an opened file in the work storage, before and after equal arms are joined.
use Prim.Native.Nat.{ℕ, ◌*◌, ◌/◌, ◌≤◌}
use native.Mathlib.Omega.{arith}
use mathlib.Core.Path.{◌≡◌, refl, sym, ap, subst, ◌∙◌}
use mathlib.Core.Bool.{false}
use mathlib.Core.List.{List, map}
use lib.ListN.{length, take, length-take}
use lib.Seq.{take_all}
use Rattle.records.specs.declared.Record.{Record}
use Rattle.records.specs.Record.{records_of, record_at}
use Rattle.records.proofs.Laws.{length_records}
use Rattle.put_record.specs.Store.{Bytes}
use Rattle.inst.specs.declared.Inst.TheVariants as i
use Rattle.codec.specs.Codec.{code_of, record_of, block_of}
use Rattle.procedure.specs.Procedure.{Procedure, codes_of}
use Rattle.procedure.specs.Lists.{joined}
use Rattle.steps.specs.EqualArms.{Arms, equal_arms}
use Rattle.steps.specs.Write.{block_records}
use Rattle.blocks.specs.Blocks.{block_records_in, blocks_of, Canonical}
use Rattle.blocks.specs.Rewrite.{Apart}
use Rattle.blocks.proofs.Parts.{records_part}
use Rattle.blocks.proofs.Bytes.{end-bytes, end-length}
use Rattle.blocks.proofs.Apart.{tiled-apart}
use Rattle.equal_arms.specs.Joined.{Joined, joined as joined_to, arms_of, equal_arms_in}
use Rattle.equal_arms.proofs.Arms.{keep_from, equal_arms_lem, arms-canonical}
use Rattle.round_trips.specs.WellFormed.{counts_in}
use Rattle.round_trips.proofs.Blocks.{Tiled, joined-map}
use Rattle.step_laws.proofs.Arms.{Kept, arms-kept}
use Rattle.procedure_parts.specs.Opened.{Parts, Opened}
use Rattle.procedure_parts.proofs.Laws.{tiles-all}
use Rattle.thread.proofs.Whole.{sizes_from}
use Rattle.run.proofs.Lent.{Held}
use Rattle.run.proofs.Tiles.{within_same, part_same, sizes_tiled, heads-same}

-- what a code holds of a procedure with blocks of the same lengths
pub record Coded (p : Procedure) (table c : List ℕ) : Type 0 where
  pub bytes : Bytes c
  pub canonical : Canonical c table
  pub records : records_of (take (32 * length (joined p.blocks)) c) ≡ map record_of (joined (blocks_of c table))
  pub heads : block_records 0 (blocks_of c table) ≡ block_records 0 p.blocks

module _ {p : Procedure} {x : Parts} {work : List ℕ} (h : Held p x work) where
  abbrev N : ℕ
  N = length (joined p.blocks)

  abbrev o : Opened p x
  o = h.opened

  size : length x.code / 32 ≡ N
  size = let e = o.parted.coded.code-length in omega arith

  pub apart : Apart N x.heads
  apart = subst (λ (n : ℕ). Apart n x.heads) size (tiled-apart x.code x.heads o.parted.tiled)

  tiles : Tiled N 0 (records_of x.heads)
  tiles = subst (λ (n : ℕ). Tiled n 0 (records_of x.heads)) size o.parted.tiled

  blocks_here : length (records_of x.heads) ≡ length x.heads / 32
  blocks_here = length_records x.heads

  -- the blocks take no more than the code
  pub sizes : sizes_from (length x.heads / 32) 0 x.heads ≤ N
  sizes =
      let s = sizes_tiled N 0 x.heads (length x.heads / 32) 0 (records_of x.heads) refl blocks_here (omega arith) tiles in
      omega arith

  first_records_lem : take N (records_of work) ≡ take N (records_of x.code)
  first_records_lem =
      let e = o.parted.coded.code-length in
      let l = length_records x.code in
      let q : 32 * N ≡ length x.code = omega arith in
      sym (records_part work 0 N (omega arith))
      ∙ ap (λ (n : ℕ). records_of (take n work)) q
      ∙ ap records_of h.code
      ∙ sym (take_all N (records_of x.code) (omega arith))

  same_records : block_records_in work x.heads ≡ block_records_in x.code x.heads
  same_records = within_same N x.heads apart work x.code first_records_lem

  pub work-blocks : blocks_of work x.heads ≡ p.blocks
  work-blocks = ap (map (map code_of)) same_records ∙ o.parted.blocks

  work-canonical : Canonical work x.heads
  work-canonical =
      same_records
      ∙ o.parted.canonical
      ∙ ap (λ (r : List (List Record)). map (map record_of) (map (map code_of) r)) (sym same_records)

  -- what the first records of a code are, by its blocks
  module _ (c : List ℕ) (long : length c ≡ length work) where
    part_long : length (records_of (take (32 * N) c)) ≡ N
    part_long =
        let r = length_records (take (32 * N) c) in
        let t = length-take (32 * N) c in
        omega arith

    parts_all : records_of (take (32 * N) c) ≡ joined (block_records_in c x.heads)
    parts_all =
        let e = o.parted.coded.heads-length in
        let s = o.parted.well_formed.some_block in
        let n = blocks_here in
        sym (tiles-all (records_of (take (32 * N) c)) (records_of x.heads)
        (subst (λ (m : ℕ). Tiled m 0 (records_of x.heads)) (sym part_long) tiles) (omega arith))
        ∙ ap joined (part_same N x.heads apart c (omega arith))

    pub codes : codes_of (take (32 * N) c) ≡ joined (blocks_of c x.heads)
    codes = ap (map code_of) parts_all ∙ sym (joined-map code_of (block_records_in c x.heads))

    pub coded : Bytes c → Canonical c x.heads → Coded p x.heads c
    coded b k =
        let l = length_records c in
        let w = length_records work in
        record {
          bytes = b;
          canonical = k;
          records = parts_all ∙ ap joined k ∙ joined-map record_of (blocks_of c x.heads);
          heads =
              heads-same (records_of c) (records_of work) (omega arith) (records_of x.heads) 0
              ∙ ap (block_records 0) work-blocks;
        }

  pub work-coded : Coded p x.heads work
  work-coded = coded work refl h.bytes work-canonical

  -- once equal arms are joined
  abbrev pub arms : Joined
  arms = equal_arms_in x.heads work

  record Same (s : Joined) : Type 0 where
    pub bytes-there : Bytes s.code
    pub long : length s.code ≡ length work

  same : Same arms
  same =
      keep_from x.heads N apart Same (λ s w. let l = w.long in record { bytes = w.bytes-there; fit = rw l h.fit })
      (λ s k to r w.
      let j = i.Br (block_of to) in
      record {
        bytes-there = end-bytes s.code (record_at x.heads k) j w.bytes-there;
        long = end-length s.code (record_at x.heads k) j ∙ w.long;
      })
      (length x.heads / 32) 0 (joined_to work false) (record { bytes-there = h.bytes; long = refl })

  pub arms_long : length arms.code ≡ length work
  arms_long = same.long

  pub arms-coded : Coded p x.heads arms.code
  arms-coded = coded arms.code arms_long same.bytes-there (arms-canonical x.heads N apart work h.fit h.bytes work-canonical)

  arms_are : arms_of x.heads arms ≡ equal_arms p.blocks
  arms_are = equal_arms_lem x.heads N apart work h.fit h.bytes ∙ ap equal_arms work-blocks

  pub arms-blocks : blocks_of arms.code x.heads ≡ (equal_arms p.blocks).blocks
  arms-blocks = ap (λ (a : Arms). a.blocks) arms_are

  pub arms-edited : arms.edited ≡ (equal_arms p.blocks).edited
  arms-edited = ap (λ (a : Arms). a.edited) arms_are

  -- which leaves each instruction sound
  pub arms-sound : Kept (counts_in p) p.blocks (equal_arms p.blocks)
  arms-sound =
      let w = o.parted.well_formed in
      let few = w.blocks in
      arms-kept (counts_in p) (omega arith) p.blocks w.each-block
