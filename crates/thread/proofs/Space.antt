-- What a hop asks, in numbers: for a storage whose blocks are as sound as the definition keeps them.
use Prim.Native.Nat.{ℕ, ◌+◌, ◌-◌, ◌/◌, ◌≤◌, ◌<◌, min}
use native.Mathlib.Omega.{arith}
use mathlib.Core.Path.{◌≡◌, refl, sym, ap, subst, ◌∙◌}
use mathlib.Core.Bool.{Bool, true, false, ◌&&◌}
use mathlib.Core.List.{List, [], ◌∷◌}
use mathlib.Core.Logic.{◌⊎◌, inl, inr}
use Rattle.std.proofs.Common.{Option}
use borrow.Author.Tests.{le-leb}
use lib.ListN.{length, get_or, take, drop, length-take, length-drop, length-map}
use lib.Seq.{length-take-le}
use Rattle.general.proofs.Numbers.{order}
use Rattle.records.specs.Record.{records_of, record_at}
use Rattle.records.proofs.Laws.{length_records}
use Rattle.record_rules.specs.declared.exist.Counts.{Counts}
use Rattle.inst.specs.declared.Code.{Code}
use Rattle.codec.specs.Codec.{code_of}
use Rattle.procedure.specs.Lists.{holds}
use Rattle.ends.specs.Ends.{end_of}
use Rattle.blocks.specs.Blocks.{block_records_in}
use Rattle.blocks.proofs.Apart.{last-place}
use Rattle.blocks.proofs.Parts.{codes_at, records_at}
use Rattle.blocks.proofs.Rewrites.{front-take}
use Rattle.steps.specs.Facts.{Facts}
use Rattle.steps.specs.Copy.{copy_of, kinds_of, own_uses}
use Rattle.steps.specs.Thread.{block_at, next_number, stops}
use Rattle.steps.proofs.Copied.{stops-small}
use Rattle.facts.specs.Storage.{facts_in, kinds_in}
use Rattle.hop_cond_br.specs.Storage.{before}
use Rattle.arena.specs.Arena.{size_of}
use Rattle.arena.proofs.Moved.{Sound, last_top}
use Rattle.arena.proofs.Appended.{AllInRange}
use Rattle.hop_br.specs.Storage.{target_in, copy_in, given_in}
use Rattle.hop_br.proofs.Hop as j
use Rattle.round_trips.specs.WellFormed as wf
use Rattle.round_trips.proofs.Lists.{all-at}
use Rattle.step_laws.proofs.Names.{with_regs}
use Rattle.step_laws.proofs.Threads.{Inv, counts_at, small-there}
use Rattle.step_laws.proofs.Copies.{copied-in, kinds-few}
use Rattle.thread.specs.Storage.{Store}
use Rattle.thread.proofs.Laws.{copy-short, grown_le}
use Rattle.thread.proofs.Refined.{work_of, arena_of, Room}
use Rattle.thread.proofs.Same.{Fine}
use Rattle.thread.proofs.Kept.{is_br, br_there, br_holds}

-- a block's place is as large as the block
pub block_size : (s : Store) → Sound (arena_of s) → (a : ℕ) → size_of (record_at s.table a) ≡ length (block_at (work_of s) a)
block_size s w a = by (order (record_at s.table a).p1 (record_at s.table a).p2)
  where
    count : length (block_at (work_of s) a)
        ≡ min ((record_at s.table a).p2 - (record_at s.table a).p1) (length (drop (record_at s.table a).p1 (records_of s.work)))
    count =
        let r = record_at s.table a in
        ap length (codes_at s.work s.table a)
        ∙ length-map (get_or (block_records_in s.work s.table) a []) code_of
        ∙ ap length (records_at s.work s.table a)
        ∙ length-take (r.p2 - r.p1) (drop r.p1 (records_of s.work))

    by : ((record_at s.table a).p1 < (record_at s.table a).p2) ⊎ ((record_at s.table a).p2 ≤ (record_at s.table a).p1)
        → size_of (record_at s.table a) ≡ length (block_at (work_of s) a)
    by (inl i) =
        let r = record_at s.table a in
        let c = count in
        let d = length-drop r.p1 (records_of s.work) in
        let n = length_records s.work in
        let b = w.apart.within a (r.p2 - 1) (last-place r i) in
        let f = w.fit in
        omega arith
    by (inr i) = let c = count in omega arith

all-range : (n : Counts) (c : List Code) → wf.All (wf.Sound n) c → AllInRange c
all-range n [] h = tt
all-range n (x ∷ c) h = (h.0.range, all-range n c h.1)

module _ (facts : List ℕ) (body : Option ℕ) (budget known copy : ℕ) (n : Counts) (N : ℕ) where
  abbrev f : Facts
  f = facts_in facts body budget

  -- room for three instructions more once block a is the last, as long as it may get any, and for four new registers
  pub record Spacious (s : Store) (a : ℕ) : Type 0 where
    pub code : a < length s.table / 32 → s.at.grown ≤ budget
        → last_top (record_at s.table a) s.at.top + 3 ≤ min (length s.work / 32) 4294967295
    pub kinds : s.at.fresh + 4 ≤ length s.kinds
    pub numbers : length (kinds_in facts) + (s.at.fresh + 4) ≤ 65535
    pub known-words : length (block_at (work_of s) a) ≤ known / 2
    pub copy-words : length (block_at (work_of s) a) ≤ copy / 2

  module _ (s : Store) (a : ℕ) (w : Sound (arena_of s)) (v : Inv f n N (work_of s)) (h : Spacious s a) where
    count : length (take s.at.fresh s.kinds) ≡ s.at.fresh
    count = length-take-le s.at.fresh s.kinds (let k = h.kinds in omega arith)

    module _ (l : ℕ) (q : stops f (work_of s) a l ≡ false) where
      short : length (block_at (work_of s) l) ≤ 4
      short = j.few f (work_of s) a l q

      same : copy_in facts body budget s.at.fresh (target_in (arena_of s) l) ≡ copy_of f (block_at (work_of s) l) (next_number f (work_of s))
      same = j.copy facts body budget l s.at.fresh (arena_of s) (work_of s) refl short count (let k = h.numbers in omega arith)

      given : given_in facts body budget (target_in (arena_of s) l) ≡ kinds_of f (block_at (work_of s) l)
      given = j.given facts body budget l s.at.fresh (arena_of s) (work_of s) refl short

      range : AllInRange (copy_of f (block_at (work_of s) l) (next_number f (work_of s)))
      range =
          let c = block_at (work_of s) l in
          let m = counts_at f n (work_of s) in
          let b = all-at (wf.BlockIn m) (work_of s).blocks [] v.each l (small-there (work_of s).blocks l (stops-small f (work_of s) a l q)) in
          let k = kinds-few f (own_uses c) m c in
          let four = short in
          let low = h.numbers in
          let z = count in
          let y = copied-in f (own_uses c) m c b [] (next_number f (work_of s)) (record { below = tt; more = omega arith; few = omega arith }) in
          all-range (with_regs (next_number f (work_of s) + length (kinds_of f c)) m) (copy_of f c (next_number f (work_of s))) y.block.each

      room_by : is_br (end_of (block_at (work_of s) a)) → Room facts body budget s a l
      room_by br =
          let c = block_at (work_of s) l in
          let four = short in
          let space = h.code (br_there s a br) (grown_le f (work_of s) a l q) in
          let few = copy-short f (own_uses c) c [] (next_number f (work_of s)) in
          let new = ap length same in
          let ks = kinds-few f (own_uses c) (counts_at f n (work_of s)) c in
          let gs = ap length given in
          let some = h.kinds in
          let low = h.numbers in
          let top = last_top (record_at s.table a) s.at.top in
          let more = length (copy_in facts body budget s.at.fresh (target_in (arena_of s) l)) - 1 in
          record {
            there = br_there s a br;
            holds = br_holds s a br;
            free = le-leb (top + more) (min (length s.work / 32) 4294967295) (omega arith);
            range = subst AllInRange (sym same) range;
            kinds = omega arith;
            numbers = omega arith;
          }

    front-few : length (before s.table a s.work) ≤ length (block_at (work_of s) a)
    front-few =
        let b = block_at (work_of s) a in
        let k = ap length (sym (front-take b)) ∙ length-take (length b - 1) b in
        omega arith

    -- so a hop has what it asks
    pub fine : Fine facts body budget known copy s a
    fine =
        let m = length (before s.table a s.work) in
        let k = front-few in
        let x = h.known-words in
        let y = h.copy-words in
        record {
          sound = w;
          words = both (le-leb m (known / 2) (omega arith)) (le-leb m (copy / 2) (omega arith));
          room = λ l q g. room_by l.0 g (subst is_br (sym q) tt);
        }
      where
        both : {x y : Bool} → x ≡ true → y ≡ true → (x && y) ≡ true
        both p q = rw (p, q) refl
