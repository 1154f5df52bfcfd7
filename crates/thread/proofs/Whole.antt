-- Threading over the storage is the definition's, where the storage has room: each block is moved to the top once at most.
use Prim.Native.Nat.{ℕ, zero, suc, ◌+◌, ◌-◌, ◌*◌, ◌/◌, ◌≤◌, ◌<◌, ◌^◌, min}
use native.Mathlib.Omega.{arith}
use mathlib.Core.Path.{◌≡◌, refl, sym, ap, subst, ◌∙◌}
use mathlib.Core.Bool.{Bool, true, false, ◌&&◌, cond}
use mathlib.Core.List.{List, []}
use mathlib.Core.Logic.{◌⊎◌, inl, inr}
use Rattle.std.proofs.Common.{Option}
use borrow.Author.Tests.{le-leb, eq-eqb}
use lib.Dec.{leb}
use lib.ListN.{length, length-append, length-take, get_or-eq_default}
use lib.Seq.{length-take-le}
use Rattle.std.proofs.lemmas.Bool.{and_from}
use Rattle.general.proofs.Numbers.{order}
use Rattle.records.specs.Record.{record_at}
use Rattle.record_rules.specs.declared.exist.Counts.{Counts}
use Rattle.inst.specs.declared.Code.{Code}
use Rattle.codec.specs.Codec.{InRange}
use Rattle.ends.specs.declared.End.{End}
use Rattle.ends.specs.declared.End.TheVariants as e
use Rattle.ends.specs.Ends.{code_at, end_of, front}
use Rattle.blocks.specs.Blocks.{blocks_of}
use Rattle.blocks.proofs.Parts.{length-blocks}
use Rattle.blocks.proofs.Rewrites.{front-take}
use Rattle.blocks.proofs.Bytes.{block-range}
use Rattle.equal_arms.proofs.Reach.{Named, end-named}
use Rattle.steps.specs.Thread.{Work, block_at, stops, unthreaded, thread}
use Rattle.steps.proofs.Edits.{Edits, nil, edits_join}
use Rattle.facts.specs.Storage.{facts_in, kinds_in}
use Rattle.hop_cond_br.specs.declared.Turn.{Turn}
use Rattle.hop_cond_br.specs.declared.Turn.TheVariants as u
use Rattle.hop_cond_br.specs.Storage.{turned, before, turned_in}
use Rattle.hop_cond_br.proofs.Laws.{turned-length}
use Rattle.arena.specs.Arena.{size_of, is_last}
use Rattle.arena.proofs.Moved.{last_top, last_top_le}
use Rattle.arena.proofs.Grown.{grown-block}
use Rattle.hop_br.specs.Storage.{replaced, given_in, target_in}
use Rattle.step_laws.proofs.Threads.{Inv}
use Rattle.thread.specs.Storage.{Store, store, turned_at, append_in, hop_br_in, hop_cond_br_in, hop_at_in, hop_in, thread_in}
use Rattle.thread.proofs.Laws.{join_few}
use Rattle.thread.proofs.Refined.{work_of, arena_of, Room, new, join_grown, join_cut}
use Rattle.thread.proofs.Same.{Fine, Tested, end_tested, thread-same, thread-holds}
use Rattle.thread.proofs.Kept.{Stored, hop_edits, hop-kept}
use Rattle.thread.proofs.Space.{block_size, fine}
use Rattle.thread.proofs.Tops.{Far, replaced_far, kinds_long}

-- the places of m blocks from block a on
abbrev pub sizes_from : ℕ → ℕ → List ℕ → ℕ
sizes_from zero a table = 0
sizes_from (suc m) a table = size_of (record_at table a) + sizes_from m (suc a) table

sizes_same : (m a : ℕ) (t t' : List ℕ) → ((j : ℕ) → a ≤ j → record_at t' j ≡ record_at t j) → sizes_from m a t' ≡ sizes_from m a t
sizes_same zero a t t' h = refl
sizes_same (suc m) a t t' h = rw (h a (omega arith), sizes_same m (suc a) t t' (λ j i. h j (omega arith))) refl

sizes_first : (nb a : ℕ) (t : List ℕ) → a < nb → sizes_from (nb - a) a t ≡ size_of (record_at t a) + sizes_from (nb - suc a) (suc a) t
sizes_first nb a t i =
    let e : nb - a ≡ suc (nb - suc a) = omega arith in
    ap (λ (m : ℕ). sizes_from m a t) e

sizes_next : (nb a : ℕ) (t : List ℕ) → sizes_from (nb - suc a) (suc a) t ≤ sizes_from (nb - a) a t
sizes_next nb a t = by (order a nb)
  where
    by : (a < nb) ⊎ (nb ≤ a) → sizes_from (nb - suc a) (suc a) t ≤ sizes_from (nb - a) a t
    by (inl i) = let f = sizes_first nb a t i in omega arith
    by (inr i) =
        let z : nb - suc a ≡ 0 = omega arith in
        let n = ap (λ (m : ℕ). sizes_from m (suc a) t) z in
        omega arith

-- lengths that stay, and the new registers that have a kind
pub record Long (W T K : ℕ) (s : Store) : Type 0 where
  pub work : length s.work ≡ W
  pub table : length s.table ≡ T
  pub kinds : length s.kinds ≡ K
  pub fresh : s.at.fresh ≤ K

-- B: the places of all blocks at first; C: with the top; W, T, K: bytes of code, block table and kinds
module _ (B C W T K : ℕ) where
  -- blocks
  abbrev nb : ℕ
  nb = T / 32

  -- from block a on, records that are in use or may be; a hop appends four at most in place of one
  abbrev Bound : ℕ → Store → Type 0
  Bound a s = 4 * (sizes_from (nb - a) a s.table + s.at.top) ≤ 4 * C + 3 * s.at.grown

  -- block a, with k of its six hops left, is where it was, or was moved; a hop makes it three records longer at most
  pub record Sizes (k a : ℕ) (s : Store) : Type 0 where
    pub long : Long W T K s
    pub top : Bound a s ⊎ ((is_last (record_at s.table a) s.at.top ≡ true) × Bound (suc a) s)
    pub block : a < nb → size_of (record_at s.table a) + 3 * k ≤ B + 18
    pub later : sizes_from (nb - suc a) (suc a) s.table ≤ B

  sizes_less : (k a : ℕ) (s : Store) → Sizes (suc k) a s → Sizes k a s
  sizes_less k a s g = record { long = g.long; top = g.top; block = λ i. let n = g.block i in omega arith; later = g.later }

  -- where it is moved to, it ends within the bound
  last_le : (k a : ℕ) (s : Store) → a < nb → Sizes k a s
      → 4 * (sizes_from (nb - suc a) (suc a) s.table + last_top (record_at s.table a) s.at.top) ≤ 4 * C + 3 * s.at.grown
  last_le k a s i g = by g.top
    where
      by : Bound a s ⊎ ((is_last (record_at s.table a) s.at.top ≡ true) × Bound (suc a) s)
          → 4 * (sizes_from (nb - suc a) (suc a) s.table + last_top (record_at s.table a) s.at.top) ≤ 4 * C + 3 * s.at.grown
      by (inl h) =
          let first = sizes_first nb a s.table i in
          let far = last_top_le (record_at s.table a) s.at.top in
          omega arith
      by (inr h) =
          let top = s.at.top in
          let same = ap (λ (b : Bool). cond b top (top + size_of (record_at s.table a))) h.0 in
          let bound = h.1 in
          omega arith

  sizes_lead : (k a : ℕ) (s : Store) → Sizes k a s → Sizes 6 (suc a) s
  sizes_lead k a s g =
      let n = g.later in
      record {
        long = g.long;
        top = inl (by g.top);
        block = λ i. let first = sizes_first nb (suc a) s.table i in omega arith;
        later = let next = sizes_next nb (suc a) s.table in omega arith;
      }
    where
      by : Bound a s ⊎ ((is_last (record_at s.table a) s.at.top ≡ true) × Bound (suc a) s) → Bound (suc a) s
      by (inl h) = let n = sizes_next nb a s.table in omega arith
      by (inr h) = h.1

  long_turned : (s : Store) (code : List ℕ) (b : Bool) → length code ≡ length s.work → Long W T K s
      → Long W T K (store code s.table s.kinds (record { top = s.at.top; grown = s.at.grown; fresh = s.at.fresh; edited = b }))
  long_turned s code b h g = record { work = h ∙ g.work; table = g.table; kinds = g.kinds; fresh = g.fresh }

  module _ (k a : ℕ) (s : Store) (code : List ℕ) (h : length code ≡ length s.work) (g : Sizes k a s) where
    sizes_turned : (z : Turn) → Sizes k a (turned_at s (turned code z)).to
    sizes_turned u.Stay = record { long = long_turned s code s.at.edited h g.long; top = g.top; block = g.block; later = g.later }
    sizes_turned u.Last = record { long = long_turned s code true h g.long; top = g.top; block = g.block; later = g.later }
    sizes_turned u.Next = record { long = long_turned s code true h g.long; top = g.top; block = g.block; later = g.later }

  module _ (facts : List ℕ) (body : Option ℕ) (budget known copy : ℕ) (s : Store) (k a : ℕ) (w : Fine facts body budget known copy s a)
      (g : Sizes (suc k) a s)
    where
      module _ (l : ℕ) (r : Room facts body budget s a l) where
        abbrev c : List Code
        c = new facts body budget known copy s a l w.sound

        is-last : is_last (record_at (replaced a c (arena_of s)).table a) (replaced a c (arena_of s)).top ≡ true
        is-last =
            let t = replaced a c (arena_of s) in
            let q = record_at t.table a in
            let h = (join_grown facts body budget known copy s a l w.sound r).last in
            and_from _ _ (le-leb q.p1 q.p2 h.ordered) (eq-eqb q.p2 t.top h.end)

        behind : {n : ℕ} → Far a n (arena_of s) (replaced a c (arena_of s))
            → sizes_from (nb - suc a) (suc a) (replaced a c (arena_of s)).table ≡ sizes_from (nb - suc a) (suc a) s.table
        behind h = sizes_same (nb - suc a) (suc a) s.table (replaced a c (arena_of s)).table (λ j i. h.others j (λ e. absurd (omega arith)))

        -- the block without its Br, and the copy
        longer : size_of (record_at (replaced a c (arena_of s)).table a) ≤ size_of (record_at s.table a) + 3
        longer =
            let t = (append_in facts body budget known copy false s a l).to in
            let grown = join_grown facts body budget known copy s a l w.sound r in
            let old = block_size s w.sound a in
            let now = block_size t grown.sound a in
            let b = block_at (work_of s) a in
            let code = ap length (grown-block grown r.there) ∙ length-append (front b) c in
            let rest = ap length (sym (front-take b)) ∙ length-take (length b - 1) b in
            let some = r.holds in
            let few = join_few facts body budget a l s.at.fresh (arena_of s) s.kinds refl in
            omega arith

        sizes_joined : Sizes k a (append_in facts body budget known copy false s a l).to
        sizes_joined =
            let far = replaced_far a c (arena_of s) in
            let few = r.kinds in
            let o = g.long in
            let given = o.kinds in
            let rest = behind far in
            let after = g.later in
            record {
              long =
                  record {
                    work = far.work ∙ o.work;
                    table = far.table ∙ o.table;
                    kinds = kinds_long s.kinds s.at.fresh (given_in facts body budget (target_in (arena_of s) l)) ∙ o.kinds;
                    fresh = omega arith;
                  };
              top = inr (is-last, bound);
              block = λ i. let n = g.block i in let m = longer in omega arith;
              later = omega arith;
            }
          where
            bound : 4 * (sizes_from (nb - suc a) (suc a) (replaced a c (arena_of s)).table + (replaced a c (arena_of s)).top)
                ≤ 4 * C + 3 * (s.at.grown + length c)
            bound =
                let far = replaced_far a c (arena_of s) in
                let there = r.there in
                let blocks = g.long.table in
                let rest = behind far in
                let top = far.top in
                let cut = join_cut facts body budget known copy s a l w.sound r in
                let last = last_le (suc k) a s (omega arith) g in
                let few = join_few facts body budget a l s.at.fresh (arena_of s) s.kinds refl in
                omega arith

      sizes_append : (b : Bool) (l : ℕ) → (b ≡ false → Room facts body budget s a l) → Sizes k a (append_in facts body budget known copy b s a l).to
      sizes_append true l r = sizes_less k a s g
      sizes_append false l r = sizes_joined l (r refl)

      sizes_br : (l : ℕ) → (stops (facts_in facts body budget) (work_of s) a l ≡ false → Room facts body budget s a l)
          → Sizes k a (hop_br_in facts body budget known copy s a l).to
      unfolding hop_br_in stops
      sizes_br l r = sizes_append (stops (facts_in facts body budget) (work_of s) a l) l r

      sizes_cond_br : (c t e : ℕ) → c < 2 ^ 32 → t < 2 ^ 32 → e < 2 ^ 32 → Sizes k a (hop_cond_br_in facts body budget known copy s a c t e).to
      unfolding hop_cond_br_in
      sizes_cond_br c t e hc ht he =
          let n = length (before s.table a s.work) in
          let room = leb n (known / 2) && leb n (copy / 2) in
          let z = turned_in s.table a facts body s.work c t e room in
          let long = turned-length s.table s.work w.sound.work-bytes a body c t e hc ht he facts room in
          sizes_turned k a s z.code long (sizes_less k a s g) z.turn

      sizes_end : (x : End) → end_of (block_at (work_of s) a) ≡ x → Sizes k a (hop_at_in facts body budget known copy s a x).to
      sizes_end (e.Br l) q = sizes_br l.0 (w.room l q)
      sizes_end (e.CondBr c t h) q =
          let ranges : (j : ℕ) → InRange (code_at (block_at (work_of s) a) j) = λ j. block-range s.work s.table a j w.sound.work-bytes in
          let n = subst Named q (end-named (block_at (work_of s) a) ranges) in
          let m = subst Tested q (end_tested (block_at (work_of s) a) ranges) in
          sizes_cond_br c.0 t.0 h.0 m n.0 n.1
      sizes_end (e.Case n) q = sizes_less k a s g
      sizes_end e.Other q = sizes_less k a s g

      pub sizes_hop : Sizes k a (hop_in facts body budget known copy s a).to
      unfolding hop_in
      sizes_hop = sizes_end (end_of (block_at (work_of s) a)) refl

-- n and N: what the blocks name, and how many instructions they had before
module _
    (facts : List ℕ)
    (body : Option ℕ)
    (budget known copy : ℕ)
    (n : Counts)
    (N : ℕ)
    (work table kinds : List ℕ)
    (top : ℕ)
    (stored : Stored (store work table kinds (record { top = top; grown = 0; fresh = 0; edited = false })))
    (inv : (v : Work) → Edits (facts_in facts body budget) (unthreaded (blocks_of work table)) v → Inv (facts_in facts body budget) n N v)
    (half : budget ≡ N / 2 + 32)
    (space : sizes_from (length table / 32) 0 table + top + (3 * N / 8 + 27) ≤ min (length work / 32) 4294967295)
    (registers : N / 2 + 40 ≤ length kinds)
    (numbers : length (kinds_in facts) + (N / 2 + 40) ≤ 65535)
    (known-words : sizes_from (length table / 32) 0 table + 15 ≤ known / 2)
    (copy-words : sizes_from (length table / 32) 0 table + 15 ≤ copy / 2)
  where
    abbrev B : ℕ
    B = sizes_from (length table / 32) 0 table

    abbrev SizesAt : ℕ → ℕ → Store → Type 0
    SizesAt = Sizes B (B + top) (length work) (length table) (length kinds)

    record Good (k a : ℕ) (s : Store) : Type 0 where
      pub stored_at : Stored s
      pub edits : Edits (facts_in facts body budget) (unthreaded (blocks_of work table)) (work_of s)
      pub sizes : SizesAt k a s

    block-few : (k a : ℕ) (s : Store) → Good (suc k) a s → length (block_at (work_of s) a) ≤ B + 15
    block-few k a s g = by (order a (length table / 32))
      where
        by : (a < length table / 32) ⊎ (length table / 32 ≤ a) → length (block_at (work_of s) a) ≤ B + 15
        by (inl i) =
            let size = block_size s g.stored_at.sound a in
            let few = g.sizes.block i in
            omega arith
        by (inr i) =
            let m = length-blocks s.work s.table in
            let bytes = g.sizes.long.table in
            let none = ap (λ (c : List Code). length c) (get_or-eq_default (work_of s).blocks [] {n = a} (omega arith)) in
            omega arith

    top-few : (k a : ℕ) (s : Store) → Good k a s → a < length s.table / 32 → s.at.grown ≤ budget
        → last_top (record_at s.table a) s.at.top + 3 ≤ min (length s.work / 32) 4294967295
    top-few k a s g i few =
        let z = g.sizes in
        let blocks = z.long.table in
        let bytes = z.long.work in
        let high = last_le B (B + top) (length work) (length table) (length kinds) k a s (rw (sym blocks) i) z in
        rw bytes (omega arith)

    good_fine : (k a : ℕ) (s : Store) → Good (suc k) a s → Fine facts body budget known copy s a
    good_fine k a s g =
        let v = inv (work_of s) g.edits in
        let z = g.sizes in
        let few = z.long.fresh in
        let long = z.long.kinds in
        let block = block-few k a s g in
        let more = v.grown in
        let given = v.fresh in
        let count = length-take-le s.at.fresh s.kinds (omega arith) in
        fine facts body budget known copy n N s a g.stored_at.sound v
        (record {
          code = top-few (suc k) a s g;
          kinds = omega arith;
          numbers = omega arith;
          known-words = omega arith;
          copy-words = omega arith;
        })

    good_keeps : (k a : ℕ) (s : Store) → Good (suc k) a s → Good k a (hop_in facts body budget known copy s a).to
    good_keeps k a s g =
        let w = good_fine k a s g in
        record {
          stored_at = hop-kept facts body budget known copy s a w g.stored_at.canonical;
          edits = edits_join (facts_in facts body budget) g.edits (hop_edits facts body budget known copy s a w);
          sizes = sizes_hop B (B + top) (length work) (length table) (length kinds) facts body budget known copy s k a w g.sizes;
        }

    good_leads : (k a : ℕ) (s : Store) → Good k a s → Good 6 (suc a) s
    good_leads k a s g = record {
      stored_at = g.stored_at;
      edits = g.edits;
      sizes = sizes_lead B (B + top) (length work) (length table) (length kinds) k a s g.sizes;
    }

    good_start : Good 6 0 (store work table kinds (record { top = top; grown = 0; fresh = 0; edited = false }))
    good_start =
        let z : length table / 32 - 0 ≡ length table / 32 = omega arith in
        let same = ap (λ (m : ℕ). sizes_from m 0 table) z in
        record {
          stored_at = stored;
          edits = nil (unthreaded (blocks_of work table));
          sizes =
              record {
                long = record { work = refl; table = refl; kinds = refl; fresh = omega arith };
                top = inl (omega arith);
                block = λ i. let first = sizes_first (length table / 32) 0 table i in omega arith;
                later = let next = sizes_next (length table / 32) 0 table in omega arith;
              };
        }

    -- what is left is what Thread leaves
    pub thread-is : length table / 32 ≤ 4294967296
        → thread (facts_in facts body budget) (blocks_of work table) ≡ work_of (thread_in facts body budget known copy work table kinds top)
    thread-is few = thread-same facts body budget known copy Good good_fine good_keeps good_leads work table kinds top few good_start

    -- which stays sound and canonical
    pub thread_stored : Stored (thread_in facts body budget known copy work table kinds top)
    thread_stored =
        thread-holds facts body budget known copy Good good_fine good_keeps good_leads Stored (λ a s g. g.stored_at) work table kinds top good_start

    -- and as long as it was
    pub thread_long : Long (length work) (length table) (length kinds) (thread_in facts body budget known copy work table kinds top)
    thread_long =
        thread-holds facts body budget known copy Good good_fine good_keeps good_leads (Long (length work) (length table) (length kinds))
        (λ a s g. g.sizes.long) work table kinds top good_start
