-- A hop keeps the storage sound and its records canonical, and is a row of edits of the definition.
use Prim.Native.Nat.{ℕ, ◌-◌, ◌/◌, ◌≤◌, ◌<◌, ◌^◌}
use native.Mathlib.Omega.{arith}
use mathlib.Core.Path.{◌≡◌, refl, ap, subst, ◌∙◌}
use mathlib.Core.Bool.{Bool, true, false, ◌&&◌, cond}
use mathlib.Core.List.{List, [], map}
use mathlib.Core.Logic.{◌⊎◌, inl, inr}
use Rattle.std.proofs.Common.{Option}
use lib.Dec.{leb}
use lib.ListN.{length, get_or, take, drop, get_or-eq_default}
use Rattle.general.proofs.Numbers.{order}
use Rattle.records.specs.Record.{records_of, record_at}
use Rattle.inst.specs.declared.Code.{Code}
use Rattle.codec.specs.Codec.{code_of, InRange}
use Rattle.ends.specs.declared.End.{End}
use Rattle.ends.specs.declared.End.TheVariants as e
use Rattle.ends.specs.Ends.{code_at, end_of}
use Rattle.blocks.specs.Blocks.{blocks_of, Canonical}
use Rattle.blocks.proofs.Bytes.{block-range}
use Rattle.blocks.proofs.Parts.{length-blocks, codes_at, records_at}
use Rattle.equal_arms.proofs.Reach.{Named, end-named}
use Rattle.steps.specs.Facts.{Facts}
use Rattle.steps.specs.Thread.{Work, Hop, stay, last, next, block_at, stops, hop, onward}
use Rattle.steps.proofs.Edits.{Edits, nil, then, HopOk, hop_ok}
use Rattle.facts.specs.Storage.{facts_in}
use Rattle.hop_cond_br.specs.declared.Turn.{Turn}
use Rattle.hop_cond_br.specs.declared.Turn.TheVariants as u
use Rattle.hop_cond_br.specs.Storage.{turned, before, turned_in}
use Rattle.hop_cond_br.proofs.Laws.{turned-canonical, turned-length, turned-bytes}
use Rattle.arena.specs.Arena.{arena}
use Rattle.arena.proofs.Moved.{Sound}
use Rattle.hop_br.specs.Storage.{replaced}
use Rattle.hop_br.proofs.Blocks.{replaced-canonical}
use Rattle.thread.specs.Storage.{Store, turned_at, append_in, hop_br_in, hop_cond_br_in, hop_at_in, hop_in}
use Rattle.thread.proofs.Refined.{work_of, arena_of, Room, new, join_grown}
use Rattle.thread.proofs.Same.{Fine, Tested, end_tested, hop-same}

-- what a hop is given and leaves
pub record Stored (s : Store) : Type 0 where
  pub sound : Sound (arena_of s)
  pub canonical : Canonical s.work s.table

either : (b : Bool) (w : Work) → cond b w w ≡ w
either true w = refl
either false w = refl

-- a block that ends with a Br is there, and holds code
abbrev pub is_br : End → Type 0
is_br (e.Br l) = Unit {0}
is_br (e.CondBr c t f) = ⊥
is_br (e.Case n) = ⊥
is_br e.Other = ⊥

none_br : (c : List Code) → c ≡ [] → is_br (end_of c) → ⊥
unfolding end_of
none_br c q h = subst (λ (x : List Code). is_br (end_of x)) q h

module _ (s : Store) (a : ℕ) (br : is_br (end_of (get_or (blocks_of s.work s.table) a []))) where
  pub br_there : a < length s.table / 32
  br_there = by (order a (length (blocks_of s.work s.table)))
    where
      by : (a < length (blocks_of s.work s.table)) ⊎ (length (blocks_of s.work s.table) ≤ a) → a < length s.table / 32
      by (inl i) = let n = length-blocks s.work s.table in omega arith
      by (inr i) = absurd (none_br _ (get_or-eq_default (blocks_of s.work s.table) [] i) br)

  pub br_holds : (record_at s.table a).p1 < (record_at s.table a).p2
  br_holds = by (order (record_at s.table a).p1 (record_at s.table a).p2)
    where
      by : ((record_at s.table a).p1 < (record_at s.table a).p2) ⊎ ((record_at s.table a).p2 ≤ (record_at s.table a).p1)
          → (record_at s.table a).p1 < (record_at s.table a).p2
      by (inl i) = i
      by (inr i) =
          let r = record_at s.table a in
          let z : r.p2 - r.p1 ≡ 0 = omega arith in
          absurd
          (none_br _
          (codes_at s.work s.table a
          ∙ ap (map code_of) (records_at s.work s.table a)
          ∙ ap (λ (n : ℕ). map code_of (take n (drop r.p1 (records_of s.work)))) z)
          br)

module _ (facts : List ℕ) (body : Option ℕ) (budget known copy : ℕ) where
  abbrev f : Facts
  f = facts_in facts body budget

  onward_ok : (w : Work) (x : Hop) → HopOk f w x → Edits f w (onward x w (λ v. v))
  onward_ok w stay t = nil w
  onward_ok w (last w') t = then t (nil w')
  onward_ok w (next w') t = then t (nil w')

  module _ (s : Store) (a : ℕ) (w : Fine facts body budget known copy s a) where
    -- so what the definition's edits keep is kept
    pub hop_edits : Edits f (work_of s) (work_of (hop_in facts body budget known copy s a).to)
    hop_edits =
        let z = hop_in facts body budget known copy s a in
        let same = hop-same facts body budget known copy s a w (λ v. v) ∙ either z.more (work_of z.to) in
        subst (Edits f (work_of s)) same (onward_ok (work_of s) (hop f (work_of s) a) (hop_ok f (work_of s) a))

    module _ (k : Canonical s.work s.table) where
      joined-kept : (b : Bool) (l : ℕ) → (b ≡ false → Room facts body budget s a l) → Stored (append_in facts body budget known copy b s a l).to
      joined-kept true l r = record { sound = w.sound; canonical = k }
      joined-kept false l r =
          let g = join_grown facts body budget known copy s a l w.sound (r refl) in
          let c = new facts body budget known copy s a l w.sound in
          record { sound = g.sound; canonical = replaced-canonical (arena_of s) (replaced a c (arena_of s)) a c g k }

      turned-kept : (z : Turn) (code : List ℕ) → Sound (arena code s.table s.at.top) → Canonical code s.table
          → Stored (turned_at s (turned code z)).to
      turned-kept u.Stay code h c = record { sound = h; canonical = c }
      turned-kept u.Last code h c = record { sound = h; canonical = c }
      turned-kept u.Next code h c = record { sound = h; canonical = c }

      cond_br_kept : (c t e : ℕ) → c < 2 ^ 32 → t < 2 ^ 32 → e < 2 ^ 32 → Stored (hop_cond_br_in facts body budget known copy s a c t e).to
      unfolding hop_cond_br_in
      cond_br_kept c t e hc ht he =
          let n = length (before s.table a s.work) in
          let room = leb n (known / 2) && leb n (copy / 2) in
          let z = turned_in s.table a facts body s.work c t e room in
          let v = w.sound in
          let size = turned-length s.table s.work v.work-bytes a body c t e hc ht he facts room in
          let fit = v.fit in
          let sound : Sound (arena z.code s.table s.at.top) =
          record {
            work-bytes = turned-bytes s.table s.work v.work-bytes a body c t e hc ht he facts room;
            table-bytes = v.table-bytes;
            fit = rw size fit;
            word = v.word;
            apart = v.apart;
          } in
          turned-kept z.turn z.code sound
          (turned-canonical s.table s.work v.work-bytes a body c t e hc ht he s.at.top v.apart v.fit facts room k)

      br_kept : (l : ℕ) → (stops f (work_of s) a l ≡ false → Room facts body budget s a l) → Stored (hop_br_in facts body budget known copy s a l).to
      unfolding hop_br_in stops
      br_kept l r = joined-kept (stops f (work_of s) a l) l r

      end_kept : (x : End) → end_of (block_at (work_of s) a) ≡ x → Stored (hop_at_in facts body budget known copy s a x).to
      end_kept (e.Br l) q = br_kept l.0 (w.room l q)
      end_kept (e.CondBr c t g) q =
          let ranges : (j : ℕ) → InRange (code_at (block_at (work_of s) a) j) = λ j. block-range s.work s.table a j w.sound.work-bytes in
          let n = subst Named q (end-named (block_at (work_of s) a) ranges) in
          let m = subst Tested q (end_tested (block_at (work_of s) a) ranges) in
          cond_br_kept c.0 t.0 g.0 m n.0 n.1
      end_kept (e.Case n) q = record { sound = w.sound; canonical = k }
      end_kept e.Other q = record { sound = w.sound; canonical = k }

      pub hop-kept : Stored (hop_in facts body budget known copy s a).to
      unfolding hop_in
      hop-kept = end_kept (end_of (block_at (work_of s) a)) refl
