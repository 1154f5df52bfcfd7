-- The equal-arms step keeps the blocks sound, and changes nothing where it says so.
use Prim.Native.Nat.{ℕ, zero, suc, ◌≤◌, ◌<◌, ◌^◌}
use native.Mathlib.Omega.{arith}
use mathlib.Core.Path.{◌≡◌, refl, ◌∙◌}
use mathlib.Core.Bool.{Bool, true, false, cond, true≢false}
use mathlib.Core.List.{List, []}
use lib.Dec.{eqb}
use lib.ListN.{length, get_or, length-set}
use Rattle.record_rules.specs.declared.exist.Counts.{Counts}
use Rattle.inst.specs.declared.Code.{Code}
use Rattle.inst.specs.declared.Inst.TheVariants as inst
use Rattle.codec.specs.Codec.{block_of}
use Rattle.procedure.specs.Lists.{joined}
use Rattle.ends.specs.declared.End.{End}
use Rattle.ends.specs.declared.End.TheVariants as e
use Rattle.ends.specs.Ends.{end_of, lone_of, with_end}
use Rattle.steps.specs.EqualArms.{past, follow, reached_from, Arms, join_if, join_end, join_arms, join_from, equal_arms}
use Rattle.round_trips.specs.WellFormed.{All, Sound, BlockIn}
use Rattle.round_trips.proofs.Lists.{all-at, all-turn}
use Rattle.step_laws.proofs.Blocks.{all_or, all_set, joined-set, EndIn, end-in, lone_in, inside, end-length, end_with, br_final}

-- the instructions of a block, none where there is no such block
pub each_at : (n : Counts) (P : List (List Code)) → All (BlockIn n) P → (k : ℕ) → All (Sound n) (get_or P k [])
each_at n P h k = all_or (All (Sound n)) P [] tt (all-turn (λ c b. b.each) P h) k

-- what the step leaves of the blocks P
pub record Kept (n : Counts) (P : List (List Code)) (s : Arms) : Type 0 where
  pub each : All (BlockIn n) s.blocks
  pub blocks : length s.blocks ≡ length P
  pub code : length (joined s.blocks) ≡ length (joined P)
  pub same : s.edited ≡ false → s.blocks ≡ P

module _ (n : Counts) (few : n.blocks ≤ 2 ^ 32) where
  past-in : (b : ℕ) (x : End) → b < n.blocks → EndIn n x → past b x < n.blocks
  past-in b (e.Br to) h i = by (eqb to.0 b)
    where
      by : (t : Bool) → cond t b to.0 < n.blocks
      by true = h
      by false = i
  past-in b (e.CondBr c t f) h i = h
  past-in b (e.Case t) h i = h
  past-in b e.Other h i = h

  follow-in : (k : ℕ) (P : List (List Code)) → All (BlockIn n) P → (b : ℕ) → b < n.blocks → follow k P b < n.blocks
  unfolding follow
  follow-in zero P h b i = i
  follow-in (suc k) P h b i = follow-in k P h _ (past-in b (lone_of (get_or P b [])) i (lone_in n (get_or P b []) (each_at n P h b)))

  module _ (P : List (List Code)) where
    join_if_lem : (t : Bool) (k to : ℕ) (s : Arms) → Kept n P s → k < length s.blocks → to < n.blocks → Kept n P (join_if t k to s)
    join_if_lem false k to s h i j = h
    join_if_lem true k to s h i j =
        let c = get_or s.blocks k [] in
        let x = inst.Br (block_of to) in
        record {
          each = all_set (BlockIn n) s.blocks k (with_end x c) h.each
              (λ l. end_with n x c (br_final n few to j) (all-at (BlockIn n) s.blocks [] h.each k l));
          blocks = length-set s.blocks k (with_end x c) ∙ h.blocks;
          code = let a = joined-set s.blocks k (with_end x c) i in let b = end-length x c in let d = h.code in omega arith;
          same = λ f. absurd (true≢false f);
        }

    join_end_lem : (x : End) (k : ℕ) (s : Arms) → end_of (get_or s.blocks k []) ≡ x → Kept n P s → Kept n P (join_end x k s)
    join_end_lem (e.Br to) k s q h = h
    join_end_lem (e.CondBr c t f) k s q h =
        let d = end-in n (get_or s.blocks k []) (each_at n s.blocks h.each k) in
        let d' : EndIn n (e.CondBr c t f) = rw q at d in
        let to = reached_from s.blocks t.0 in
        let there = inside s.blocks k (λ o. let z : ◌≡◌ {A = ℕ} 0 1 = cc in absurd (omega arith)) in
        join_if_lem (eqb to (reached_from s.blocks f.0)) k to s h there (follow-in 4 s.blocks h.each t.0 d'.1)
    join_end_lem (e.Case t) k s q h = h
    join_end_lem e.Other k s q h = h

    join_from_lem : (m k : ℕ) (s : Arms) → Kept n P s → Kept n P (join_from m k s)
    unfolding join_from join_arms
    join_from_lem zero k s h = h
    join_from_lem (suc m) k s h = join_from_lem m (suc k) (join_arms k s) (join_end_lem (end_of (get_or s.blocks k [])) k s refl h)

    pub arms-kept : All (BlockIn n) P → Kept n P (equal_arms P)
    arms-kept h = join_from_lem (length P) 0 _ (record { each = h; blocks = refl; code = refl; same = λ e. refl })
