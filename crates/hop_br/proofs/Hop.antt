-- A join is the copy of a hop of a Br: where the target is small and the next number is one of 16 bits, the blocks become those of the definition.
use Prim.Native.Nat.{ℕ, ◌+◌, ◌≤◌}
use native.Mathlib.Omega.{arith}
use mathlib.Core.Path.{◌≡◌, sym, ap, ◌∙◌}
use mathlib.Core.Bool.{false}
use mathlib.Core.List.{List, [], ◌++◌}
use Rattle.std.proofs.Common.{Option}
use borrow.Author.Tests.{leb-true}
use lib.Dec.{leb}
use lib.ListN.{length, get_or, take, set}
use lib.Seq.{take_all}
use Rattle.general.proofs.Booleans.{and_first}
use Rattle.inst.specs.declared.Code.{Code}
use Rattle.ends.specs.Ends.{front}
use Rattle.blocks.specs.Blocks.{blocks_of}
use Rattle.blocks.proofs.Parts.{block_codes}
use Rattle.steps.specs.Small.{small}
use Rattle.steps.specs.Facts.{Facts}
use Rattle.steps.specs.Copy.{copy_of, kinds_of}
use Rattle.steps.specs.Thread.{Work, block_at, next_number, stops, appended}
use Rattle.steps.proofs.Copied.{stops-small}
use Rattle.facts.specs.Storage.{kinds_in, facts_in}
use Rattle.arena.specs.Arena.{Arena}
use Rattle.hop_br.specs.Storage.{next_in, target_in, copy_in, given_in, kinds_put}
use Rattle.hop_br.proofs.Joins.{kinds-follow}

-- a target that is copied has four instructions at most
pub few : (f : Facts) (w : Work) (a l : ℕ) → stops f w a l ≡ false → length (block_at w l) ≤ 4
unfolding small
few f w a l e = leb-true (length (block_at w l)) 4 (and_first (leb (length (block_at w l)) 4) _ (stops-small f w a l e))

module _ (facts : List ℕ) (body : Option ℕ) (budget l fresh : ℕ) (s : Arena) (w : Work)
    (same : w.blocks ≡ blocks_of s.work s.table) (short : length (block_at w l) ≤ 4)
  where
    pub target : target_in s l ≡ block_at w l
    target =
        ap (take 4) (block_codes s.work s.table l ∙ ap (λ (P : List (List Code)). get_or P l []) (sym same))
        ∙ take_all 4 (block_at w l) short

    pub given : given_in facts body budget (target_in s l) ≡ kinds_of (facts_in facts body budget) (block_at w l)
    given = ap (kinds_of (facts_in facts body budget)) target

    -- the kinds of the new registers, in the order they were given
    pub kinds : (b : List ℕ) → w.kinds ≡ take fresh b → fresh + length (given_in facts body budget (target_in s l)) ≤ length b
        → take (fresh + length (given_in facts body budget (target_in s l))) (kinds_put b fresh (given_in facts body budget (target_in s l)))
        ≡ w.kinds ++ kinds_of (facts_in facts body budget) (block_at w l)
    kinds b e h =
        let g = given_in facts body budget (target_in s l) in
        kinds-follow b fresh g h
        ∙ ap (λ (x : List ℕ). x ++ g) (sym e)
        ∙ ap (λ (x : List ℕ). w.kinds ++ x) given

    module _ (count : length w.kinds ≡ fresh) (narrow : length (kinds_in facts) + fresh ≤ 65535) where
      pub copy : copy_in facts body budget fresh (target_in s l)
          ≡ copy_of (facts_in facts body budget) (block_at w l) (next_number (facts_in facts body budget) w)
      copy =
          let n : next_in facts fresh ≡ length (kinds_in facts) + length w.kinds = omega arith in
          ap (λ (c : List Code). copy_of (facts_in facts body budget) c (next_in facts fresh)) target
          ∙ ap (copy_of (facts_in facts body budget) (block_at w l)) n

      -- with what the arena's laws say of the blocks that are left
      pub blocks : (a : ℕ) (t : Arena) (ks : List ℕ)
          → blocks_of t.work t.table
          ≡ set (blocks_of s.work s.table) a
          (front (get_or (blocks_of s.work s.table) a []) ++ copy_in facts body budget fresh (target_in s l))
          → blocks_of t.work t.table
          ≡ (appended w a (copy_of (facts_in facts body budget) (block_at w l) (next_number (facts_in facts body budget) w)) ks).blocks
      blocks a t ks e =
          e
          ∙ ap (λ (P : List (List Code)). set P a (front (get_or P a []) ++ copy_in facts body budget fresh (target_in s l))) (sym same)
          ∙ ap (λ (c : List Code). set w.blocks a (front (block_at w a) ++ c)) copy
