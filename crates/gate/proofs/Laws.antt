-- Laws of the gate: one block more.
use Prim.Native.Nat.{ℕ, suc}
use native.Mathlib.Omega.{arith}
use Rattle.std.specs.List.{list_any, range_with_len}
use Rattle.small.proofs.Places.{any_along}
use mathlib.Core.Path.{◌≡◌, refl, ap}
use mathlib.Core.Bool.{Bool, true, false, not}
use mathlib.Core.List.{List, []}
use lib.Dec.{leb}
use lib.ListN.{length, get_or}
use Rattle.general.proofs.Booleans.{both, neither}
use Rattle.inst.specs.declared.Code.{Code}
use Rattle.procedure.specs.Lists.{any_of}
use Rattle.ends.specs.declared.End.{End}
use Rattle.ends.specs.Ends.{end_of, targets}
use Rattle.steps.specs.Small.{small, latch}
use Rattle.steps.specs.Gate as g

-- a Br or CondBr to block b or before
abbrev pub back : ℕ → End → Bool
back b e = any_of (λ t. leb t b) (targets e)

-- a search over the blocks' numbers is the search along the blocks
module _ (P : List (List Code)) where
  pub back_places : list_any (λ k. back k (end_of (get_or P k []))) (range_with_len 0 (length P)) ≡ g.has_back_edge P
  unfolding g.back_edge_from
  back_places =
      any_along [] g.back_edge_from (λ k x. back k (end_of x)) (λ k. back k (end_of (get_or P k []))) (λ k. refl) (λ k x l. refl) P 0
      (λ k j h e. let i : k ≡ j = omega arith in ap (λ (n : ℕ). back k (end_of (get_or P n []))) i)

  pub hop_places : (wide : Bool) → list_any (λ k. g.may_hop wide P k (end_of (get_or P k []))) (range_with_len 0 (length P)) ≡ g.may_thread wide P
  unfolding g.may_thread_from
  hop_places wide =
      any_along [] (g.may_thread_from wide P) (λ k x. g.may_hop wide P k (end_of x)) (λ k. g.may_hop wide P k (end_of (get_or P k [])))
      (λ k. refl) (λ k x l. refl) P 0
      (λ k j h e. let i : k ≡ j = omega arith in ap (λ (n : ℕ). g.may_hop wide P k (end_of (get_or P n []))) i)

-- a block that is copied, by its tests in their order
module _ (wide : Bool) (P : List (List Code)) (l : ℕ) where
  pub not_small : small (get_or P l []) ≡ false → false ≡ g.copied wide P l
  unfolding g.copied
  not_small e = neither _ refl e

  pub small_block : {x : Bool} → small (get_or P l []) ≡ true → x ≡ not (latch (get_or P l []) (get_or P (suc l) []) l wide) → x ≡ g.copied wide P l
  unfolding g.copied
  small_block e f = both refl e f
