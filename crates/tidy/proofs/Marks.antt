-- Laws of the marks of the block that is read: those that the search leaves, and whether they were asked for.
use Prim.Native.Nat.{ℕ, ◌-◌, ◌<◌}
use native.Mathlib.Omega.{arith}
use mathlib.Core.Path.{◌≡◌, ap, ◌∙◌}
use mathlib.Core.Bool.{Bool, false}
use mathlib.Core.List.{List, [], ◌++◌, append-nil}
use lib.ListN.{length, get_or, replicate}
use Rattle.paths.specs.Paths.{reached_from}
use Rattle.search.specs.Search.{State, on_top, with_block, pushed_all}
use Rattle.search.proofs.Laws.{Held, weight, held-block, held_more, held_less}
use Rattle.tidy.specs.declared.targets.Targets.{Targets}
use Rattle.tidy.specs.Work.Marks.{both, edges_in}
use Rattle.tidy.proofs.Edges.{edges_length, edges_at}

module _ (ts : List Targets) (size : length ts ≡ 160) (a : ℕ) where
  -- 160 blocks, so there are no marks past them
  pub all_marked : {m : List Bool} → m ≡ reached_from (edges_in ts) a ++ replicate (160 - length (edges_in ts)) false → m ≡ reached_from (edges_in ts) a
  all_marked e =
      let n = edges_length ts ∙ size in
      e ∙ ap (λ (k : ℕ). reached_from (edges_in ts) a ++ replicate (160 - k) false) n ∙ append-nil (reached_from (edges_in ts) a)

  -- block b was popped, and its two targets pushed
  module _ {s : State} (h : Held (edges_in ts) a s) (t : State) (b : ℕ) (p : s ≡ on_top t b) where
    pub one_of_160 : b < 160
    one_of_160 = let n = edges_length ts ∙ size in let k = held-block h t b p in omega arith

    module _ (d : Targets) where
      abbrev pub after : State
      after = with_block (with_block t (get_or ts b d).one.0) (get_or ts b d).two.0

      targets : get_or (edges_in ts) b [] ≡ both (get_or ts b d)
      targets = edges_at d b ts (let k = one_of_160 in omega arith)

      pub both_pushed : Held (edges_in ts) a after
      unfolding pushed_all
      both_pushed = held_more h t b p targets

      pub both_less : weight after.found < weight s.found
      unfolding pushed_all
      both_less = held_less h t b p targets
