use Prim.Native.Nat.{◌-◌}
use mathlib.Core.Path.{◌≡◌}
use Rattle.steps.specs.EqualArms.{follow, reached_from}
use Rattle.blocks.specs.Blocks.{blocks_in}
use Rattle.equal_arms.proofs.follow.Given as goal

abbrev pub invariant-loop-k : goal.invariant-loop-k
invariant-loop-k l = follow (4 - l.k) (blocks_in l.blocks) l.at.0 ≡ reached_from (blocks_in l.blocks) l.initial.at.0
