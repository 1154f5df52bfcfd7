use Prim.Native.Nat.{◌-◌, ◌/◌}
use mathlib.Core.Path.{◌≡◌}
use lib.ListN.{length}
use Rattle.equal_arms.specs.Joined.{joined, join_from, equal_arms_in}
use Rattle.equal_arms.proofs.equal_arms.Given as goal

abbrev pub invariant-loop-k : goal.invariant-loop-k
invariant-loop-k l = join_from l.table (length l.table / 32 - l.k) l.k (joined l.code l.edited) ≡ equal_arms_in l.table l.initial.code
