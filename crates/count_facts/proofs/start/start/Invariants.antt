use Prim.Native.Nat.{◌*◌, ◌/◌, ◌≤◌}
use mathlib.Core.Path.{◌≡◌}
use mathlib.Core.List.{◌++◌}
use lib.ListN.{length, take}
use Rattle.facts.specs.Storage.{rows, kinds_of}
use Rattle.count_facts.specs.Filling.{bare}
use Rattle.count_facts.proofs.start.start.Given as goal

abbrev pub invariant-loop-k : goal.invariant-loop-k
invariant-loop-k l =
    (l.k ≤ length l.initial.table / 5) × ((take (5 * l.k) l.table ≡ rows l.k (bare (kinds_of l.registers ++ l.kinds))) × (length l.table ≡ length l.initial.table))
