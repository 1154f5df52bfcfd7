use Rattle.std.proofs.Common.{◌≡◌, filter, take}
use Rattle.lengths.specs.Storage.{stays, listed}
use Rattle.lengths.proofs.Lengths.all_stay.Given as goal

abbrev pub invariant-loop-k : goal.invariant-loop-k
invariant-loop-k l = filter (stays l.d.0) (take l.k (listed l.self)) ≡ take l.k (listed l.self)
