use Rattle.std.proofs.Common.{◌≡◌, drop}
use Rattle.steps.specs.Slice.{entry}
use Rattle.lengths.specs.Storage.{entries, listed}
use Rattle.lengths.proofs.Lengths.find.Given as goal

abbrev pub invariant-loop-k : goal.invariant-loop-k
invariant-loop-k l = entry l.r.0 (entries l.what (λ b. b) (drop l.k (listed l.self))) ≡ entry l.r.0 (entries l.what (λ b. b) (listed l.self))
