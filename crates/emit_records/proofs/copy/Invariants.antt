use mathlib.Core.Path.{◌≡◌}
use lib.Seq.{paste}
use Rattle.emit_records.proofs.copy.Given as goal

abbrev pub invariant-loop-k : goal.invariant-loop-k
invariant-loop-k l = l.to ≡ paste l.initial.to 0 l.from l.k
