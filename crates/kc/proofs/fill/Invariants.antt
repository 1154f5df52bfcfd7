use Rattle.std.proofs.Common.{◌≡◌, ◌≤◌, ◌/◌, length, drop}
use Rattle.procedure.specs.Procedure.{codes_of}
use Rattle.kc.specs.Storage.{with_code}
use Rattle.kc.proofs.fill.Given as goal

abbrev pub invariant-loop-k : goal.invariant-loop-k
invariant-loop-k l = (l.table ≡ with_code l.fn.table (drop l.k (codes_of l.code))) × (l.k ≤ length l.code / 32)

abbrev pub decreases-loop-k : goal.decreases-loop-k
decreases-loop-k l = l.k
