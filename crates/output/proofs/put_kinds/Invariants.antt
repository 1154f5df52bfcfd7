use lib.ListN.{drop}
use Rattle.emit_records.proofs.Writing.{Writing}
use Rattle.output.specs.Filed.{kind_records}
use Rattle.output.proofs.put_kinds.Given as goal

abbrev pub invariant-loop-kind : goal.invariant-loop-kind
invariant-loop-kind l = Writing l.fn.to (kind_records l.kinds) l.to (kind_records (drop l.kind-index l.kinds))
