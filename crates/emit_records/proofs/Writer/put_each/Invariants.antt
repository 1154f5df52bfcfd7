use lib.ListN.{drop}
use Rattle.records.specs.Record.{records_of}
use Rattle.emit_records.proofs.Writing.{Writing}
use Rattle.emit_records.proofs.Writer.put_each.Given as goal

abbrev pub invariant-loop-k : goal.invariant-loop-k
invariant-loop-k l = Writing l.fn.self (records_of l.code) l.self (drop l.k (records_of l.code))
