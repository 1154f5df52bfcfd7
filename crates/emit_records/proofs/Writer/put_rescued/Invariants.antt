use lib.ListN.{drop}
use Rattle.records.specs.Record.{records_of}
use Rattle.emit_records.specs.Emitted.{rescued_in}
use Rattle.emit_records.proofs.Writing.{Writing}
use Rattle.emit_records.proofs.Writer.put_rescued.Given as goal

abbrev pub invariant-loop-k : goal.invariant-loop-k
invariant-loop-k l = Writing l.fn.self (rescued_in l.facts (records_of l.code)) l.self (rescued_in l.facts (drop l.k (records_of l.code)))
