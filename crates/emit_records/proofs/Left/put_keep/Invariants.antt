use lib.ListN.{drop}
use Rattle.blocks.specs.Blocks.{block_records_in}
use Rattle.emit_records.specs.Emitted.{marks_in, rescues_in}
use Rattle.emit_records.proofs.Writing.{Writing}
use Rattle.emit_records.proofs.Left.put_keep.Given as goal

abbrev pub invariant-loop-b : goal.invariant-loop-b
invariant-loop-b l =
    let m = marks_in l.self.seen.now in
    let R = block_records_in l.self.blocks.code.now l.self.blocks.table.now in
    Writing l.fn.to (rescues_in l.facts m R) l.to (rescues_in l.facts (drop l.b m) (drop l.b R))
