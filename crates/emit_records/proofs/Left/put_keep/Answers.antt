use native.Mathlib.Omega.{arith}
use Rattle.blocks.specs.Blocks.{block_records_in}
use Rattle.blocks.proofs.Parts.{length-table, length-blocks}
use Rattle.emit_records.specs.Emitted.{marks_in}
use Rattle.emit_records.proofs.Passes.{rescues-one, rescues-end}
use Rattle.emit_records.proofs.Writing.{begun, next, done}
use Rattle.emit_records.proofs.Left.put_keep.Goals as goal

pub loop-b-init : goal.loop-b-init
loop-b-init c = begun _ _

pub loop-b-preserved : goal.loop-b-preserved
loop-b-preserved c =
    let l = c.args.self.now in
    let n = length-table l.blocks.code.now l.blocks.table.now in
    let e = length-blocks l.blocks.code.now l.blocks.table.now in
    next c.loop-b.invariant
    (rescues-one (marks_in l.seen.now) (block_records_in l.blocks.code.now l.blocks.table.now) c.loop-b.b c.args.facts.now (omega arith)) c.put_lost.ensures

pub returns : goal.returns
returns c =
    let l = c.args.self.now in
    let n = length-table l.blocks.code.now l.blocks.table.now in
    let e = length-blocks l.blocks.code.now l.blocks.table.now in
    done c.loop-b.invariant
    (rescues-end (marks_in l.seen.now) (block_records_in l.blocks.code.now l.blocks.table.now) c.loop-b.b c.args.facts.now (omega arith))
