use native.Mathlib.Omega.{arith}
use mathlib.Core.Path.{ap, ◌∙◌}
use Rattle.put_record.specs.Store.{put_of}
use Rattle.blocks.specs.Blocks.{block_records_in}
use Rattle.blocks.proofs.Parts.{length-table, length-blocks}
use Rattle.emit_records.specs.Emitted.{marks_in}
use Rattle.emit_records.proofs.Passes.{empty_one, empty_end}
use Rattle.emit_records.proofs.Writing.{begun, next, done}
use Rattle.emit_records.proofs.Heads.{heading_start, heading_one, heading_end}
use Rattle.emit_records.proofs.Left.put_blocks.Goals as goal

pub loop-b-init : goal.loop-b-init
loop-b-init c =
    let l = c.args.self.now in
    let R = block_records_in l.blocks.code.now l.blocks.table.now in
    let m = marks_in l.seen.now in (begun _ _, λ i n. heading_start m R _ _ i)

pub loop-b-preserved : goal.loop-b-preserved
loop-b-preserved c =
    let l = c.args.self.now in
    let R = block_records_in l.blocks.code.now l.blocks.table.now in
    let m = marks_in l.seen.now in
    let n = length-table l.blocks.code.now l.blocks.table.now in
    let e = length-blocks l.blocks.code.now l.blocks.table.now in (
      next c.loop-b.invariant.0 (empty_one m R c.loop-b.b (omega arith)) c.put_new.ensures,
      λ i j. heading_one m R (omega arith) c.put_new.ensures (grind (arith, c.unwrap_or-end.ensures, c.try_from.ensures))
          (c.put_record.ensures ∙ ap (put_of c.loop-b.heads c.loop-b.b) c.record_of_block.ensures) (omega arith) (c.loop-b.invariant.1 i j),
    )

pub returns : goal.returns
returns c =
    let l = c.args.self.now in
    let R = block_records_in l.blocks.code.now l.blocks.table.now in
    let m = marks_in l.seen.now in
    let n = length-table l.blocks.code.now l.blocks.table.now in
    let e = length-blocks l.blocks.code.now l.blocks.table.now in
    record {
      code = done c.loop-b.invariant.0 (empty_end m R c.loop-b.b (omega arith));
      heads = λ i j. heading_end m R (omega arith) (c.loop-b.invariant.1 i j);
    }
