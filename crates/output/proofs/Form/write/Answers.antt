use Rattle.emit_records.proofs.Writing.{wrote_then}
use Rattle.output.proofs.Form.write.Goals as goal

pub returns : goal.returns
returns c =
    wrote_then c.put_block.ensures
    (wrote_then c.put_kinds.ensures
    (wrote_then c.put_block-2.ensures
    (wrote_then c.put_block-3.ensures
    (wrote_then c.put_block-4.ensures (wrote_then c.put_block-5.ensures c.put_block-6.ensures)))))
