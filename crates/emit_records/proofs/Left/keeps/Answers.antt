use Rattle.blocks.proofs.Parts.{block_codes}
use Rattle.emit_records.proofs.Left.keeps.Goals as goal

pub returns : goal.returns
returns c =
    let l = c.args.self.now in
    rw (← c.mark_at.ensures, ← block_codes l.blocks.code.now l.blocks.table.now c.args.b, ← c.code_at.ensures, ← c.len.ensures, ← c.saturating_sub.ensures)
    c.stays.ensures
