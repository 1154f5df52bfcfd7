use mathlib.Core.Path.{ap, ◌∙◌}
use Rattle.records.specs.Record.{records_of}
use Rattle.blocks.proofs.Parts.{block_records_lem}
use Rattle.emit_records.proofs.Writing.{wrote_none}
use Rattle.emit_records.proofs.Left.put_lost.Goals as goal

pub returns-then-not-keeps : goal.returns-then-not-keeps
returns-then-not-keeps c =
    let l = c.args.self.now in
    let e = ap records_of c.code_at.ensures ∙ block_records_lem l.blocks.code.now l.blocks.table.now c.args.b in
    rw (← c.if-not-keeps.ensures, ← e) c.put_rescued.ensures

pub returns-else-not-keeps : goal.returns-else-not-keeps
returns-else-not-keeps c = rw (← c.keeps.ensures, c.if-not-keeps.false) (wrote_none c.args.to.now)
