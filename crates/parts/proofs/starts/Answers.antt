use mathlib.Core.Path.{sym}
use Rattle.records.specs.Record.{records_of}
use Rattle.records.proofs.Laws.{length_records}
use Rattle.parts.proofs.Laws.{starts_are}
use Rattle.parts.proofs.starts.Goals as goal

pub returns : goal.returns
returns c =
    let b = c.args.b.now in
    starts_are (records_of b) c.start_of-blocks.ensures c.start_of-bodies.ensures c.start_of-code.ensures c.start_of-operands.ensures
    c.start_of-arms.ensures (sym (length_records b))
