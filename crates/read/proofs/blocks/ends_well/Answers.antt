use native.Mathlib.Omega.{arith}
use mathlib.Core.Bool.{not}
use Rattle.records.specs.Record.{records_of}
use Rattle.read.specs.Structure.{terminator}
use Rattle.read.specs.Spans.{spanned}
use Rattle.read.proofs.Laws.{part_length}
use Rattle.layout.proofs.Walks.{lead_le}
use Rattle.read.proofs.blocks.ends_well.Goals as goal

pub overflow_add-result : goal.overflow_add-result
overflow_add-result c =
    let s = c.args.code in
    let few = lead_le (λ i. not (terminator i)) (spanned s) in
    let size = part_length (records_of s.b.now) s.first s.count s.within in
    omega (arith, c.first_terminator.ensures, few, size, s.within, s.few)

pub returns : goal.returns
returns c = let s = c.args.code in
    rw (c.first_terminator.ensures, part_length (records_of s.b.now) s.first s.count s.within)
