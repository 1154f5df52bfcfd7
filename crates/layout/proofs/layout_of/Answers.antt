use Rattle.std.proofs.Common.{rules}
use mathlib.Core.Path.{sym, ◌∙◌}
use Rattle.records.specs.Record.{records_of}
use Rattle.records.proofs.Laws.{length_records}
use Rattle.layout.proofs.Laid.{laid_out, not_laid}
use Rattle.layout.proofs.layout_of.Goals as goal

pub returns-then-end-b : goal.returns-then-end-b
returns-then-end-b c =
    let b = c.args.b.now in
    laid_out (records_of b) c.span-blocks.ensures.value c.span-bodies.ensures.value c.span-code.ensures.value c.span-operands.ensures.value c.span-arms.ensures.value c.span-end.ensures.value
    (c.if-end-b.true ∙ sym (length_records b))

pub returns-else-end-b : goal.returns-else-end-b
returns-else-end-b c =
    let b = c.args.b.now in
    let zeros = not_laid (records_of b) c.span-blocks.ensures.value c.span-bodies.ensures.value c.span-code.ensures.value c.span-operands.ensures.value c.span-arms.ensures.value c.span-end.ensures.value
    (λ i. c.if-end-b.false (i ∙ length_records b)) in
    search rules
