use mathlib.Core.Path.{sym, ◌∙◌}
use Rattle.record_rules.proofs.Laws.{names_as_lem, other_names}
use Rattle.record_rules.proofs.exist.names_exist.Goals as goal

pub returns-then-r-from : goal.returns-then-r-from
returns-then-r-from c = names_as_lem c.args.l.now.counts c.args.r (c.if-r-from.true ∙ c.from.ensures) c.instruction_exist.ensures

pub returns-then-r-from-2 : goal.returns-then-r-from-2
returns-then-r-from-2 c = names_as_lem c.args.l.now.counts c.args.r (c.if-r-from-2.true ∙ c.from-2.ensures) c.arm_exist.ensures

pub returns : goal.returns
returns c =
    rw (c.from-3.ensures, c.from-4.ensures)
    (other_names c.args.l.now.counts c.args.r (λ e. c.if-r-from.false (e ∙ sym c.from.ensures)) (λ e. c.if-r-from-2.false (e ∙ sym c.from-2.ensures)))
