use mathlib.Core.Path.{sym, ap, ◌∙◌}
use Rattle.ends.proofs.Laws.{length_codes, inst-there, lone_one, lone_none}
use Rattle.procedure.specs.Procedure.{codes_of}
use Rattle.ends.specs.Ends.{view_of}
use Rattle.ends.proofs.lone_of.Goals as goal

pub returns-then-code-eq1 : goal.returns-then-code-eq1
returns-then-code-eq1 c = let b = c.args.code.now in
    c.end_in.ensures ∙ ap view_of (inst-there b 0 c.record_at.ensures)
    ∙ sym (lone_one (codes_of b) (length_codes b ∙ c.if-code-eq1.true))

pub returns : goal.returns
returns c = let b = c.args.code.now in sym (lone_none (codes_of b) (λ e. c.if-code-eq1.false (sym (length_codes b) ∙ e)))
