use mathlib.Core.Path.{◌∙◌}
use Rattle.record_rules.proofs.Laws.{picked}
use Rattle.record_rules.proofs.fit.blank.Goals as goal

pub returns : goal.returns
returns c =
    let a = c.args in
    c.all_zero.ensures
    ∙ rw (c.beyond-6.ensures, c.beyond-5.ensures, c.beyond-4.ensures, c.beyond-3.ensures, c.beyond-2.ensures, c.beyond.ensures)
    (picked a.used a.r)
