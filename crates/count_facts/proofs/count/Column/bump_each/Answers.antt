use Rattle.std.proofs.Common.{sym, ap, ◌∙◌}
use Rattle.roles.specs.Roles.{numbers_of}
use Rattle.roles.proofs.Laws.{numbers-length, number_at}
use Rattle.count_facts.specs.Filling.{counted}
use Rattle.count_facts.proofs.Laws.{over_again, over_done}
use Rattle.count_facts.proofs.count.Column.bump_each.Goals as goal

pub loop-r-preserved : goal.loop-r-preserved
loop-r-preserved c =
    let a = c.args in
    let l = c.loop-r in
    let regs = a.regs.now in
    let one = c.bump.ensures ∙ ap (counted a.self.at a.self.most l.table) (sym (number_at regs l.r-index 0)) in
    over_again (counted a.self.at a.self.most) (numbers_of regs) l.r-index 0 (rw (numbers-length regs) c.loop-r-test.true) one l.invariant

pub returns : goal.returns
returns c =
    let a = c.args in
    let l = c.loop-r in
    let regs = a.regs.now in
    over_done (counted a.self.at a.self.most) (numbers_of regs) l.r-index (rw (numbers-length regs) c.loop-r-test.false) l.invariant
