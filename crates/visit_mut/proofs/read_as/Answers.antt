use Rattle.std.proofs.Common.{ap, ◌∙◌, arith}
use Rattle.roles.specs.Roles.{reg_of}
use Rattle.visit_mut.proofs.Laws.{through_here, through-later, through-done}
use Rattle.visit_mut.proofs.read_as.Goals as goal

pub returns-then-eq : goal.returns-then-eq
returns-then-eq c =
    let s = c.args in
    let l = c.loop-p in
    ap reg_of (through_here s.pairs.now l.p-index s.r.0 _ c.loop-p-test.true c.if-eq.ensures ∙ l.invariant)

pub loop-p-preserved : goal.loop-p-preserved
loop-p-preserved c =
    let s = c.args in
    let l = c.loop-p in
    through-later s.pairs.now l.p-index s.r.0 _ c.loop-p-test.true c.if-eq.ensures ∙ l.invariant

pub returns : goal.returns
returns c =
    let s = c.args in
    let l = c.loop-p in
    ap reg_of (through-done s.pairs.now l.p-index s.r.0 (reg_of 0, reg_of 0) (omega (arith, c.loop-p-test.false)) ∙ l.invariant)
