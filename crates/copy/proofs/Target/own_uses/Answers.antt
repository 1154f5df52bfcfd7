use Rattle.std.proofs.Common.{arith}
use Rattle.copy.proofs.Laws.{own_next, own_done}
use Rattle.copy.proofs.Target.own_uses.Goals as goal

pub overflow_add-z : goal.overflow_add-z
overflow_add-z c = let a = c.args in omega (arith, c.reads_of-z.ensures.1, c.loop-c-test.true, a.self.few)

pub loop-c-preserved : goal.loop-c-preserved
loop-c-preserved c =
    let a = c.args in
    let next = own_next a.r.0 c.loop-c.c-index a.self.code.now c.loop-c-test.true in
    (omega (arith, c.reads_of-z.ensures.1), omega (arith, c.reads_of-z.ensures.0, next))

pub returns : goal.returns
returns c =
    let a = c.args in
    let done = own_done a.r.0 c.loop-c.c-index a.self.code.now (omega (arith, c.loop-c-test.false)) in
    omega (arith, done)
