use Rattle.std.proofs.Common.{length}
use Rattle.pause.specs.Storage.{body_in}
use Rattle.run.proofs.Steps.{shut, opened, few, enough, not-joined}
use Rattle.run.proofs.run.Goals as goal

pub returns-then-n-lt6 : goal.returns-then-n-lt6
returns-then-n-lt6 c h =
    let a = c.args in
    few (body_in a.begin.pause) (length a.known.now) (length a.copy.now) a.operands.now a.registers.now a.begin.n
    a.work.now a.table.now a.kinds.now a.facts.now
    c.if-n-lt6.true c.still.ensures

pub returns-then-not-still_opens : goal.returns-then-not-still_opens
returns-then-not-still_opens c h =
    let a = c.args in
    enough (body_in a.begin.pause) (length a.known.now) (length a.copy.now) a.operands.now a.registers.now a.begin.n
    a.work.now a.table.now a.kinds.now a.facts.now
    c.if-n-lt6.false c.equal_arms-joined.ensures
    (shut (body_in a.begin.pause) (length a.known.now) (length a.copy.now) a.operands.now a.registers.now a.begin.n
    c.equal_arms-joined.new.code a.table.now a.kinds.now a.facts.now
    c.equal_arms-joined.result
    (c.still_opens.ensures (λ o e. not-joined (body_in a.begin.pause) a.work.now a.table.now c.equal_arms-joined.ensures e (h o)))
    c.if-not-still_opens.true c.still-then-not-still_opens.ensures)

pub returns : goal.returns
returns c h =
    let a = c.args in
    enough (body_in a.begin.pause) (length a.known.now) (length a.copy.now) a.operands.now a.registers.now a.begin.n
    a.work.now a.table.now a.kinds.now a.facts.now
    c.if-n-lt6.false c.equal_arms-joined.ensures
    (opened (body_in a.begin.pause) (length a.known.now) (length a.copy.now) a.operands.now a.registers.now a.begin.n
    c.equal_arms-joined.new.code a.table.now a.kinds.now a.facts.now
    c.equal_arms-joined.result
    (c.still_opens.ensures (λ o e. not-joined (body_in a.begin.pause) a.work.now a.table.now c.equal_arms-joined.ensures e (h o)))
    c.if-not-still_opens.false c.counted.ensures c.budget.ensures c.threaded-at.ensures)
