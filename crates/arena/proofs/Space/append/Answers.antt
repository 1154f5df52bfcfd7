use Rattle.std.proofs.Common.{ap, sym, ◌∙◌, ◌+◌, drop, arith}
use Rattle.arena.specs.Arena.{arena_in, push_all}
use Rattle.arena.proofs.Laws.{push_step, push-end}
use Rattle.arena.proofs.Space.append.Goals as goal

pub loop-c-preserved : goal.loop-c-preserved
loop-c-preserved c =
    let a = c.args in
    let l = c.loop-c in
    let p = c.push.ensures in (
      (p.same.0 ∙ l.invariant.0.0, p.same.1 ∙ l.invariant.0.1),
      ap (push_all a.k.0 (drop (l.c-index + 1) a.code.now)) p.pushed
          ∙ sym (push_step a.k.0 a.code.now l.c-index _ (arena_in l.self) c.loop-c-test.true)
          ∙ l.invariant.1,
    )

pub returns-clause-appended : goal.returns-clause-appended
returns-clause-appended c =
    let a = c.args in
    let l = c.loop-c in
    push-end a.k.0 a.code.now l.c-index (arena_in l.self) (omega (arith, c.loop-c-test.false)) ∙ l.invariant.1
