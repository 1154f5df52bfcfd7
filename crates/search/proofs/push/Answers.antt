use Rattle.std.proofs.Common.{arith}
use Rattle.search.specs.Search.{search_of}
use Rattle.search.proofs.Laws.{pushed-past, pushed-old, slot_free, slotted_new, pushed_slot}
use Rattle.search.proofs.push.Goals as goal
use Rattle.search.proofs.push.Goals.{then-at-min-via-then-at-min, then-at-min-via-else-at-min+then-seen-at, then-at-min-via-else-at-min+else-seen-at+then-top-ge160}

pub returns-then-at-min-clause-result_after : goal.returns-then-at-min-clause-result_after
returns-then-at-min-clause-result_after c = λ z.
    let a = c.args in
    let s = search_of a.seen.now a.stack.now a.top in
    let m = c.min.ensures in
    let few = z.few in
    elim c.then-at-min.branch [
      | then-at-min-via-then-at-min w ↦ pushed-past a.nb s a.b.0 (omega (arith, w.if-at-min.true))
      | then-at-min-via-else-at-min+then-seen-at w ↦ pushed-old a.nb s a.b.0 (omega (arith, w.if-at-min.false)) w.if-seen-at.true
      | then-at-min-via-else-at-min+else-seen-at+then-top-ge160 w ↦
          absurd (let r = slot_free z (omega (arith, w.if-at-min.false)) w.if-seen-at.false in omega (arith, w.if-top-ge160.true))
    ]

pub returns-clause-sized : goal.returns-clause-sized
returns-clause-sized c = λ z. slotted_new z (omega (arith, c.min.ensures, c.if-at-min.false)) c.if-seen-at.false

pub returns-clause-result_after : goal.returns-clause-result_after
returns-clause-result_after c = λ z. pushed_slot z (omega (arith, c.min.ensures, c.if-at-min.false)) c.if-seen-at.false
