use Rattle.std.proofs.Common.{length, ◌∙◌, arith}
use Rattle.pause.specs.Storage.{body_in}
use Rattle.thread.specs.Threading.{store_in}
use Rattle.thread.proofs.Laws.{same_then, thread-end, thread_go}
use Rattle.thread.proofs.thread.Goals as goal

pub loop-a-preserved : goal.loop-a-preserved
loop-a-preserved c =
    let a = c.args in
    let f = a.facts.now in
    let room = a.room.now in
    let l = c.loop-a in
    let i = l.invariant in
    let h = c.hops.ensures in
    let same = i.3 in (
      i.0,
      (h.same.0 ∙ i.1.0, h.same.1 ∙ i.1.1),
      h.same_kinds ∙ i.2,
      same_then same h.same_room,
      thread_go f.table.now (body_in f.pause) f.budget (length room.known.now) (length room.copy.now)
          _ l.a (store_in l.space l.added) c.loop-a-test.true same.known-length same.copy-length h.hopped
          ∙ i.4,
    )

pub returns-clause-threaded : goal.returns-clause-threaded
returns-clause-threaded c =
    let a = c.args in
    let f = a.facts.now in
    let room = a.room.now in
    let l = c.loop-a in
    thread-end f.table.now (body_in f.pause) f.budget (length room.known.now) (length room.copy.now) _ l.a
    (store_in l.space l.added) (omega (arith, c.loop-a-test.false)) ∙ l.invariant.4
