use Rattle.std.proofs.Common.{◌-◌, length, sym, ◌∙◌, arith}
use Rattle.pause.specs.Storage.{body_in}
use Rattle.thread.specs.Threading.{store_in}
use Rattle.thread.proofs.Laws.{same_then, over, onward, hops-end, hops_stop, hops_go}
use Rattle.thread.proofs.hops.Goals as goal

pub hops-preserved : goal.hops-preserved
hops-preserved c =
    let a = c.args in
    let f = a.facts.now in
    let room = a.room.now in
    let l = c.hops in
    let i = l.invariant in
    let h = c.hop-z.ensures in
    let same = i.2 in (
      (h.same.0 ∙ i.0.0, h.same.1 ∙ i.0.1),
      h.same_kinds ∙ i.1,
      same_then same h.same_room,
      hops_go f.table.now (body_in f.pause) f.budget (length room.known.now) (length room.copy.now) a.a.0 l.counter
          (omega (arith, c.hops-test.true)) (store_in l.space l.added)
          (rw (same.known-length, same.copy-length) at h.hopped) (onward c.hop-z.result (sym c.is_break.ensures ∙ c.if-is_break.false))
          ∙ i.3,
    )

pub returns-after-hops-clause-hopped : goal.returns-after-hops-clause-hopped
returns-after-hops-clause-hopped c =
    let a = c.args in
    let f = a.facts.now in
    let room = a.room.now in
    let l = c.hops in
    hops-end f.table.now (body_in f.pause) f.budget (length room.known.now) (length room.copy.now) a.a.0 (6 - l.counter)
    (store_in l.space l.added) (omega (arith, c.hops-test.false))
    ∙ l.invariant.3

pub returns-then-is_break-clause-hopped : goal.returns-then-is_break-clause-hopped
returns-then-is_break-clause-hopped c =
    let a = c.args in
    let f = a.facts.now in
    let room = a.room.now in
    let l = c.hops in
    let h = c.hop-z.ensures in
    let same = l.invariant.2 in
    hops_stop f.table.now (body_in f.pause) f.budget (length room.known.now) (length room.copy.now) a.a.0 l.counter
    (omega (arith, c.hops-test.true)) (store_in l.space l.added)
    (rw (same.known-length, same.copy-length) at h.hopped) (over c.hop-z.result (sym c.is_break.ensures ∙ c.if-is_break.true))
    ∙ l.invariant.3
