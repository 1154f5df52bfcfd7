use Rattle.std.proofs.Common.{◌+◌, ◌<◌, ◌^◌, sym, ap, ◌∙◌, arith}
use Rattle.arena.specs.Arena.{arena_in}
use Rattle.hop_br.specs.Storage.{Left}
use Rattle.pause.specs.Storage.{body_in}
use Rattle.thread.specs.Threading.{at_in}
use Rattle.thread.proofs.Laws.{join_few, br_stays, br_joins}
use Rattle.thread.proofs.hop_br.Goals as goal

pub returns-then-stops-clause-hopped : goal.returns-then-stops-clause-hopped
returns-then-stops-clause-hopped c known copy =
    let a = c.args in
    let s = a.space.now in
    let x = a.added.now in
    let f = a.facts.now in
    br_stays f.table.now (body_in f.pause) f.budget known copy
    s.work.now s.table.now x.kinds.now (at_in s x) a.a.0 a.l.0
    (sym (rw c.blocks-blocks.ensures.blocks at c.stops.ensures.stops) ∙ c.if-stops.true)

pub overflow_add-added : goal.overflow_add-added
overflow_add-added c =
    let a = c.args in
    let x = a.added.now in
    let f = a.facts.now in
    let body = body_in f.pause in
    let few = join_few f.table.now body f.budget a.a.0 a.l.0 x.fresh (arena_in a.space.now) x.kinds.now
    (ap (λ (z : Left). z.n) (c.join-z.ensures.joined body f.budget)) in
    let low = c.stops.ensures.few c.if-stops.false in
    let same = c.join-z.ensures.rest.0 in
    let fits : c.join-z.new.added.grown + c.join-z.result.n < 2 ^ 64 = omega (arith, few, low, same) in
    record { fits = fits }

pub returns-clause-hopped : goal.returns-clause-hopped
returns-clause-hopped c known copy =
    let a = c.args in
    let s = a.space.now in
    let x = a.added.now in
    let f = a.facts.now in
    rw c.join-z.ensures.rest.0
    (br_joins f.table.now (body_in f.pause) f.budget known copy
    s.work.now s.table.now x.kinds.now (at_in s x) a.a.0 a.l.0
    (sym (rw c.blocks-blocks.ensures.blocks at c.stops.ensures.stops) ∙ c.if-stops.false) (c.join-z.ensures.joined (body_in f.pause) f.budget))
