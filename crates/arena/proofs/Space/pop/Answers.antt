use Rattle.std.proofs.Common.{sym, ◌∙◌}
use Rattle.arena.specs.Arena.{topped_in}
use Rattle.arena.proofs.Laws.{by_popped}
use Rattle.arena.proofs.Space.pop.Goals as goal

pub returns-then-can_pop-clause-popped : goal.returns-then-can_pop-clause-popped
returns-then-can_pop-clause-popped c =
    let a = c.args in
    let p = c.point.ensures in
    rw (p.pointed, p.rest.1) (by_popped a.k.0 (topped_in a.self.now) c.block-r.ensures (sym c.if-can_pop.true ∙ c.can_pop.ensures))

pub returns-else-can_pop-clause-popped : goal.returns-else-can_pop-clause-popped
returns-else-can_pop-clause-popped c =
    let a = c.args in
    by_popped a.k.0 (topped_in a.self.now) c.block-r.ensures (sym c.if-can_pop.false ∙ c.can_pop.ensures)
