use Rattle.std.proofs.Common.{sym, ◌∙◌}
use Rattle.arena.specs.Arena.{arena_in}
use Rattle.arena.proofs.Laws.{by_grows}
use Rattle.arena.proofs.Space.push.Goals as goal

pub returns-then-grows-clause-pushed : goal.returns-then-grows-clause-pushed
returns-then-grows-clause-pushed c =
    let a = c.args in
    let p = c.point.ensures in
    rw (p.pointed, p.rest.0, p.rest.1, c.put_record.ensures, c.record_of.ensures)
    (by_grows a.k.0 a.c (arena_in a.self.now) c.block-r.ensures (sym c.if-grows.true ∙ c.grows.ensures))

pub returns-else-grows-clause-pushed : goal.returns-else-grows-clause-pushed
returns-else-grows-clause-pushed c =
    let a = c.args in
    by_grows a.k.0 a.c (arena_in a.self.now) c.block-r.ensures (sym c.if-grows.false ∙ c.grows.ensures)
