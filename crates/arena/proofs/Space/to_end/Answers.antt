use Rattle.std.proofs.Common.{◌≡◌, ◌+◌, ◌-◌, ◌*◌, sym, ◌∙◌, arith}
use Rattle.arena.specs.Arena.{arena_in, size_of}
use Rattle.arena.proofs.Laws.{by_moves}
use Rattle.arena.proofs.Space.to_end.Goals as goal

pub returns-then-moves-clause-moved : goal.returns-then-moves-clause-moved
returns-then-moves-clause-moved c =
    let a = c.args in
    let r = c.block-r.result in
    let p = c.point.ensures in
    let bytes : 32 * r.p1 + 32 * size_of r - 32 * r.p1 ≡ 32 * size_of r = omega arith in
    rw (p.pointed, p.rest.0, p.rest.1, c.copy_within.ensures.after, c.size_of-n.ensures, bytes)
    (by_moves a.k.0 (arena_in a.self.now) c.block-r.ensures (sym c.if-moves.true ∙ c.moves.ensures))

pub returns-else-moves-clause-moved : goal.returns-else-moves-clause-moved
returns-else-moves-clause-moved c =
    let a = c.args in
    by_moves a.k.0 (arena_in a.self.now) c.block-r.ensures (sym c.if-moves.false ∙ c.moves.ensures)
