use Rattle.std.proofs.Common.{◌≡◌, min, arith}
use Rattle.arena.specs.Arena.{arena_in}
use Rattle.copy.specs.Storage.{codes_in}
use Rattle.hop_br.specs.Storage.{next_in}
use Rattle.hop_br.proofs.Joins.{replaced_by, joins, given_is}
use Rattle.hop_br.proofs.join.Goals as goal

pub returns-clause-joined : goal.returns-clause-joined
returns-clause-joined c body budget =
    let a = c.args in
    let s = arena_in a.space.now in
    let z = c.copy_of-z.result in
    let fresh = a.added.now.fresh in
    let pushed = rw c.code.ensures.value at c.append.ensures.appended in
    let grown = replaced_by a.a.0 (codes_in z) s c.to_end.new.self c.pop.new.self c.to_end.ensures.moved c.pop.ensures.code c.pop.ensures.popped pushed in
    let number : min c.next-m.result.0 65535 ≡ next_in a.facts.now fresh = omega (arith, c.next-m.ensures) in
    let put = rw c.given.ensures.value at c.give.ensures.kinds in
    let count = rw c.given.ensures.value at c.give.ensures.fresh in
    joins a.facts.now body budget a.l.0 fresh s z number (rw (c.blocks-blocks.ensures.code, c.blocks-blocks.ensures.table) at c.block.ensures) c.copy_of-z.ensures a.a.0 a.added.now.kinds.now grown put count

pub returns-clause-given : goal.returns-clause-given
returns-clause-given c body budget =
    let a = c.args in
    let fresh = a.added.now.fresh in
    let number : min c.next-m.result.0 65535 ≡ next_in a.facts.now fresh = omega (arith, c.next-m.ensures) in
    given_is a.facts.now body budget a.l.0 fresh (arena_in a.space.now) c.copy_of-z.result number
    (rw (c.blocks-blocks.ensures.code, c.blocks-blocks.ensures.table) at c.block.ensures) c.copy_of-z.ensures
