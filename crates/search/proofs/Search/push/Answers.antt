use Rattle.std.proofs.Common.{lit<}
use Rattle.search.proofs.Laws.{has_room, sized_new}
use Rattle.search.proofs.Search.push.Goals as goal

pub push-requires : goal.push-requires
push-requires c = (lit< tt, has_room c.self.invariant c.if-at-self.true c.if-not-self-at.true)

pub invariant_of-self : goal.invariant_of-self
invariant_of-self c = rw c.push.ensures.items (sized_new c.self.invariant c.if-at-self.true c.if-not-self-at.true)
