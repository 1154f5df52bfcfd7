use Rattle.std.proofs.Common.{rules}
use Rattle.quote.proofs.Laws.{by_two, by_itself}
use Rattle.quote.proofs.put_shown.Goals as goal

pub returns-then-b-eq92 : goal.returns-then-b-eq92
returns-then-b-eq92 c = by_two (search rules) c.put.ensures

pub returns-else-b-eq92 : goal.returns-else-b-eq92
returns-else-b-eq92 c = by_itself (search rules) (search rules) (search rules) c.put_byte.ensures
