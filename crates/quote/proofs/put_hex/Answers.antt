use Rattle.std.proofs.Common.{rules}
use Rattle.line.proofs.Laws.{then}
use Rattle.quote.proofs.Laws.{by_digits}
use Rattle.quote.proofs.put_hex.Goals as goal

pub returns : goal.returns
returns c = by_digits (search rules) (then c.put.ensures c.put_digits.ensures)
