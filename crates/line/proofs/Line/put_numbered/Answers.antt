use Rattle.line.proofs.Laws.{then}
use Rattle.line.proofs.Line.put_numbered.Goals as goal

pub returns : goal.returns
returns c = record { put = then c.put.ensures c.put_number.ensures }
