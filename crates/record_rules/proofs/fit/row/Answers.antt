use Rattle.record_rules.proofs.Held.{row_within}
use Rattle.record_rules.proofs.fit.row.Goals as goal

pub returns-clause-within : goal.returns-clause-within
returns-clause-within c = rw (c.min.ensures, c.from.ensures, c.from-last.ensures) (row_within c.args.kind c.args.op c.requires)
