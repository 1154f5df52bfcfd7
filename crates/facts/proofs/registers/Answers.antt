use mathlib.Core.Path.{sym}
use Rattle.facts.proofs.Rows.{kinds-length}
use Rattle.facts.proofs.registers.Goals as goal

pub returns : goal.returns
returns c = sym (kinds-length c.args.table.now)
