use mathlib.Core.Path.{sym}
use Rattle.blocks.proofs.Parts.{length-blocks}
use Rattle.blocks.proofs.Blocks.len.Goals as goal

pub returns : goal.returns
returns c = sym (length-blocks c.args.self.code.now c.args.self.table.now)
