use Rattle.records.specs.Record.{records_of}
use Rattle.read.proofs.Laws.{code-part}
use Rattle.read.proofs.blocks.code_of.Goals as goal

pub returns : goal.returns
returns c = let s = c.args.code in code-part (records_of s.b.now) s.first s.count c.args.block c.requires.0 c.requires.1
