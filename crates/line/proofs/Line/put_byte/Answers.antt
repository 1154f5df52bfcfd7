use Rattle.std.proofs.Common.{rules, refl}
use Rattle.line.proofs.Laws.{put_one, put-past}
use Rattle.line.proofs.Line.put_byte.Goals as goal

pub returns-then-self : goal.returns-then-self
returns-then-self c = put_one refl refl refl (search rules)

pub returns-else-self : goal.returns-else-self
returns-else-self c = put-past (search rules)
