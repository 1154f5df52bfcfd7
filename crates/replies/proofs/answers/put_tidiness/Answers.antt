use Rattle.std.proofs.Common.{refl}
use Rattle.line.proofs.Laws.{ended}
use Rattle.replies.proofs.answers.put_tidiness.Goals as goal

pub returns-in-Ok-None : goal.returns-in-Ok-None
returns-in-Ok-None c = ended c.put.ensures refl
