use Rattle.std.proofs.Common.{refl}
use Rattle.line.proofs.Laws.{ended}
use Rattle.reasons.proofs.close.Goals as goal

pub returns : goal.returns
returns c = ended c.put.ensures refl
