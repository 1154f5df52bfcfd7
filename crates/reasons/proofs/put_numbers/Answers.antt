use Rattle.std.proofs.Common.{refl}
use Rattle.line.proofs.Laws.{added-numbered, both}
use Rattle.reasons.proofs.put_numbers.Goals as goal

pub returns : goal.returns
returns c = both (added-numbered c.put_numbered.ensures refl) (added-numbered c.put_numbered-2.ensures refl)
