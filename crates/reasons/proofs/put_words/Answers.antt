use Rattle.std.proofs.Common.{refl}
use Rattle.line.proofs.Laws.{added, both, last}
use Rattle.reasons.proofs.put_words.Goals as goal

pub returns : goal.returns
returns c = last (both (added c.put.ensures refl) c.put_reason.ensures) c.close.ensures
