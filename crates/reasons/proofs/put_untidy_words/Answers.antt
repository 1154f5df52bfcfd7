use Rattle.std.proofs.Common.{refl}
use Rattle.line.proofs.Laws.{added, added-numbered, both, last}
use Rattle.reasons.proofs.put_untidy_words.Goals as goal

pub returns : goal.returns
returns c = last (both (added-numbered c.put_numbered.ensures refl) (added c.put.ensures c.offence.ensures)) c.close.ensures
