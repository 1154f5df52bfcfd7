use Rattle.std.proofs.Common.{refl}
use Rattle.line.proofs.Laws.{added-numbered, ended, last}
use Rattle.reasons.proofs.put_untidy.Goals as goal

pub returns-then-words : goal.returns-then-words
returns-then-words c = last (added-numbered c.put_numbered.ensures refl) c.put_untidy_words.ensures

pub returns-else-words : goal.returns-else-words
returns-else-words c = last (added-numbered c.put_numbered.ensures refl) (ended c.put_byte.ensures refl)
