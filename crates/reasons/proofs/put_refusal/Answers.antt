use Rattle.std.proofs.Common.{refl}
use Rattle.line.proofs.Laws.{ended, last}
use Rattle.reasons.proofs.put_refusal.Goals as goal

pub returns-then-words : goal.returns-then-words
returns-then-words c = last c.put_numbers.ensures c.put_words.ensures

pub returns-else-words : goal.returns-else-words
returns-else-words c = last c.put_numbers.ensures (ended c.put_byte.ensures refl)
