use mathlib.Core.Path.{sym, ◌∙◌}
use Rattle.put_record.proofs.Laws.{put-sets, put-past}
use Rattle.put_record.proofs.put_record.Goals as goal

pub returns-then-k-b : goal.returns-then-k-b
returns-then-k-b c = c.put_in.ensures ∙ put-sets _ _ _ c.if-k-b.true

pub returns-else-k-b : goal.returns-else-k-b
returns-else-k-b c = sym (put-past _ _ _ c.if-k-b.false)
