use Rattle.std.proofs.Common.{rules, []}
use Rattle.quote.proofs.Laws.{quoted-none, quoted_more}
use Rattle.quote.proofs.put_text.Goals as goal

pub loop-c-init : goal.loop-c-init
loop-c-init c = ([], search rules, quoted-none _)

pub loop-c-preserved : goal.loop-c-preserved
loop-c-preserved c =
    quoted_more _ _ _ _ _ c.loop-c.invariant.1 (search rules) c.loop-c.invariant.2 c.put_char.ensures
