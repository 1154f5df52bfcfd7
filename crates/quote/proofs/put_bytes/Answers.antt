use Rattle.quote.proofs.Laws.{quoted-none, quoted-next}
use Rattle.quote.proofs.put_bytes.Goals as goal

pub loop-b-init : goal.loop-b-init
loop-b-init c = quoted-none _

pub loop-b-preserved : goal.loop-b-preserved
loop-b-preserved c = quoted-next _ _ c.loop-b.invariant c.put_shown.ensures c.loop-b-test.true
