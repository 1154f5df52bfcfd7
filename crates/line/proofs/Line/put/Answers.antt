use Rattle.line.proofs.Laws.{put-none, put_next}
use Rattle.line.proofs.Line.put.Goals as goal

pub loop-b-init : goal.loop-b-init
loop-b-init c = put-none _

pub loop-b-preserved : goal.loop-b-preserved
loop-b-preserved c = put_next _ _ c.loop-b.invariant c.put_byte.ensures c.loop-b-test.true
