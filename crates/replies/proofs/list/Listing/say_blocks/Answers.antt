use Rattle.std.proofs.Common.{refl}
use Rattle.replies.proofs.Laws.{next}
use Rattle.replies.proofs.list.Listing.say_blocks.Goals as goal

pub returns-in_err-turn : goal.returns-in_err-turn
returns-in_err-turn g c = next c.loop-i.invariant refl c.put_block.ensures c.turn.ensures

pub loop-i-preserved : goal.loop-i-preserved
loop-i-preserved g c = next c.loop-i.invariant refl c.put_block.ensures c.turn.ensures
