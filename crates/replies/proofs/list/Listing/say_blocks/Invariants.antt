use Rattle.replies.specs.Kept.{SameLine}
use Rattle.replies.proofs.list.Listing.say_blocks.Given as goal

abbrev pub invariant-loop-i : goal.invariant-loop-i
invariant-loop-i g l = SameLine l.initial.self.line l.self.line
