use Rattle.replies.specs.Kept.{SameLine}
use Rattle.replies.proofs.list.Listing.say_code.Given as goal

abbrev pub invariant-loop-k : goal.invariant-loop-k
invariant-loop-k g l = SameLine l.initial.self.line l.self.line
