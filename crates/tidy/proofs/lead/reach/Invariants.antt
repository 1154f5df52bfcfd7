use Rattle.search.proofs.Laws.{Held, weight}
use Rattle.tidy.specs.Work.Marks.{edges_in}
use Rattle.tidy.proofs.lead.reach.Given as goal

abbrev pub invariant-loop-b : goal.invariant-loop-b
invariant-loop-b l = Held (edges_in l.targets) l.fn.from.0 l.s

abbrev pub decreases-loop-b : goal.decreases-loop-b
decreases-loop-b l = weight l.s.found
