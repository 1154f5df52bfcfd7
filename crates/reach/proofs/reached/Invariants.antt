use Rattle.search.proofs.Laws.{Held, weight}
use Rattle.reach.proofs.Edges.{first}
use Rattle.reach.proofs.reached.Given as goal

abbrev pub invariant-loop-b : goal.invariant-loop-b
invariant-loop-b l = Held (first l.blocks.code.now l.blocks.table.now l.arms) 0 l.s

abbrev pub decreases-loop-b : goal.decreases-loop-b
decreases-loop-b l = weight l.s.found
