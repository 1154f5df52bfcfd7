use mathlib.Core.Path.{◌≡◌}
use Rattle.records.specs.Record.{records_of}
use Rattle.reach.specs.Reached.{targets_in}
use Rattle.search.specs.Search.{with_blocks}
use Rattle.reach.proofs.Arms.{all_from}
use Rattle.reach.proofs.push_arms.Given as goal

abbrev pub invariant-loop-k : goal.invariant-loop-k
invariant-loop-k l = all_from l.n l.arms l.s l.k ≡ with_blocks l.initial.s (targets_in l.n (records_of l.arms))
