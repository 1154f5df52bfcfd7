use mathlib.Core.Path.{◌≡◌}
use lib.ListN.{length, drop}
use Rattle.procedure.specs.Procedure.{codes_of}
use Rattle.facts.specs.Storage.{operands_in}
use Rattle.count_facts.specs.Filling.{over, fact_code}
use Rattle.count_facts.proofs.count.count.Given as goal

abbrev pub invariant-loop-k : goal.invariant-loop-k
invariant-loop-k l =
    let step = fact_code (operands_in l.operands) in
    (over step l.table (drop l.k (codes_of l.code)) ≡ over step l.initial.table (codes_of l.code)) × (length l.table ≡ length l.initial.table)
