use Rattle.std.proofs.Common.{Bool, ◌≡◌, ◌+◌, drop}
use Rattle.records.specs.declared.Record.{Record}
use Rattle.records.specs.Record.{records_of}
use Rattle.layout.specs.Walk.{lead}
use Rattle.layout.proofs.run_end.Given as goal

abbrev pub invariant-loop-k : goal.invariant-loop-k
invariant-loop-k g l =
    (p : Record → Bool) → ((r : Record) (t : Bool) → goal.F-post g l.passes r t → t ≡ p r)
    → l.k + lead p (drop l.k (records_of l.b)) ≡ l.first + lead p (drop l.first (records_of l.b))
