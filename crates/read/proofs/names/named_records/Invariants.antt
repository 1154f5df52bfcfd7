use Prim.Native.Nat.{◌+◌}
use mathlib.Core.Path.{◌≡◌}
use lib.ListN.{drop}
use Rattle.records.specs.Record.{records_of}
use Rattle.record_rules.specs.Exist.{names_exist}
use Rattle.layout.specs.Walk.{lead}
use Rattle.read.proofs.names.named_records.Given as goal

abbrev pub invariant-loop-k : goal.invariant-loop-k
invariant-loop-k l =
    let rs = records_of l.f.b.now in
    l.k + lead (names_exist l.fn.n) (drop l.k rs) ≡ l.f.l.bodies + lead (names_exist l.fn.n) (drop l.f.l.bodies rs)
