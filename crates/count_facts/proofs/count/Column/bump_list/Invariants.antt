use Prim.Native.Nat.{◌<◌}
use mathlib.Core.Path.{◌≡◌}
use lib.ListN.{length, take, drop}
use Rattle.facts.specs.Storage.{operands_in}
use Rattle.count_facts.specs.Filling.{counted, over}
use Rattle.count_facts.proofs.count.Column.bump_list.Given as goal

abbrev pub invariant-loop-k : goal.invariant-loop-k
invariant-loop-k l =
    let part = take l.len (drop l.start (operands_in l.operands)) in
    (over (counted l.self.at l.self.most) l.table (drop l.k part) ≡ over (counted l.self.at l.self.most) l.initial.table part)
    × ((l.start < 4294967296) × ((l.len < 4294967296) × (length l.table ≡ length l.initial.table)))
