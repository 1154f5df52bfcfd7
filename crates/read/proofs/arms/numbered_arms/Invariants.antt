use Prim.Native.Nat.{◌+◌, ◌-◌, ◌≤◌}
use mathlib.Core.Path.{◌≡◌}
use lib.ListN.{take, drop}
use Rattle.layout.specs.Walk.{walk}
use Rattle.read.specs.Structure.{numbers, numbered, next_arm, tables}
use Rattle.read.specs.Spans.{spanned}
use Rattle.read.proofs.arms.numbered_arms.Given as goal

abbrev pub invariant-loop-k : goal.invariant-loop-k
invariant-loop-k l =
    let rs = spanned l.arms in
    (l.due ≤ l.k)
    × (l.due ≡ tables (take l.k rs))
    × (l.k + walk numbers next_arm (l.due, l.arms.count - l.k) (drop l.k rs) ≡ numbered rs)
