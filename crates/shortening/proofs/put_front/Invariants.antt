use mathlib.Core.Path.{◌≡◌}
use lib.Seq.{paste}
use Rattle.shortening.proofs.put_front.Given as goal

abbrev pub invariant-loop-k : goal.invariant-loop-k
invariant-loop-k l = l.b ≡ paste l.initial.b 0 l.s l.k
