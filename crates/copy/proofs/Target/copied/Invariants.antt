use Rattle.std.proofs.Common.{◌≤◌}
use Rattle.copy.proofs.Copying.{Left}
use Rattle.copy.proofs.Target.copied.Given as goal

abbrev pub invariant-loop-x : goal.invariant-loop-x
invariant-loop-x l = (l.s.n ≤ l.x-index) × Left l.self.facts.now l.self.code.now l.m.0 l.x-index l.s
