use Rattle.std.proofs.Common.{◌≡◌, ◌+◌, ◌*◌, ◌≤◌, drop}
use Rattle.steps.specs.Copy.{own_uses}
use Rattle.copy.proofs.Target.own_uses.Given as goal

abbrev pub invariant-loop-c : goal.invariant-loop-c
invariant-loop-c l = (l.z ≤ 5 * l.c-index) × (l.z + own_uses (drop l.c-index l.self.code.now) l.r.0 ≡ own_uses l.self.code.now l.r.0)
