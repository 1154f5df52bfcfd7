use Rattle.std.proofs.Common.{◌≡◌, drop}
use Rattle.roles.specs.Exchange.{through}
use Rattle.visit_mut.specs.Pairs.{pairs_in}
use Rattle.visit_mut.proofs.read_as.Given as goal

abbrev pub invariant-loop-p : goal.invariant-loop-p
invariant-loop-p l = through (pairs_in (drop l.p-index l.pairs)) l.r.0 ≡ through (pairs_in l.pairs) l.r.0
