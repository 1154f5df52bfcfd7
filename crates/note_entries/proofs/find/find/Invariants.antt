use Rattle.std.proofs.Common.{◌≡◌, take, drop}
use Rattle.note_entries.specs.Storage.{pairs, first_with}
use Rattle.note_entries.proofs.find.find.Given as goal

abbrev pub invariant-loop-k : goal.invariant-loop-k
invariant-loop-k g l = first_with g.W.PartialEq.eq l.r (drop l.k (take l.m (pairs l.words))) ≡ first_with g.W.PartialEq.eq l.r (take l.n (pairs l.words))
