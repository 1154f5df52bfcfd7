use Rattle.std.proofs.Common.{◌≡◌, drop}
use Rattle.arena.specs.Arena.{arena_in, push_all, SameSlices}
use Rattle.arena.proofs.Space.append.Given as goal

abbrev pub invariant-loop-c : goal.invariant-loop-c
invariant-loop-c l =
    SameSlices l.initial.self l.self
    × (push_all l.k.0 (drop l.c-index l.code) (arena_in l.self) ≡ push_all l.k.0 l.code (arena_in l.initial.self))
