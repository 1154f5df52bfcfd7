use Prim.Native.Nat.{◌-◌}
use mathlib.Core.Path.{◌≡◌}
use lib.ListN.{length}
use Rattle.pause.specs.Storage.{body_in}
use Rattle.arena.specs.Arena.{SameSlices}
use Rattle.hop_br.specs.Kept.{SameKinds}
use Rattle.hop_cond_br.specs.Kept.{SameRoom}
use Rattle.thread.specs.Storage.{nameable, thread_from_in, thread_in}
use Rattle.thread.specs.Threading.{store_in}
use Rattle.thread.proofs.thread.Given as goal

abbrev pub invariant-loop-a : goal.invariant-loop-a
invariant-loop-a l =
    let f = l.facts in
    let i = l.initial in
    let known = length i.room.known.now in
    let copy = length i.room.copy.now in
    (l.n ≡ nameable i.space.table.now)
    × SameSlices i.space l.space
    × SameKinds i.added l.added
    × SameRoom i.room l.room
    × (thread_from_in f.table.now (body_in f.pause) f.budget known copy (l.n - l.a) l.a (store_in l.space l.added)
    ≡ thread_in f.table.now (body_in f.pause) f.budget known copy i.space.work.now i.space.table.now i.added.kinds.now i.space.top)
