use Prim.Native.Nat.{◌-◌}
use mathlib.Core.Path.{◌≡◌}
use lib.ListN.{length}
use Rattle.pause.specs.Storage.{body_in}
use Rattle.arena.specs.Arena.{SameSlices}
use Rattle.hop_br.specs.Kept.{SameKinds}
use Rattle.hop_cond_br.specs.Kept.{SameRoom}
use Rattle.thread.specs.Storage.{hops_in}
use Rattle.thread.specs.Threading.{store_in}
use Rattle.thread.proofs.hops.Given as goal

abbrev pub invariant-hops : goal.invariant-hops
invariant-hops l =
    let f = l.facts in
    let i = l.initial in
    let known = length i.room.known.now in
    let copy = length i.room.copy.now in
    SameSlices i.space l.space
    × SameKinds i.added l.added
    × SameRoom i.room l.room
    × (hops_in f.table.now (body_in f.pause) f.budget known copy (6 - l.counter) l.a.0 (store_in l.space l.added)
    ≡ hops_in f.table.now (body_in f.pause) f.budget known copy 6 l.a.0 (store_in i.space i.added))
