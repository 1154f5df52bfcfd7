use Rattle.std.proofs.Common.{◌≡◌, length}
use Rattle.std.specs.Slice.Iter.{iter_rest}
use Rattle.hop_br.specs.Storage.{kinds_put}
use Rattle.hop_br.proofs.Joins.{kinds_for, kind_in}
use Rattle.hop_br.proofs.put_kinds.Given as goal

abbrev pub invariant-loop-p : goal.invariant-loop-p
invariant-loop-p l =
    let g = kind_in l.facts in
    (length l.kinds ≡ l.p-iterator.b.end)
    × (kinds_put l.kinds l.p-iterator.b.start (kinds_for g (iter_rest l.p-iterator.a))
    ≡ kinds_put l.initial.kinds l.from (kinds_for g l.given))
