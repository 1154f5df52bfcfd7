use native.Mathlib.Omega.{arith}
use Prim.Native.Nat.{◌*◌}
use mathlib.Core.Path.{◌≡◌}
use mathlib.Core.List.{◌++◌}
use lib.ListN.{length, take, length-take}
use lib.Seq.{length-take-le}
use Rattle.procedure.specs.Procedure.{codes_of}
use Rattle.facts.specs.Storage.{operands_in, kinds_of}
use Rattle.count_facts.proofs.Begun.{all_kinds}
use Rattle.count_facts.proofs.Filled.{put_back}
use Rattle.count_facts.proofs.facts.Goals as goal

pub slice_bounds-fill-end-2 : goal.slice_bounds-fill-end-2
slice_bounds-fill-end-2 c =
    let e = c.min-n.ensures in
    simp length-take (omega arith)

pub fill-requires : goal.fill-requires
fill-requires c =
    let n = c.min-n.result in
    let t = c.args.table.now in
    let e = c.min-n.ensures in
    let long : length (take (5 * n) t) ≡ 5 * n = length-take-le (5 * n) t (omega arith) in
    omega arith

pub returns : goal.returns
returns c =
    let a = c.args in
    let e = c.min-n.ensures in
    let l = all_kinds a.registers.now a.kinds.now in
    put_back a.table.now (kinds_of a.registers.now ++ a.kinds.now) (operands_in a.operands.now) (codes_of a.code.now)
    c.min-n.result (omega arith) c.fill.ensures
