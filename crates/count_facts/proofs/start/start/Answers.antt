use borrow.Author.Rules.{rules}
use native.Mathlib.Omega.{arith}
use Prim.Native.Nat.{◌/◌}
use mathlib.Core.Path.{refl}
use mathlib.Core.List.{◌++◌}
use lib.ListN.{length}
use Rattle.facts.specs.Storage.{kinds_of}
use Rattle.count_facts.proofs.Begun.{start_none, start-next, start-all}
use Rattle.count_facts.proofs.start.start.Goals as goal

pub loop-k-init : goal.loop-k-init
loop-k-init c =
    (omega arith, (start_none (kinds_of c.args.registers.now ++ c.args.kinds.now) c.args.table.now, refl))

pub loop-k-preserved : goal.loop-k-preserved
loop-k-preserved c =
    let kinds = kinds_of c.args.registers.now ++ c.args.kinds.now in
    let next = start-next kinds c.loop-k.k c.loop-k.table _ (omega arith) c.loop-k.invariant.1.0 c.kind_of.ensures c.put_row.ensures in
    (omega arith, (next, search rules))

pub returns : goal.returns
returns c =
    let n = length c.args.table.now / 5 in
    start-all (kinds_of c.args.registers.now ++ c.args.kinds.now) c.loop-k.k n c.loop-k.table (omega arith) (omega arith) (omega arith)
    c.loop-k.invariant.1.0
