use Rattle.std.proofs.Common.{rules}
use Prim.Native.Nat.{ℕ, ◌*◌}
use native.Mathlib.Omega.{arith}
use mathlib.Core.Path.{refl, ap}
use lib.ListN.{length}
use Rattle.output.specs.Filed.{counts, wrote, short, records_in}
use Rattle.output.proofs.Laws.{filed_refused, filed-written}
use Rattle.output.proofs.put_form.Goals as goal

pub returns-then-out-n : goal.returns-then-out-n
returns-then-out-n c =
    let a = c.args in
    let n = c.measure-n.ensures in
    let t = c.if-out-n.true in
    filed_refused (records_in a.form.now) (counts a.did.moved a.did.grown (short (length a.form.now.kinds.now)) a.did.rescued) a.out.now (omega arith) refl

pub returns : goal.returns
returns c =
    let a = c.args in
    filed-written (records_in a.form.now) (counts a.did.moved a.did.grown (short (length a.form.now.kinds.now)) a.did.rescued) a.out.now c.measure-n.ensures c.if-out-n.false
    (ap (λ (x : ℕ). wrote (32 * c.measure-n.result) (counts a.did.moved a.did.grown x a.did.rescued)) c.short.ensures)
    refl refl c.write.ensures (search rules)
