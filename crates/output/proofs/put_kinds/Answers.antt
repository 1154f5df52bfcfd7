use native.Mathlib.Omega.{arith}
use mathlib.Core.Path.{ap, ◌∙◌}
use Rattle.items.specs.Items.{register_record}
use Rattle.emit_records.proofs.Writing.{begun, next, done}
use Rattle.output.proofs.Laws.{kinds-one, kinds-end}
use Rattle.output.proofs.put_kinds.Goals as goal

pub loop-kind-init : goal.loop-kind-init
loop-kind-init c = begun _ _

pub loop-kind-preserved : goal.loop-kind-preserved
loop-kind-preserved c =
    let r = c.record_of_register.ensures ∙ ap register_record c.of.ensures in
    next c.loop-kind.invariant (kinds-one c.args.kinds.now c.loop-kind.kind-index (omega arith)) (rw r at c.put.ensures)

pub returns : goal.returns
returns c = done c.loop-kind.invariant (kinds-end c.args.kinds.now c.loop-kind.kind-index (omega arith))
