use native.Mathlib.Omega.{arith}
use mathlib.Core.Path.{sym, ◌∙◌}
use Rattle.records.specs.Record.{records_of}
use Rattle.records.proofs.Laws.{length_records}
use Rattle.emit_records.proofs.Laws.{rescued-one, rescued_pass, rescued-end}
use Rattle.emit_records.proofs.Writing.{wrote_none, begun, next, done}
use Rattle.emit_records.proofs.Writer.put_rescued.Goals.{then-is_rescued, else-is_rescued}
use Rattle.emit_records.proofs.Writer.put_rescued.Goals as goal

pub loop-k-init : goal.loop-k-init
loop-k-init c = begun _ _

pub returns : goal.returns
returns c =
    let n = length_records c.args.code.now in
    done c.loop-k.invariant (rescued-end c.args.facts.now (records_of c.args.code.now) c.loop-k.k (omega arith))

pub loop-k-preserved : goal.loop-k-preserved
loop-k-preserved c =
    let f = c.args.facts.now in
    let rs = records_of c.args.code.now in
    let n = length_records c.args.code.now in
    let r = c.record_at.ensures in
    elim c.if-is_rescued.branch [
      | then-is_rescued w ↦ (rw w.self-is (next c.loop-k.invariant
          (rescued-one f rs c.loop-k.k (omega arith) (rw (← r) (sym c.is_rescued.ensures ∙ w.if-is_rescued.true))) (rw w.record_at-then-is_rescued.ensures at w.put.ensures)))
      | else-is_rescued w ↦ (rw w.self-is (next c.loop-k.invariant
          (rescued_pass f rs c.loop-k.k (omega arith) (rw (← r) (sym c.is_rescued.ensures ∙ w.if-is_rescued.false))) (wrote_none _)))
    ]
