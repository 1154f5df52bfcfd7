use native.Mathlib.Omega.{arith}
use native.Mathlib.Numerals.{add-one}
use mathlib.Core.Path.{◌∙◌}
use lib.ListN.{drop_of_length-le}
use lib.Seq.{drop-cons}
use Rattle.records.specs.Record.{blank, records_of}
use Rattle.records.proofs.Laws.{length_records}
use Rattle.emit_records.proofs.Writing.{begun, next, done}
use Rattle.emit_records.proofs.Writer.put_each.Goals as goal

pub loop-k-init : goal.loop-k-init
loop-k-init c = begun _ _

pub loop-k-preserved : goal.loop-k-preserved
loop-k-preserved c =
    let n = length_records c.args.code.now in
    next c.loop-k.invariant (drop-cons (records_of c.args.code.now) c.loop-k.k blank (omega arith) ∙ rw (add-one c.loop-k.k))
    (rw c.record_at.ensures at c.put.ensures)

pub returns : goal.returns
returns c =
    let n = length_records c.args.code.now in
    done c.loop-k.invariant (drop_of_length-le (records_of c.args.code.now) (omega arith))
