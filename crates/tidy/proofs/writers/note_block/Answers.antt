use mathlib.Core.Path.{refl, ap, ◌∙◌}
use native.Mathlib.Omega.{arith}
use lib.ListN.{length}
use Rattle.records.specs.Record.{records_of}
use Rattle.records.proofs.Laws.{length_records}
use Rattle.read.specs.Work.{part}
use Rattle.read.proofs.Laws.{part_length}
use Rattle.tidy.proofs.Tables.{noted-next, noted-none, length-noted}
use Rattle.tidy.proofs.writers.note_block.Goals as goal

pub loop-k-init : goal.loop-k-init
loop-k-init c = (refl, refl)

pub overflow_add-p : goal.overflow_add-p
overflow_add-p c = omega (arith, length_records c.args.b.now)

pub loop-k-preserved : goal.loop-k-preserved
loop-k-preserved c =
    let l = c.loop-k in
    let a = c.args in
    let rs = records_of a.b.now in
    let e = c.note_inst.ensures in
    let n = ap length e ∙ length-noted _ l.ws ∙ l.invariant.0 in
    (n, noted-next l.ws rs a.p.first a.p.count (omega arith) a.p.block.0 l.k (omega arith) e ∙ l.invariant.1)

pub returns : goal.returns
returns c =
    let l = c.loop-k in
    let a = c.args in
    let rs = records_of a.b.now in
    noted-none l.ws (part a.p.first a.p.count rs) a.p.block.0 l.k (rw (part_length rs a.p.first a.p.count (omega arith)) c.loop-k-test.false)
    ∙ l.invariant.1
