use Rattle.std.proofs.Common.{ap, ◌∙◌, ◌%◌, arith}
use Rattle.codec.specs.Codec.{reg_of}
use Rattle.codec.proofs.Table.{inst_by_kind}
use Rattle.facts.specs.Storage.{operands_in}
use Rattle.steps.specs.Slice.{measures, spans, measure_of, note}
use Rattle.kc.specs.Storage.{kc_in}
use Rattle.slice.proofs.noted.note.Goals as goal

pub returns-in-DopeLen-clause-known : goal.returns-in-DopeLen-clause-known
unfolding measure_of
returns-in-DopeLen-clause-known c = λ h.
    let a = c.args in
    let kc = kc_in a.kc.now in
    let ops = operands_in a.operands.now in
    let f = c.forget-in-DopeLen.ensures in
    let m = measures (reg_of a.r.p1) (reg_of a.r.p2) (a.r.p3 % 256) in
    c.note_measured.ensures.known (omega (arith, f.keeps.count, f.keeps.long)) kc ops
    ∙ ap (note kc ops m) f.known
    ∙ rw (inst_by_kind a.r, ← c.from.ensures, c.in-DopeLen.is)

pub returns-in-BoundsLen-clause-known : goal.returns-in-BoundsLen-clause-known
unfolding measure_of
returns-in-BoundsLen-clause-known c = λ h.
    let a = c.args in
    let kc = kc_in a.kc.now in
    let ops = operands_in a.operands.now in
    let f = c.forget-in-BoundsLen.ensures in
    c.note_known.ensures.known (omega (arith, f.keeps.count, f.keeps.long)) ops
    ∙ ap (note kc ops (spans (reg_of a.r.p1) (reg_of a.r.p2) (reg_of a.r.p3) (reg_of a.r.p4))) f.known
    ∙ rw (inst_by_kind a.r, ← c.from.ensures, c.in-BoundsLen.is)
