use Rattle.std.proofs.Common.{refl, sym, subst}
use Rattle.std.proofs.lemmas.Result.{err_from_is_err_and}
use Rattle.records.specs.Record.{records_of}
use Rattle.read.specs.Work.{LaidOut}
use Rattle.read.proofs.Reasons.{no_zero}
use Rattle.parts.proofs.Laws.{starts_laid}
use Rattle.tidy.proofs.Accepted.{in_order_lem, accepted, refused_is, number_is, accepted_is, verdict-is}
use Rattle.tidy.proofs.tidy.Goals as goal

pub returns-in_err-read : goal.returns-in_err-read
returns-in_err-read c =
    let p = err_from_is_err_and c.from_residual.result c.from_residual.ensures.1 in
    rw (p.1, p.2) (refused_is c.args.b.now c.in_err-read.ensures (no_zero c.in_err-read.field-0.0.reason))

pub invariant_of-judge : goal.invariant_of-judge
invariant_of-judge c =
    let b = c.args.b.now in
    let e = number_is b c.in_ok-read.ensures refl in
    let l = subst (LaidOut (records_of b)) (sym c.starts-l.ensures) (starts_laid (records_of b) (in_order_lem b e)) in
    record { laid = l; fit = accepted b e l }

pub returns : goal.returns
returns c = accepted_is c.args.b.now c.in_ok-read.ensures refl (verdict-is _ c.judge.ensures)
