use mathlib.Core.Path.{ap}
use Rattle.steps.specs.Shorten.{Outcome}
use Rattle.bench_c.proofs.halivomue_put.Goals as goal

pub returns-in-Ok : goal.returns-in-Ok
returns-in-Ok c =
    let e = c.in-Ok.ensures in
    record { bytes = ap (λ (o : Outcome). o.answer.length) e; output = ap (λ (o : Outcome). o.output) e }

pub returns-in-Err : goal.returns-in-Err
returns-in-Err c =
    let e = c.in-Err.ensures in
    record { bytes = ap (λ (o : Outcome). o.answer.length) e; output = ap (λ (o : Outcome). o.output) e }
