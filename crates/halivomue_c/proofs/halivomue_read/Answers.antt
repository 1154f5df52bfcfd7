use mathlib.Core.Path.{ap, ◌∙◌}
use Rattle.read.specs.Reading.{Reading}
use Rattle.halivomue_c.proofs.halivomue_read.Goals as goal

pub returns-in-Ok : goal.returns-in-Ok
returns-in-Ok c =
    let e = c.in-Ok.ensures in
    record { number = ap (λ (r : Reading). r.number) e; place = ap (λ (r : Reading). r.place) e }

pub returns-in-Err : goal.returns-in-Err
returns-in-Err c =
    let e = c.in-Err.ensures in
    record { number = c.from.ensures ∙ ap (λ (r : Reading). r.number) e; place = ap (λ (r : Reading). r.place) e }
