use native.Mathlib.Omega.{arith}
use mathlib.Core.Path.{ap, ◌∙◌}
use Rattle.steps.specs.Shorten.{Answer}
use Rattle.output.specs.Filed.{outcome}
use Rattle.bench_c.proofs.Forms.{form-sent, form-threaded, form-sliced, form-none}
use Rattle.bench_c.proofs.halivomue_form.Goals as goal

pub returns-in-0 : goal.returns-in-0
returns-in-0 c =
    let b = c.args.bytes.now in
    let o = c.args.out.now in
    ap (λ (a : Answer). outcome a c.sent.new.out) c.into.ensures ∙ c.sent.ensures ∙ form-sent b o {which = c.args.which} (omega arith)

pub returns-in-1 : goal.returns-in-1
returns-in-1 c =
    let b = c.args.bytes.now in
    let o = c.args.out.now in
    ap (λ (a : Answer). outcome a c.threaded.new.out) c.into-in-1.ensures ∙ c.threaded.ensures
    ∙ form-threaded b o {which = c.args.which} (λ z. omega arith) (omega arith)

pub returns-in-2 : goal.returns-in-2
returns-in-2 c =
    let b = c.args.bytes.now in
    let o = c.args.out.now in
    ap (λ (a : Answer). outcome a c.shorten.new.out) c.into-in-2.ensures ∙ c.shorten.ensures.is
    ∙ form-sliced b o {which = c.args.which} (λ z. omega arith) (λ z. omega arith) (omega arith)

pub returns-in_default : goal.returns-in_default
returns-in_default c =
    let b = c.args.bytes.now in
    let o = c.args.out.now in
    ap (λ (a : Answer). outcome a o) c.refused.ensures
    ∙ form-none b o {which = c.args.which} (λ z. omega arith) (λ z. omega arith) (λ z. omega arith)
