use native.Mathlib.Omega.{arith}
use mathlib.Core.Path.{ap, ◌∙◌}
use Rattle.count_facts.proofs.Begun.{kind-sent, kind-new}
use Rattle.count_facts.proofs.start.kind_of.Goals as goal

pub returns-then-k-n : goal.returns-then-k-n
returns-then-k-n c =
    ap (λ r. r.kind) c.record_at-r.ensures ∙ kind-sent c.args.registers.now c.args.kinds.now c.args.k c.if-k-n.true

pub returns : goal.returns
returns c =
    let e = kind-new c.args.registers.now c.args.kinds.now c.args.k c.if-k-n.false in
    rw (c.unwrap_or.ensures, c.copied.ensures) (c.get.ensures.lookup.4 (omega arith) 0 ∙ e)
