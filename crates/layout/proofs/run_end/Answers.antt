use Rattle.std.proofs.Common.{arith, sym, ap, ◌∙◌}
use lib.ListN.{drop, length-drop}
use Rattle.records.specs.Record.{records_of, blank}
use Rattle.records.proofs.Laws.{length_records}
use Rattle.layout.proofs.Walks.{lead_pass, lead_stop, lead-end, lead_le}
use Rattle.layout.proofs.run_end.Goals as goal

pub returns-then-not-passes : goal.returns-then-not-passes
returns-then-not-passes g c p h =
    let rs = records_of c.args.b.now in
    lead_stop p rs c.loop-k.k blank (omega (arith, length_records c.args.b.now))
    (sym (h _ c.passes.result c.passes.ensures ∙ ap p c.record_at.ensures) ∙ c.if-not-passes.true)
    ∙ c.loop-k.invariant p h

pub loop-k-preserved : goal.loop-k-preserved
loop-k-preserved g c p h =
    let rs = records_of c.args.b.now in
    lead_pass p rs c.loop-k.k blank (omega (arith, length_records c.args.b.now))
    (sym (h _ c.passes.result c.passes.ensures ∙ ap p c.record_at.ensures) ∙ c.if-not-passes.false)
    ∙ c.loop-k.invariant p h

pub returns : goal.returns
returns g c p h =
    let b = c.args.b.now in
    let rs = records_of b in
    let few = lead_le p (drop c.args.first rs) in
    let rest = length-drop c.args.first rs in
    let long = length_records b in
    omega (arith, lead-end p rs c.loop-k.k (omega (arith, long)), c.loop-k.invariant p h, c.max.ensures, few, rest, long)
