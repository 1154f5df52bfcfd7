use Rattle.std.proofs.Common.{sym, ◌∙◌, length-set, arith}
use Rattle.hop_br.proofs.Joins.{kinds-end, kinds-step, kind_in}
use Rattle.std.specs.Slice.Iter.{iter_rest}
use Rattle.hop_br.proofs.put_kinds.Goals as goal

pub loop-p-preserved : goal.loop-p-preserved
loop-p-preserved c =
    let s = c.loop-p.p-iterator in
    let t = c.next.new.self in
    let d = c.in-Some.ensures.steps in
    let k = c.loop-p.kinds in (
      length-set k c.in-Some.at _ ∙ c.loop-p.invariant.0 ∙ sym d.1.0,
      kinds-step (kind_in c.args.facts.now) k s.b.start c.in-Some.p.now (iter_rest t.a) d.0 d.1.1.1 d.1.1.2 c.kind_at.ensures
          ∙ c.loop-p.invariant.1,
    )

pub returns : goal.returns
returns c =
    let s = c.loop-p.p-iterator in
    let k = c.loop-p.kinds in
    sym (kinds-end (kind_in c.args.facts.now) k s.b.start (iter_rest s.a) (grind (arith, c.in-None.ensures.steps, c.loop-p.invariant.0))) ∙ c.loop-p.invariant.1
