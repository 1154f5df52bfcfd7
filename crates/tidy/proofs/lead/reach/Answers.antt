use Rattle.std.proofs.Common.{ap, ◌∙◌}
use Rattle.search.specs.Search.{State}
use Rattle.search.proofs.Laws.{held_start, held-end}
use Rattle.tidy.specs.Work.Marks.{edges_in}
use Rattle.tidy.proofs.Edges.{edges_length}
use Rattle.tidy.proofs.Marks.{all_marked, one_of_160, both_pushed, both_less}
use Rattle.tidy.proofs.lead.reach.Goals as goal

pub loop-b-init : goal.loop-b-init
loop-b-init c =
    let ts = c.args.targets.now in
    rw (c.push.ensures, c.new-s.ensures) (held_start (edges_in ts) c.args.from.0 160 (edges_length ts ∙ c.requires.1))

pub bounds-targets-b : goal.bounds-targets-b
bounds-targets-b c = one_of_160 c.args.targets.now c.requires.1 _ c.loop-b.invariant c.pop.new.self c.in-Some.b.0 c.in-Some.ensures.some

pub loop-b-smaller : goal.loop-b-smaller
loop-b-smaller c =
    rw (c.push-in-Some-2.ensures, c.push-in-Some.ensures)
    (both_less c.args.targets.now c.requires.1 _ c.loop-b.invariant c.pop.new.self c.in-Some.b.0 c.in-Some.ensures.some _)

pub loop-b-preserved : goal.loop-b-preserved
loop-b-preserved c =
    rw (c.push-in-Some-2.ensures, c.push-in-Some.ensures)
    (both_pushed c.args.targets.now c.requires.1 _ c.loop-b.invariant c.pop.new.self c.in-Some.b.0 c.in-Some.ensures.some _)

pub returns : goal.returns
returns c =
    let m = c.marks.ensures ∙ ap (λ (s : State). s.found.seen) c.in_default.ensures.kept in
    m ∙ all_marked c.args.targets.now c.requires.1 _ (held-end c.loop-b.invariant c.in_default.ensures.none)
