use Rattle.std.proofs.Common.{ap, ◌∙◌}
use Rattle.search.specs.Search.{State}
use Rattle.search.proofs.Laws.{held_start, held-block, held_more, held_less, held-end}
use Rattle.reach.specs.Reached.{seen_in}
use Rattle.reach.proofs.Edges.{first, length_first, edge_at}
use Rattle.reach.proofs.reached.Goals as goal

pub loop-b-init : goal.loop-b-init
loop-b-init c =
    let a = c.args in
    let es = first a.blocks.code.now a.blocks.table.now a.arms.now in
    rw (c.push.ensures, c.new-s.ensures, c.len.ensures) (held_start es 0 _ (length_first a.blocks.code.now a.blocks.table.now a.arms.now))

pub loop-b-smaller : goal.loop-b-smaller
loop-b-smaller c =
    let b = c.in-Some.b.0 in
    let p = c.in-Some.ensures.some in
    let e = edge_at c.args.blocks.code.now c.args.blocks.table.now c.args.arms.now b c.end_at.ensures (held-block c.loop-b.invariant c.pop.new.self b p) in
    rw c.push_targets.ensures (held_less c.loop-b.invariant c.pop.new.self b p e)

pub loop-b-preserved : goal.loop-b-preserved
loop-b-preserved c =
    let b = c.in-Some.b.0 in
    let p = c.in-Some.ensures.some in
    let e = edge_at c.args.blocks.code.now c.args.blocks.table.now c.args.arms.now b c.end_at.ensures (held-block c.loop-b.invariant c.pop.new.self b p) in
    rw c.push_targets.ensures (held_more c.loop-b.invariant c.pop.new.self b p e)

pub returns : goal.returns
unfolding seen_in
returns c =
    let m = c.marks.ensures ∙ ap (λ (s : State). s.found.seen) c.in_default.ensures.kept in
    m ∙ held-end c.loop-b.invariant c.in_default.ensures.none
