use Rattle.std.proofs.Common.{◌-◌, ◌<◌, length, sym, ap, subst, ◌∙◌, arith}
use lib.ListN.{length-set, length-replicate}
use Rattle.records.specs.declared.Record.{Record}
use Rattle.records.specs.Record.{records_of}
use Rattle.codec.specs.Codec.{inst_of}
use Rattle.ends.specs.declared.End.{End}
use Rattle.ends.specs.Ends.{view_of, targets}
use Rattle.tidy.specs.declared.targets.Targets.{Targets}
use Rattle.tidy.specs.Work.Marks.{Pair, nowhere}
use Rattle.tidy.proofs.Ending.{none-noted, more-noted, all_noted, block-end}
use Rattle.tidy.proofs.targets.note_targets.Goals as goal

pub loop-k-init : goal.loop-k-init
loop-k-init c =
    let f = c.args.f in
    (ap length c.requires ∙ length-replicate {A = Targets} 160 nowhere, none-noted (records_of f.b.now) f.l c.requires)

pub part-part-requires : goal.part-part-requires
part-part-requires c = rw (← c.blocks-k-end.ensures) c.loop-k-test.true

pub overflow_add-part : goal.overflow_add-part
overflow_add-part c = let f = c.args.f.fit in let p = c.part-part.ensures.part in omega arith

pub overflow_sub-part : goal.overflow_sub-part
overflow_sub-part c = let p = c.part-part.ensures.part in omega arith

pub bounds-targets-k : goal.bounds-targets-k
bounds-targets-k c = let f = c.args.f.fit in let e = c.blocks-k-end.ensures in omega arith

pub loop-k-preserved : goal.loop-k-preserved
loop-k-preserved c =
    let f = c.args.f in
    let l = c.loop-k in
    let part = c.part-part in
    let t = c.targets_of.result in
    let fit = f.fit in
    let i : l.k < f.l.bodies - f.l.blocks = rw (← c.blocks-k-end.ensures) c.loop-k-test.true in
    let e = block-end fit l.k i part.ensures.part in
    let view = c.end_in.ensures ∙ ap (λ (r : Record). view_of (inst_of r)) c.record_at-last.ensures ∙ sym e in
    let p = subst (λ (x : End). Pair (targets x) t) view c.targets_of.ensures in
    let more = more-noted (records_of f.b.now) f.l l.k l.targets t l.invariant.0 (omega arith) l.invariant.1 p in
    (length-set l.targets l.k t ∙ l.invariant.0, more)

pub returns : goal.returns
returns c =
    let f = c.args.f in
    let l = c.loop-k in
    all_noted (records_of f.b.now) f.l f.fit l.k l.targets l.invariant.0 (rw (← c.blocks-k-end.ensures) c.loop-k-test.false) l.invariant.1
