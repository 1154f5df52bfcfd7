use Prim.Native.Nat.{◌-◌}
use mathlib.Core.Path.{sym, ◌≡◌, ap, ◌∙◌}
use native.Mathlib.Omega.{arith}
use borrow.Author.Tests.{eq-eqb, ne_eqb}
use Rattle.records.specs.Record.{records_of}
use Rattle.read.specs.Structure.{terminator}
use Rattle.read.specs.Work.{closes}
use Rattle.read.specs.Spans.{spanned}
use Rattle.read.proofs.Laws.{tests_pass, tests_stop, tests-end, part_at, in_code}
use Rattle.read.proofs.blocks.each_ends.Goals as goal

pub returns-then-not-terminator : goal.returns-then-not-terminator
returns-then-not-terminator c =
    let a = c.args.blocks in
    let s = c.args.code in
    let q = in_code (records_of a.b.now) a.first a.count s.count c.loop-k.k a.within c.at.result c.requires c.loop-k-test.true c.at.ensures in
    let at = part_at (records_of s.b.now) s.first s.count s.within (c.at.result.p2 - 1) (let i = q.0 in let j = q.1 in omega arith) in
    let stop = tests_stop (closes (spanned s)) (records_of a.b.now) a.first a.count a.within c.loop-k.k in
    let e = stop c.loop-k-test.true c.at.ensures (c.terminator.ensures ∙ ap terminator (c.at-in-loop-k.ensures ∙ sym at)) c.if-not-terminator.true ∙ c.loop-k.invariant in
    sym (ne_eqb _ _ (λ n. let h = c.loop-k-test.true in omega arith))

pub loop-k-preserved : goal.loop-k-preserved
loop-k-preserved c =
    let a = c.args.blocks in
    let s = c.args.code in
    let q = in_code (records_of a.b.now) a.first a.count s.count c.loop-k.k a.within c.at.result c.requires c.loop-k-test.true c.at.ensures in
    let at = part_at (records_of s.b.now) s.first s.count s.within (c.at.result.p2 - 1) (let i = q.0 in let j = q.1 in omega arith) in
    let pass = tests_pass (closes (spanned s)) (records_of a.b.now) a.first a.count a.within c.loop-k.k in
    pass c.loop-k-test.true c.at.ensures (c.terminator.ensures ∙ ap terminator (c.at-in-loop-k.ensures ∙ sym at)) c.if-not-terminator.false ∙ c.loop-k.invariant

pub returns : goal.returns
returns c =
    let a = c.args.blocks in
    let all : a.count ≡ c.loop-k.k = omega arith in
    let end = tests-end (closes (spanned c.args.code)) (records_of a.b.now) a.first a.count a.within c.loop-k.k in
    sym (eq-eqb _ _ (sym (all ∙ end c.loop-k-test.false ∙ c.loop-k.invariant)))
