use Prim.Native.Nat.{ℕ, ◌+◌}
use mathlib.Core.Path.{refl, ◌≡◌, ap, ◌∙◌}
use native.Mathlib.Omega.{arith}
use native.Mathlib.Nat.{zero-add}
use Rattle.records.specs.Record.{records_of}
use Rattle.read.specs.Structure.{code_of, ends_well}
use Rattle.read.specs.Spans.{spanned}
use Rattle.read.proofs.Laws.{tests_pass, tests_stop, tests-end, in_code}
use Rattle.read.proofs.Laid.{refuse_at, pass_on}
use Rattle.read.proofs.blocks.first_wrong_end.Goals as goal

pub loop-k-init : goal.loop-k-init
loop-k-init c = zero-add _

-- the block read lies within the code
pub code_of-requires : goal.code_of-requires
code_of-requires c =
    let a = c.args.blocks in
    in_code (records_of a.b.now) a.first a.count c.args.code.count c.loop-k.k a.within c.at.result c.requires c.loop-k-test.true c.at.ensures

pub returns-then-not-ends_well : goal.returns-then-not-ends_well
returns-then-not-ends_well c =
    let a = c.args.blocks in
    let well = ap ends_well c.code_of.ensures in
    let stop = tests_stop (λ r. ends_well (code_of (spanned c.args.code) r)) (records_of a.b.now) a.first a.count a.within c.loop-k.k in
    let e = stop c.loop-k-test.true c.at.ensures (c.if-not-ends_well.ensures ∙ well) refl ∙ c.loop-k.invariant in
    refuse_at 5 a.first _ a.count _ c.refused.ensures (ap (λ (m : ℕ). a.first + m) e) (rw (← e) c.loop-k-test.true)

pub loop-k-preserved : goal.loop-k-preserved
loop-k-preserved c =
    let a = c.args.blocks in
    let well = ap ends_well c.code_of.ensures in
    let pass = tests_pass (λ r. ends_well (code_of (spanned c.args.code) r)) (records_of a.b.now) a.first a.count a.within c.loop-k.k in
    pass c.loop-k-test.true c.at.ensures (c.if-not-ends_well.ensures ∙ well) refl ∙ c.loop-k.invariant

pub returns : goal.returns
returns c =
    let a = c.args.blocks in
    let all : a.count ≡ c.loop-k.k = omega arith in
    let end = tests-end (λ r. ends_well (code_of (spanned c.args.code) r)) (records_of a.b.now) a.first a.count a.within c.loop-k.k in
    let e = all ∙ end c.loop-k-test.false ∙ c.loop-k.invariant in
    pass_on 5 a.first _ a.count (rw (← e) (omega arith)) refl
