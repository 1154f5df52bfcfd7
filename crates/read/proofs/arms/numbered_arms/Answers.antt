use Prim.Native.Nat.{ℕ, ◌+◌, ◌-◌}
use mathlib.Core.Path.{◌≡◌, refl, ap, ◌∙◌}
use native.Mathlib.Omega.{arith}
use lib.Seq.{take_all}
use native.Mathlib.Nat.{zero-add}
use Rattle.records.specs.Record.{records_of}
use Rattle.layout.specs.Walk.{walk}
use Rattle.read.specs.Structure.{State, numbers, next_arm, tables}
use Rattle.read.specs.Spans.{spanned}
use Rattle.read.proofs.Laws.{part_pass, part_stop, part_end, part_length, pair, tables-next}
use Rattle.read.proofs.Laid.{refuse_at}
use Rattle.read.proofs.arms.numbered_arms.Goals as goal

pub loop-k-init : goal.loop-k-init
unfolding tables
loop-k-init c =
    let a = c.args.arms in
    let size = part_length (records_of a.b.now) a.first a.count a.within in
    let all : ℕ → ℕ = λ (n : ℕ). walk numbers next_arm (0, n) (spanned a) in
    (omega arith, refl, zero-add _ ∙ ap all (omega (arith, size)))

pub returns-then-not-numbers : goal.returns-then-not-numbers
returns-then-not-numbers c =
    let a = c.args.arms in
    let rs = records_of a.b.now in
    let s : State = (c.loop-k.due, a.count - c.loop-k.k) in
    let stop = part_stop numbers next_arm rs a.first a.count a.within c.loop-k.k s c.loop-k-test.true c.at-r.ensures in
    let e = stop c.if-not-numbers.ensures refl ∙ c.loop-k.invariant.2 in
    refuse_at 6 a.first _ a.count _ c.refused.ensures (ap (λ (m : ℕ). a.first + m) e) (rw (← e) c.loop-k-test.true)

pub overflow_add-due : goal.overflow_add-due
overflow_add-due c = let a = c.args.arms in omega (arith, c.ends_table-due.ensures.1, a.within, a.few)

pub loop-k-preserved : goal.loop-k-preserved
loop-k-preserved c =
    let a = c.args.arms in
    let rs = records_of a.b.now in
    let s : State = (c.loop-k.due, a.count - c.loop-k.k) in
    let pass = part_pass numbers next_arm rs a.first a.count a.within c.loop-k.k s c.loop-k-test.true c.at-r.ensures in
    let due = ap (λ (z : ℕ). c.loop-k.due + z) c.ends_table-due.ensures.0 in (
      omega (arith, c.ends_table-due.ensures.1),
      tables-next rs a.first a.count c.loop-k.k a.within c.at-r.result c.loop-k-test.true
          c.at-r.ensures c.loop-k.invariant.1 c.ends_table-due.ensures.0,
      pass c.if-not-numbers.ensures refl (pair due (omega arith)) ∙ c.loop-k.invariant.2,
    )

pub returns : goal.returns
returns c =
    let a = c.args.arms in
    let all : a.count ≡ c.loop-k.k = omega arith in
    let rs = records_of a.b.now in
    let s : State = (c.loop-k.due, a.count - c.loop-k.k) in
    let size = part_length rs a.first a.count a.within in (
      all ∙ part_end numbers next_arm rs a.first a.count a.within c.loop-k.k s c.loop-k-test.false ∙ c.loop-k.invariant.2,
      c.loop-k.invariant.1 ∙ ap tables (take_all c.loop-k.k (spanned a) (omega (arith, size))),
    )
