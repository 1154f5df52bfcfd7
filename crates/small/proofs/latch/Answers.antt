use mathlib.Core.Path.{sym, ◌∙◌}
use borrow.Author.Tests.{not-true, not-false}
use Rattle.procedure.specs.Procedure.{codes_of}
use Rattle.small.proofs.Laws.{no_test, no_shape, step-found, next-told}
use Rattle.small.proofs.latch.Goals as goal

pub returns-then-not-tests_after : goal.returns-then-not-tests_after
returns-then-not-tests_after c = let a = c.args in
    let m = codes_of a.code.now in
    let x = codes_of a.next.now in
    let t = next-told a.l.0 c.end_of.ensures c.tests_after.ensures in
    no_test m x a.l.0 a.wide (t ∙ not-true _ c.if-not-tests_after.true-raw)

pub returns-then-not-step_shape : goal.returns-then-not-step_shape
returns-then-not-step_shape c = let a = c.args in
    let m = codes_of a.code.now in
    let x = codes_of a.next.now in
    let t = next-told a.l.0 c.end_of.ensures c.tests_after.ensures in
    let shape = sym c.step_shape.ensures ∙ not-true _ c.if-not-step_shape.true-raw in
    no_shape m x a.l.0 a.wide (t ∙ not-false _ c.if-not-tests_after.false-raw) shape

pub returns : goal.returns
returns c = let a = c.args in
    let m = codes_of a.code.now in
    let x = codes_of a.next.now in
    let t = next-told a.l.0 c.end_of.ensures c.tests_after.ensures in
    let shape = sym c.step_shape.ensures ∙ not-false _ c.if-not-step_shape.false-raw in
    step-found m x a.l.0 a.wide (t ∙ not-false _ c.if-not-tests_after.false-raw) shape c.any_step.ensures
