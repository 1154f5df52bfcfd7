use mathlib.Core.Path.{ap, ◌∙◌}
use borrow.Author.Tests.{not-true, not-false}
use Rattle.procedure.specs.Procedure.{codes_of}
use Rattle.ends.proofs.Laws.{length_codes}
use Rattle.steps.specs.Small.{jumps_back}
use Rattle.small.proofs.Laws.{shape_two, shape_narrow, shape_long, shape_back, two_told}
use Rattle.small.proofs.step_shape.Goals as goal

pub returns-then-two_to_br : goal.returns-then-two_to_br
returns-then-two_to_br c = let a = c.args in
    let b = a.code.now in
    let t = two_told b c.end_of-e.ensures c.two_to_br.ensures in
    shape_two a.wide a.l.0 (codes_of b) (t ∙ c.if-two_to_br.true)

pub returns-then-not-wide : goal.returns-then-not-wide
returns-then-not-wide c = let a = c.args in
    let b = a.code.now in
    let t = two_told b c.end_of-e.ensures c.two_to_br.ensures in
    shape_narrow a.wide a.l.0 (codes_of b) (t ∙ c.if-two_to_br.false) (not-true _ c.if-not-wide.true-raw)

pub returns-then-n-gt4 : goal.returns-then-n-gt4
returns-then-n-gt4 c = let a = c.args in
    let b = a.code.now in
    let t = two_told b c.end_of-e.ensures c.two_to_br.ensures in
    let wide = not-false _ c.if-not-wide.false-raw in
    shape_long a.wide a.l.0 (codes_of b) (t ∙ c.if-two_to_br.false) wide (rw length_codes c.if-n-gt4.true)

pub returns : goal.returns
returns c = let a = c.args in
    let b = a.code.now in
    let t = two_told b c.end_of-e.ensures c.two_to_br.ensures in
    let j = c.jumps_back.ensures ∙ ap (jumps_back a.l.0) c.end_of-e.ensures in
    let wide = not-false _ c.if-not-wide.false-raw in
    shape_back a.wide a.l.0 (codes_of b) (t ∙ c.if-two_to_br.false) wide (rw length_codes c.if-n-gt4.false) j
