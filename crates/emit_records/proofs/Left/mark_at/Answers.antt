use mathlib.Core.Path.{sym, ◌∙◌}
use mathlib.Core.Bool.{true, false}
use native.Mathlib.Omega.{arith}
use lib.ListN.{length-take}
use lib.Seq.{get_or-take}
use Rattle.general.proofs.Lists.{get_d_any, at_rest}
use Rattle.emit_records.specs.Emitted.{marks_in}
use Rattle.emit_records.proofs.Left.mark_at.Goals as goal

pub returns-then-b-min : goal.returns-then-b-min
returns-then-b-min c =
    let a = c.args in
    let e = c.min.ensures in
    let t = c.if-b-min.true in
    get_d_any a.self.now.seen.now a.b false true (omega arith) ∙ sym (get_or-take 160 a.self.now.seen.now a.b true (omega arith))

pub returns-else-b-min : goal.returns-else-b-min
returns-else-b-min c =
    let a = c.args in
    let e = c.min.ensures in
    let n = length-take 160 a.self.now.seen.now in
    at_rest (marks_in a.self.now.seen.now) true (omega (arith, c.if-b-min.false))
