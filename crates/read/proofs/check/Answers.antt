use mathlib.Core.Path.{sym, ◌∙◌}
use native.Mathlib.Omega.{arith}
use Rattle.records.proofs.Laws.{length_records}
use Rattle.read.specs.Reading.{checked}
use borrow.Author.Tests.{eq-eqb, ne_eqb, lt-ltb, le-ltb}
use Rattle.read.proofs.check.Goals as goal

pub returns-then-length-ne0 : goal.returns-then-length-ne0
unfolding checked
returns-then-length-ne0 c = c.refused.ensures ∙ sym (rw (ne_eqb _ _ c.if-length-ne0.true))

pub returns-then-length-gt65536 : goal.returns-then-length-gt65536
unfolding checked
returns-then-length-gt65536 c = c.refused-then-length-gt65536.ensures ∙ sym (rw (eq-eqb _ _ c.if-length-ne0.false, lt-ltb _ _ c.if-length-gt65536.true))

pub read_records-requires : goal.read_records-requires
read_records-requires c = rw (length_records c.args.b.now) (omega arith)

pub returns : goal.returns
unfolding checked
returns c = c.read_records.ensures ∙ sym (rw (eq-eqb _ _ c.if-length-ne0.false, le-ltb _ _ c.if-length-gt65536.false))
