use mathlib.Core.Path.{sym, ap, ◌∙◌}
use Rattle.real.specs.Real.{bits_of}
use Rattle.real.proofs.Laws.{eq_not_nan}
use Rattle.real.proofs.bits_of.Goals as goal

pub float_to_bits-result : goal.float_to_bits-result
float_to_bits-result c = eq_not_nan _ c.if-x.true

pub returns-then-x : goal.returns-then-x
unfolding bits_of
returns-then-x c = sym (ap bits_of c.in-Number.is ∙ rw c.if-x.true)

pub returns-else-x : goal.returns-else-x
unfolding bits_of
returns-else-x c = sym (ap bits_of c.in-Number.is ∙ rw c.if-x.false)

pub returns-in-Nan : goal.returns-in-Nan
unfolding bits_of
returns-in-Nan c = sym (ap bits_of c.in-Nan.is)
