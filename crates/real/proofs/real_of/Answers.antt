use mathlib.Core.Path.{sym, ◌∙◌, subst}
use mathlib.Core.Bool.{Bool, not}
use lib.Dec.{T}
use lib.Ieee.{binary64}
use lib.Ieee.Bits.{nan_bits_above}
use borrow.Author.Tests.{lt-ltb, le-ltb}
use Rattle.real.specs.Real.{real_of}
use Rattle.real.proofs.real_of.Goals as goal

pub float_from_bits-result : goal.float_from_bits-result
float_from_bits-result c = subst (λ (y : Bool). T (not y)) (sym (nan_bits_above binary64 _ ∙ le-ltb _ _ c.if-unsigned-gt9218868437227405312.false)) tt

pub returns-then-unsigned-gt9218868437227405312 : goal.returns-then-unsigned-gt9218868437227405312
unfolding real_of
returns-then-unsigned-gt9218868437227405312 c = rw (lt-ltb _ _ c.if-unsigned-gt9218868437227405312.true)

pub returns-else-unsigned-gt9218868437227405312 : goal.returns-else-unsigned-gt9218868437227405312
unfolding real_of
returns-else-unsigned-gt9218868437227405312 c = rw (le-ltb _ _ c.if-unsigned-gt9218868437227405312.false)
