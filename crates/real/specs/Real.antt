-- Document 01, "Class 4, instruction": "`ConstF` carries its `f64`, kept bit for bit".
use Rattle.std.specs.Prelude.{ℕ, ◌%◌, ◌^◌, Bool, cond, not, ◌&&◌, ltb}
use Rattle.std.specs.Float.{binary64}
use Rattle.std.specs.Float.Ieee.{of_bits, to_bits, is_nan, eq, fits}
use Rattle.real.specs.declared.Real.{Real}
use Rattle.real.specs.declared.Real.TheVariants.{Number, Nan}

-- a NaN: all exponent bits are set, and some fraction bit
abbrev pub nan_pattern : ℕ → Bool
nan_pattern b = ltb 0x7FF0_0000_0000_0000 (b % 0x8000_0000_0000_0000)

unfoldable pub real_of : ℕ → Real
real_of b = cond (nan_pattern b) (Nan b) (Number (of_bits binary64 b))

-- a Number that is a NaN comes from no bits; it is written as the quiet NaN
unfoldable pub bits_of : Real → ℕ
bits_of (Number x) = cond (eq x x) (to_bits binary64 x) 0x7FF8_0000_0000_0000
bits_of (Nan b) = b

-- the values that come from 64 bits
unfoldable pub canonical : Real → Bool
canonical (Number x) = fits binary64 x && not (is_nan x)
canonical (Nan b) = ltb b (2 ^ 64) && nan_pattern b
