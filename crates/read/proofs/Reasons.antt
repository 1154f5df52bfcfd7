-- No reason has the number of an accepted file.
use native.Mathlib.Omega.{arith}
use mathlib.Core.Path.{◌≡◌}
use Rattle.read.specs.declared.Reason.{Reason}
use Rattle.read.specs.declared.Reason.TheVariants.{Length, Record, Limit, Tiling, Terminator, Table, Name, ShorteningLimit, Output, Ceiling}
use Rattle.read.specs.Refusal.{number_of}

pub no_zero : (r : Reason) → number_of r ≡ 0 → ⊥
no_zero Length e = omega arith
no_zero Record e = omega arith
no_zero Limit e = omega arith
no_zero Tiling e = omega arith
no_zero Terminator e = omega arith
no_zero Table e = omega arith
no_zero Name e = omega arith
no_zero ShorteningLimit e = omega arith
no_zero Output e = omega arith
no_zero Ceiling e = omega arith
