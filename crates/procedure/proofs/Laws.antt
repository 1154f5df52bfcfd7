-- A law of how often a number is in a list.
use Prim.Native.Nat.{ℕ, suc, ◌+◌, ◌≤◌}
use native.Mathlib.Omega.{arith}
use mathlib.Core.Bool.{Bool, true, false, cond}
use mathlib.Core.List.{List, [], ◌∷◌}
use lib.Dec.{eqb}
use lib.ListN.{length}
use Rattle.procedure.specs.Lists.{times}

pub times_le : (r : ℕ) (xs : List ℕ) → times r xs ≤ length xs
unfolding times
times_le r [] = omega arith
times_le r (x ∷ xs) = by (eqb r x) (times_le r xs)
  where
    by : (b : Bool) → times r xs ≤ length xs → cond b 1 0 + times r xs ≤ suc (length xs)
    by true h = omega arith
    by false h = omega arith
