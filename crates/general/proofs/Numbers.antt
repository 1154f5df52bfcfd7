-- Laws of numbers: one below another or not, all those below one, and those past the keys of a `match`.
use Prim.Native.Nat.{ℕ, zero, suc, ◌≤◌, ◌<◌}
use native.Mathlib.Omega.{arith}
use mathlib.Core.Path.{◌≡◌, refl, sym, subst}
use mathlib.Core.Bool.{Bool, true, false}
use mathlib.Core.Logic.{◌⊎◌, inl, inr}
use lib.Dec.{ltb, eqb}
use borrow.Author.Tests.{ltb-true, ltb-false, eqb-true, eqb-false}

pub order : (a b : ℕ) → (a < b) ⊎ (b ≤ a)
order a b = go (ltb a b) refl
  where
    go : (t : Bool) → ltb a b ≡ t → (a < b) ⊎ (b ≤ a)
    go true e = inl (ltb-true a b e)
    go false e = inr (ltb-false a b e)

-- what holds of each number below n, one by one
abbrev pub Below : (ℕ → Type 0) → ℕ → Type 0
Below P zero = Unit {0}
Below P (suc n) = Below P n × P n

pub below : (P : ℕ → Type 0) (n : ℕ) → Below P n → (k : ℕ) → k < n → P k
below P zero h k lt = absurd (omega arith)
below P (suc n) h k lt = go (eqb k n) refl (below P n h.0 k)
  where
    go : (t : Bool) → eqb k n ≡ t → (k < n → P k) → P k
    go true e f = subst P (sym (eqb-true k n e)) h.1
    go false e f = let ne = eqb-false k n e in f (omega arith)

-- what the last arm of a `match` with the keys 0, 1, .., n - 1 knows
abbrev pub Apart : ℕ → ℕ → Type 0
Apart zero x = Unit {0}
Apart (suc n) x = Apart n x × (x ≡ n → ⊥)

next : (n x : ℕ) → n ≤ x → (x ≡ n → ⊥) → suc n ≤ x
next n x h ne = omega arith

pub past : (n x : ℕ) → Apart n x → n ≤ x
past zero x h = omega arith
past (suc n) x h = next n x (past n x h.0) h.1
