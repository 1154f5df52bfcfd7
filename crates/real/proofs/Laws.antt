-- Laws of the f64 kept bit for bit: every pattern comes back, and every value that a pattern gives.
use Prim.Native.Nat.{ℕ, ◌^◌, ◌<◌}
use mathlib.Core.Bool.{true, false, not}
use mathlib.Core.Logic.{◌⊎◌, inl, inr}
use mathlib.Core.Path.{◌≡◌, sym, ap, subst, ◌∙◌}
use lib.Dec.{T, ltb, ltb→lt, T_not}
use lib.Ieee.{Float, nan, inf, fin, binary64, of_bits, to_bits, is_nan, eq, ne, fits}
use lib.Ieee.Bits.{to_bits-of_bits, of_bits-to_bits, of_bits-fits, to_bits-lt, nan_bits_is, nan_bits_above, is_true, is_false}
use lib.Ieee.Compare.{differs_from_itself}
use borrow.Author.Tests.{lt-ltb}
use Rattle.general.proofs.Booleans.{cases, holds, fails, and_first, and_second}
use Rattle.real.specs.declared.Real.{Real}
use Rattle.real.specs.declared.Real.TheVariants.{Number, Nan}
use Rattle.real.specs.Real.{real_of, bits_of, canonical, nan_pattern}

-- the test of the pattern is the test of the value
pub nan_is : (b : ℕ) → nan_pattern b ≡ is_nan (of_bits binary64 b)
nan_is b = sym (nan_bits_above binary64 b) ∙ nan_bits_is binary64 b

pub eq_not_nan : (x : Float) → eq x x ≡ true → T (not (is_nan x))
unfolding eq is_nan
eq_not_nan nan h = holds h
eq_not_nan (inf s) h = tt
eq_not_nan (fin s m e) h = tt

not_eq : (x : Float) → eq x x ≡ false → T (is_nan x)
unfolding ne is_nan
not_eq x h = subst (λ (y : Float). T (is_nan y)) (sym (differs_from_itself x (fails h))) tt

not_nan_eq : (x : Float) → T (not (is_nan x)) → eq x x ≡ true
not_nan_eq x h = go (cases (eq x x))
  where
    go : (eq x x ≡ true) ⊎ (eq x x ≡ false) → eq x x ≡ true
    go (inl e) = e
    go (inr e) = absurd (T_not (is_nan x) h (not_eq x e))

pub bits_real : (b : ℕ) → b < 2 ^ 64 → bits_of (real_of b) ≡ b
unfolding real_of bits_of
bits_real b h = go (cases (nan_pattern b))
  where
    go : (nan_pattern b ≡ true) ⊎ (nan_pattern b ≡ false) → bits_of (real_of b) ≡ b
    go (inl e) = rw e
    go (inr e) =
        let k = fails (sym (nan_is b) ∙ e) in
        rw (e, not_nan_eq (of_bits binary64 b) k, to_bits-of_bits binary64 b h k)

pub real-canonical : (b : ℕ) → b < 2 ^ 64 → canonical (real_of b) ≡ true
unfolding real_of canonical
real-canonical b h = go (cases (nan_pattern b))
  where
    go : (nan_pattern b ≡ true) ⊎ (nan_pattern b ≡ false) → canonical (real_of b) ≡ true
    go (inl e) = rw (e, lt-ltb b (2 ^ 64) h, e)
    go (inr e) = rw (e, is_true (fits binary64 (of_bits binary64 b)) (of_bits-fits binary64 b), sym (nan_is b) ∙ e)

pub bits_lt : (v : Real) → canonical v ≡ true → bits_of v < 2 ^ 64
unfolding bits_of canonical
bits_lt (Number x) h =
    let k = holds (and_second (fits binary64 x) (not (is_nan x)) h) in
    rw (not_nan_eq x k) (to_bits-lt binary64 x (holds (and_first (fits binary64 x) (not (is_nan x)) h)))
bits_lt (Nan b) h = ltb→lt b (2 ^ 64) (holds (and_first (ltb b (2 ^ 64)) (nan_pattern b) h))

pub real_bits : (v : Real) → canonical v ≡ true → real_of (bits_of v) ≡ v
unfolding real_of bits_of canonical
real_bits (Number x) h =
    let k = holds (and_second (fits binary64 x) (not (is_nan x)) h) in
    let e = of_bits-to_bits binary64 x (holds (and_first (fits binary64 x) (not (is_nan x)) h)) in
    let p : nan_pattern (to_bits binary64 x) ≡ false = nan_is (to_bits binary64 x) ∙ ap is_nan e ∙ is_false (is_nan x) k in
    rw (not_nan_eq x k, p, e)
real_bits (Nan b) h = rw (and_second (ltb b (2 ^ 64)) (nan_pattern b) h)
