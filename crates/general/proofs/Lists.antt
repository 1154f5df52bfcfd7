-- Laws of lists: a place known or past the end, parts of parts, and a function over a list's parts.
use Prim.Native.Nat.{ℕ, zero, suc, ◌-◌, ◌≤◌, ◌<◌}
use native.Mathlib.Omega.{arith}
use mathlib.Core.Path.{◌≡◌, refl, sym, ap, ◌∙◌}
use mathlib.Core.List.{List, [], ◌∷◌, ◌++◌, map}
use lib.ListN.{length, get_or, take, drop, set, replicate, get_or-eq_default}
use lib.Seq.{take-nil}

-- what a list has at a known index, and past its end
pub at_key {ℓ} : {A : Type ℓ} (l : List A) (d : A) {x k : ℕ} → x ≡ k → get_or l k d ≡ get_or l x d
at_key l d e = ap (λ n. get_or l n d) (sym e)

pub at_rest {ℓ} : {A : Type ℓ} (l : List A) (d : A) {x : ℕ} → length l ≤ x → d ≡ get_or l x d
at_rest l d h = sym (get_or-eq_default l d h)

module _ {A : Type 0} where
  -- in a list the default doesn't matter
  pub get_d_any : (l : List A) (k : ℕ) (d e : A) → k < length l → get_or l k d ≡ get_or l k e
  get_d_any [] k d e h = absurd (omega arith)
  get_d_any (x ∷ l) zero d e h = refl
  get_d_any (x ∷ l) (suc k) d e h = get_d_any l k d e (omega arith)

  pub drop-take : (m n : ℕ) (l : List A) → drop m (take n l) ≡ take (n - m) (drop m l)
  drop-take zero n l = let e : n ≡ n - 0 = omega arith in ap (λ (k : ℕ). take k l) e
  drop-take (suc m) zero l = let e : 0 ≡ 0 - suc m = omega arith in ap (λ (k : ℕ). take k (drop (suc m) l)) e
  drop-take (suc m) (suc n) [] = sym (take-nil (suc n - suc m))
  drop-take (suc m) (suc n) (x ∷ l) = let e : n - m ≡ suc n - suc m = omega arith in drop-take m n l ∙ ap (λ (k : ℕ). take k (drop m l)) e

module _ {A B : Type 0} (f : A → B) where
  pub map-set : (l : List A) (k : ℕ) (x : A) → map f (set l k x) ≡ set (map f l) k (f x)
  map-set [] zero x = refl
  map-set [] (suc k) x = refl
  map-set (y ∷ l) zero x = refl
  map-set (y ∷ l) (suc k) x = ap (λ (r : List B). f y ∷ r) (map-set l k x)
