-- A walk along a list, which stops at the first element that isn't ok. What is ok may depend on the elements before.
use Rattle.std.specs.Prelude.{ℕ, suc, List, [], ◌∷◌, Bool, cond}

module _ {S R : Type 0} (ok : S → R → Bool) (next : S → R → S) where
  -- how many elements are passed before the first that isn't ok
  unfoldable pub walk : S → List R → ℕ
  walk s [] = 0
  walk s (r ∷ rs) = cond (ok s r) (suc (walk (next s r) rs)) 0

-- how many elements come before the first that fails the test
abbrev pub lead : {R : Type 0} → (R → Bool) → List R → ℕ
lead p = walk (λ (s : Unit {0}) r. p r) (λ s r. s) tt
