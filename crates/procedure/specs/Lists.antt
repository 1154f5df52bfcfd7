-- Lists of numbers, and of pairs of a register and what is known of it.
use Rattle.std.specs.Prelude.{ℕ, ◌+◌, List, [], ◌∷◌, ◌++◌, Bool, true, false, ◌||◌, cond, eqb, Option, None, Some}

-- some element passes a test
unfoldable pub any_of : {A : Type 0} → (A → Bool) → List A → Bool
any_of p [] = false
any_of p (x ∷ xs) = p x || any_of p xs

-- how often a number is in a list
unfoldable pub times : ℕ → List ℕ → ℕ
times r [] = 0
times r (x ∷ xs) = cond (eqb r x) 1 0 + times r xs

abbrev pub joined : {A : Type 0} → List (List A) → List A
joined [] = []
joined (x ∷ xs) = x ++ joined xs

-- `iter().find(|x| x.0 == r)`: what the first entry of a register says
unfoldable pub found : ℕ → List (ℕ × ℕ) → Option ℕ
found r [] = None
found r (x ∷ xs) = cond (eqb x.0 r) (Some x.1) (found r xs)

abbrev pub or_else : Option ℕ → Option ℕ → Option ℕ
or_else None y = y
or_else (Some v) y = Some v

abbrev pub value_or : ℕ → Option ℕ → ℕ
value_or d None = d
value_or d (Some v) = v

-- `is_some()`, `Some(n) == o`
abbrev pub present : Option ℕ → Bool
present None = false
present (Some v) = true

abbrev pub holds : Option ℕ → ℕ → Bool
holds None n = false
holds (Some v) n = eqb v n
