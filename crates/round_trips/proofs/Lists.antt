-- Laws of what holds of each element of a list, and of walks that pass all of one.
use Prim.Native.Nat.{ℕ, zero, suc, ◌<◌}
use native.Mathlib.Omega.{arith}
use mathlib.Core.Path.{◌≡◌, refl, ap, ◌∙◌}
use mathlib.Core.Bool.{Bool, true}
use mathlib.Core.List.{List, [], ◌∷◌, ◌++◌, map}
use lib.ListN.{length, get_or, take, drop}
use Rattle.layout.specs.Walk.{walk, lead}
use Rattle.layout.proofs.Walks.{walk_pass, walk_head, walk_tail}
use Rattle.procedure.specs.Lists.{joined}
use Rattle.round_trips.specs.WellFormed.{All}

module _ {A : Type 0} (P : A → Type 0) where
  pub all-at : (xs : List A) (d : A) → All P xs → (k : ℕ) → k < length xs → P (get_or xs k d)
  all-at [] d h k i = absurd (omega arith)
  all-at (x ∷ xs) d h zero i = h.0
  all-at (x ∷ xs) d h (suc k) i = all-at xs d h.1 k (omega arith)

  pub all_from : (xs : List A) (d : A) → ((k : ℕ) → k < length xs → P (get_or xs k d)) → All P xs
  all_from [] d h = tt
  all_from (x ∷ xs) d h = (h 0 (omega arith), all_from xs d (λ k i. h (suc k) (omega arith)))

  pub all_append : (xs ys : List A) → All P xs → All P ys → All P (xs ++ ys)
  all_append [] ys h i = i
  all_append (x ∷ xs) ys h i = (h.0, all_append xs ys h.1 i)

  pub all_left : (xs ys : List A) → All P (xs ++ ys) → All P xs
  all_left [] ys h = tt
  all_left (x ∷ xs) ys h = (h.0, all_left xs ys h.1)

  pub all_right : (xs ys : List A) → All P (xs ++ ys) → All P ys
  all_right [] ys h = h
  all_right (x ∷ xs) ys h = all_right xs ys h.1

  pub all_take : (n : ℕ) (xs : List A) → All P xs → All P (take n xs)
  all_take zero xs h = tt
  all_take (suc n) [] h = tt
  all_take (suc n) (x ∷ xs) h = (h.0, all_take n xs h.1)

  pub all_drop : (n : ℕ) (xs : List A) → All P xs → All P (drop n xs)
  all_drop zero xs h = h
  all_drop (suc n) [] h = tt
  all_drop (suc n) (x ∷ xs) h = all_drop n xs h.1

  pub all-each : ((x : A) → P x) → (xs : List A) → All P xs
  all-each f [] = tt
  all-each f (x ∷ xs) = (f x, all-each f xs)

pub all_joined : {A : Type 0} (P : A → Type 0) (xs : List (List A)) → All (All P) xs → All P (joined xs)
all_joined P [] h = tt
all_joined P (x ∷ xs) h = all_append P x (joined xs) h.0 (all_joined P xs h.1)

pub all_map : {A B : Type 0} (P : A → Type 0) (Q : B → Type 0) (f : A → B) → ((x : A) → P x → Q (f x)) → (xs : List A) → All P xs → All Q (map f xs)
all_map P Q f g [] h = tt
all_map P Q f g (x ∷ xs) h = (g x h.0, all_map P Q f g xs h.1)

pub all-turn : {A : Type 0} {P Q : A → Type 0} → ((x : A) → P x → Q x) → (xs : List A) → All P xs → All Q xs
all-turn g [] h = tt
all-turn g (x ∷ xs) h = (g x h.0, all-turn g xs h.1)

pub all_both : {A : Type 0} (P Q : A → Type 0) (xs : List A) → All P xs → All Q xs → All (λ x. P x × Q x) xs
all_both P Q [] h i = tt
all_both P Q (x ∷ xs) h i = ((h.0, i.0), all_both P Q xs h.1 i.1)

-- a function that undoes another, element by element
pub map_back : {A B : Type 0} {P : A → Type 0} (f : A → B) (g : B → A) → ((x : A) → P x → g (f x) ≡ x) → (xs : List A) → All P xs → map g (map f xs) ≡ xs
map_back f g e [] h = refl
map_back f g e (x ∷ xs) h = rw (e x h.0, map_back f g e xs h.1)

module _ {A : Type 0} (p : A → Bool) where
  pub lead-all : (xs : List A) → All (λ x. p x ≡ true) xs → lead p xs ≡ length xs
  unfolding walk
  lead-all [] h = refl
  lead-all (x ∷ xs) h = walk_pass (λ s r. p r) (λ s r. s) xs h.0 ∙ ap suc (lead-all xs h.1)

  pub all-lead : (xs : List A) → lead p xs ≡ length xs → All (λ x. p x ≡ true) xs
  all-lead [] e = tt
  all-lead (x ∷ xs) e = (walk_head (λ s r. p r) (λ s r. s) (tt {0}) x xs e, all-lead xs (walk_tail (λ s r. p r) (λ s r. s) (tt {0}) x xs e))
