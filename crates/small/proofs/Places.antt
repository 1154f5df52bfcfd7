-- Laws of a search over the places of a list: it is the search along the list.
use Prim.Native.Nat.{ℕ, zero, suc, ◌+◌, ◌<◌}
use native.Mathlib.Numerals.{add-one}
use native.Mathlib.Omega.{arith}
use mathlib.Core.Path.{◌≡◌, refl, sym, ap}
use mathlib.Core.Bool.{Bool, false, ◌&&◌, ◌||◌}
use mathlib.Core.List.{List, [], ◌∷◌}
use lib.ListN.{length, get_or}
use Rattle.std.specs.List.{list_all, list_any, range_with_len}
use Rattle.std.proofs.Math.Bool.{and_assoc}
use Rattle.inst.specs.declared.Code.{Code}
use Rattle.ends.specs.Ends.{code_at}
use Rattle.steps.specs.Small.{dupable, small_end, copyable}
use Rattle.procedure.specs.Lists.{any_of}

-- G tests the elements from some place on, each with its place; f tests a place
module _ {A : Type 0} (d : A) (G : ℕ → List A → Bool) (q : ℕ → A → Bool) (f : ℕ → Bool) where
  pub any_along : ((k : ℕ) → G k [] ≡ false) → ((k : ℕ) (x : A) (l : List A) → G k (x ∷ l) ≡ (q k x || G (suc k) l))
      → (l : List A) (a : ℕ) → ((k j : ℕ) → j < length l → k ≡ a + j → f k ≡ q k (get_or l j d))
      → list_any f (range_with_len a (length l)) ≡ G a l
  any_along none more [] a h = sym (none a)
  any_along none more (x ∷ l) a h =
      rw (
        h a 0 (omega arith) (omega arith),
        any_along none more l (a + 1) (λ k j i e. h k (suc j) (omega arith) (omega arith)),
        add-one a,
      )
      (sym (more a x l))

pub any_places : {A : Type 0} (d : A) (p : A → Bool) (l : List A) → list_any (λ k. p (get_or l k d)) (range_with_len 0 (length l)) ≡ any_of p l
unfolding any_of
any_places d p l =
    any_along d (λ k m. any_of p m) (λ k x. p x) (λ k. p (get_or l k d)) (λ k. refl) (λ k x m. refl) l 0
    (λ k j h e. ap (λ (n : ℕ). p (get_or l n d)) (let g : k ≡ j = omega arith in g))

-- all but the last are copied, and the last is a small block's end
copyable_along : (f : ℕ → Bool) (c : List Code) (a n : ℕ) → length c ≡ suc n → ((k j : ℕ) → j < n → k ≡ a + j → f k ≡ dupable (code_at c j).inst)
    → (list_all f (range_with_len a n) && small_end (code_at c n).inst) ≡ copyable c
unfolding copyable
copyable_along f [] a n e h = absurd (omega arith)
copyable_along f (x ∷ []) a zero e h = refl
copyable_along f (x ∷ []) a (suc n) e h = absurd (omega arith)
copyable_along f (x ∷ y ∷ c) a zero e h = absurd (omega arith)
copyable_along f (x ∷ y ∷ c) a (suc n) e h =
    rw (h a 0 (omega arith) (omega arith), and_assoc)
    (ap (λ b. dupable x.inst && b) (copyable_along f (y ∷ c) (a + 1) n (omega arith) (λ k j i g. h k (suc j) (omega arith) (omega arith))))

pub copyable_places : (c : List Code) {n : ℕ} → length c ≡ suc n
    → (list_all (λ k. dupable (code_at c k).inst) (range_with_len 0 n) && small_end (code_at c n).inst) ≡ copyable c
copyable_places c {n} e =
    copyable_along (λ k. dupable (code_at c k).inst) c 0 n e (λ k j h g. ap (λ (m : ℕ). dupable (code_at c m).inst) (let i : k ≡ j = omega arith in i))
