-- Small facts: tests, lists of numbers, registers.
use Prim.Native.Nat.{ℕ}
use mathlib.Core.Path.{◌≡◌, refl, sym, ap, ◌∙◌}
use mathlib.Core.Logic.{◌⊎◌, inl, inr}
use mathlib.Core.List.{List, [], ◌∷◌, ◌++◌, map}
use Rattle.std.proofs.Common.{Option, None, Some}
use mathlib.Core.Bool.{Bool, true, false, ◌||◌}
use native.Mathlib.Omega.{arith}
use native.Mathlib.Decide.{ℕ_discrete}
use lib.ListN.{get_or, drop}
use borrow.Author.Clash.{clash}
use borrow.Author.Tests.{eq-eqb, ne_eqb}
use Rattle.procedure.specs.Lists.{any_of}
use Rattle.machine.specs.Machine.{Regs, upd, stores}
use Rattle.demand.specs.Setting.{In}

pub clash_some : {A : Type 0} {o : Option ℕ} {v : ℕ} → o ≡ Some v → o ≡ None → A
clash_some e f = let z : ◌≡◌ {A = ℕ} 0 1 = cc in absurd (omega arith)

-- a number stands in a list, or doesn't
pub dec_in : (r : ℕ) (xs : List ℕ) → Dec (In r xs)
dec_in r [] = no (λ m. m)
dec_in r (x ∷ xs) = by (ℕ_discrete r x) (dec_in r xs)
  where
    by : Dec (r ≡ x) → Dec (In r xs) → Dec ((r ≡ x) ⊎ In r xs)
    by (yes e) d = yes (inl e)
    by (no n) (yes m) = yes (inr m)
    by (no n) (no k) = no (λ z. elim z [ inl e ↦ n e | inr m ↦ k m ])

pub in_left : (r : ℕ) (xs ys : List ℕ) → In r xs → In r (xs ++ ys)
in_left r [] ys m = absurd m
in_left r (x ∷ xs) ys (inl e) = inl e
in_left r (x ∷ xs) ys (inr m) = inr (in_left r xs ys m)

pub in_right : (r : ℕ) (xs ys : List ℕ) → In r ys → In r (xs ++ ys)
in_right r [] ys m = m
in_right r (x ∷ xs) ys m = inr (in_right r xs ys m)

pub in_split : (r : ℕ) (xs ys : List ℕ) → In r (xs ++ ys) → In r xs ⊎ In r ys
in_split r [] ys m = inr m
in_split r (x ∷ xs) ys (inl e) = inl (inl e)
in_split r (x ∷ xs) ys (inr m) = by (in_split r xs ys m)
  where
    by : In r xs ⊎ In r ys → In r (x ∷ xs) ⊎ In r ys
    by (inl a) = inl (inr a)
    by (inr b) = inr b

-- of a list mapped
pub in_map : (f : ℕ → ℕ) (r : ℕ) (xs : List ℕ) → In r (map f xs) → (x : ℕ) × (r ≡ f x) × In x xs
in_map f r [] m = absurd m
in_map f r (x ∷ xs) (inl e) = (x, e, inl refl)
in_map f r (x ∷ xs) (inr m) = let t = in_map f r xs m in (t.0, t.1, inr t.2)

pub in_mapped : (f : ℕ → ℕ) (r : ℕ) (xs : List ℕ) → In r xs → In (f r) (map f xs)
in_mapped f r [] m = absurd m
in_mapped f r (x ∷ xs) (inl e) = inl (ap f e)
in_mapped f r (x ∷ xs) (inr m) = inr (in_mapped f r xs m)

pub any_in : (p : ℕ → Bool) (xs : List ℕ) → any_of p xs ≡ true → (r : ℕ) × (p r ≡ true) × In r xs
unfolding any_of
any_in p [] e = clash _ e refl
any_in p (x ∷ xs) e = by (p x) refl e (any_in p xs)
  where
    by : (b : Bool) → p x ≡ b → b || any_of p xs ≡ true → (any_of p xs ≡ true → (r : ℕ) × (p r ≡ true) × In r xs)
        → (r : ℕ) × (p r ≡ true) × In r (x ∷ xs)
    by true q e ih = (x, q, inl refl)
    by false q e ih = let t = ih e in (t.0, t.1, inr t.2)

-- values of registers that agree
pub map_same : (f g : Regs) (rs : List ℕ) → ((r : ℕ) → In r rs → f r ≡ g r) → map f rs ≡ map g rs
map_same f g [] a = refl
map_same f g (r ∷ rs) a = cc (a r (inl refl), map_same f g rs (λ x m. a x (inr m)))

pub upd_same : (w v : ℕ) (g : Regs) (r : ℕ) → r ≡ w → upd w v g r ≡ v
upd_same w v g r e = rw (eq-eqb r w e)

pub upd_other : (w v : ℕ) (g : Regs) (r : ℕ) → ¬ (r ≡ w) → upd w v g r ≡ g r
upd_other w v g r ne = rw (ne_eqb r w ne)

pub stores-other : (rs vs : List ℕ) (g : Regs) (r : ℕ) → ¬ (In r rs) → stores rs vs g r ≡ g r
stores-other [] vs g r n = refl
stores-other (w ∷ rs) vs g r n = stores-other rs (drop 1 vs) _ r (λ m. n (inr m)) ∙ upd_other w (get_or vs 0 0) g r (λ e. n (inl e))

-- stored values agree where the registers agreed or are written
pub stores_agree : (rs vs : List ℕ) (g g' : Regs) (r : ℕ) → (¬ (In r rs) → g r ≡ g' r) → stores rs vs g r ≡ stores rs vs g' r
stores_agree [] vs g g' r a = a (λ m. m)
stores_agree (w ∷ rs) vs g g' r a = stores_agree rs (drop 1 vs) _ _ r (λ n. by (ℕ_discrete r w) n)
  where
    by : Dec (r ≡ w) → ¬ (In r rs) → upd w (get_or vs 0 0) g r ≡ upd w (get_or vs 0 0) g' r
    by (yes e) n = upd_same w (get_or vs 0 0) g r e ∙ sym (upd_same w (get_or vs 0 0) g' r e)
    by (no ne) n =
        upd_other w (get_or vs 0 0) g r ne
        ∙ a (λ m. elim m [ inl e ↦ ne e | inr k ↦ n k ])
        ∙ sym (upd_other w (get_or vs 0 0) g' r ne)
