-- Laws of the pairs that a slice of words holds: one more, those that a test keeps, and the first of a word.
use Rattle.std.proofs.Common.{ℕ, zero, suc, ◌+◌, ◌*◌, ◌/◌, ◌≡◌, ◌<◌, ◌≤◌, List, [], ◌∷◌, ◌++◌, Bool, true, false, cond, filter, Option, Some}
use Rattle.std.proofs.Common.{None, min, take, drop, set, length, get_or, arith, refl, sym, ap, ◌∙◌, length-set, append-nil, add-zero, not, ◌&&◌, ◌||◌, eqb, unwrap_or}
use Rattle.std.proofs.Math.ListN.{drop_of_length-le}
use Rattle.std.proofs.lemmas.List.{take_min, take_more_set, take-set, drop_more, drop-set-lt, get_or-take, length-take-le}
use Rattle.std.proofs.lemmas.List.Elements.{filter_more}
use Rattle.std.proofs.lemmas.Grind.{drop_more_same}
use Rattle.general.proofs.Lists.{get_d_any}
use Rattle.procedure.specs.Lists.{found, value_or}
use Rattle.steps.specs.Note.{Known, values_without, copies_without}
use Rattle.note_entries.specs.Storage.{pairs, first_with}

two : (k : ℕ) → 2 * suc k ≡ suc (suc (2 * k))
two k = omega arith

three : (m : ℕ) → suc (suc m) + 1 ≡ suc (suc (m + 1))
three m = omega arith

module _ {W : Type 0} where
  pub pairs-length : (l : List W) → length (pairs l) ≡ length l / 2
  unfolding pairs
  pairs-length [] = refl
  pairs-length (x ∷ []) = refl
  pairs-length (x ∷ y ∷ l) = let e = pairs-length l in omega arith

  pub pairs-clipped : (l : List W) (n : ℕ) → take (min n (length l / 2)) (pairs l) ≡ take n (pairs l)
  pairs-clipped l n = rw (← pairs-length l) (take_min n (pairs l))

  pub pairs-set : (l : List W) (k : ℕ) (x y : W) → pairs (set (set l (2 * k) x) (2 * k + 1) y) ≡ set (pairs l) k (x, y)
  unfolding pairs
  pairs-set [] k x y = refl
  pairs-set (a ∷ []) zero x y = refl
  pairs-set (a ∷ []) (suc k) x y = rw (two k, three (2 * k))
  pairs-set (a ∷ b ∷ l) zero x y = refl
  pairs-set (a ∷ b ∷ l) (suc k) x y = rw (two k, three (2 * k)) (ap (λ (m : List (W × W)). (a, b) ∷ m) (pairs-set l k x y))

  -- the pair at a place
  pub pairs-at : (l : List W) (k : ℕ) (d : W) → k < length l / 2 → get_or (pairs l) k (d, d) ≡ (get_or l (2 * k) d, get_or l (2 * k + 1) d)
  unfolding pairs
  pairs-at [] k d h = absurd (omega arith)
  pairs-at (a ∷ []) k d h = absurd (omega arith)
  pairs-at (a ∷ b ∷ l) zero d h = refl
  pairs-at (a ∷ b ∷ l) (suc k) d h = rw (two k, three (2 * k)) (pairs-at l k d (omega arith))

  pub pair_at : (l : List W) (k : ℕ) (x y : W) → k < length l / 2 → x ≡ get_or l (2 * k) x → y ≡ get_or l (2 * k + 1) y → get_or (pairs l) k (x, x) ≡ (x, y)
  pair_at l k x y h p q = pairs-at l k x h ∙ rw (get_d_any l (2 * k + 1) x y (omega arith), ← p, ← q)

  -- a pair more
  pub push : (n : ℕ) (l : List W) (x y : W) → n < length l / 2
      → take (n + 1) (pairs (set (set l (2 * n) x) (2 * n + 1) y)) ≡ take n (pairs l) ++ (x, y) ∷ []
  push n l x y h = rw (pairs-set l n x y) (take_more_set (pairs l) n (x, y) (let e = pairs-length l in omega arith))

  -- k pairs are seen, of which z are kept at the front; those not seen yet stand as they stood
  pub record Packed (P : (W × W → Bool) → Type 0) (l₀ l : List W) (k z : ℕ) : Type 0 where
    pub packed : (p : W × W → Bool) → P p → take z (pairs l) ≡ filter p (take k (pairs l₀))
    pub left : drop k (pairs l) ≡ drop k (pairs l₀)
    pub behind : z ≤ k
    pub long : length l ≡ length l₀

  module _ (P : (W × W → Bool) → Type 0) (l₀ : List W) where
    module _ (l : List W) (k z : ℕ) (q : Packed P l₀ l k z) (x y : W) (h : k < length l / 2)
        (first : x ≡ get_or l (2 * k) x) (second : y ≡ get_or l (2 * k + 1) y) where
      abbrev l' : List W
      l' = set (set l (2 * z) x) (2 * z + 1) y

      seen : get_or (pairs l₀) k (x, x) ≡ (x, y)
      seen =
          let n = pairs-length l in
          let n₀ = pairs-length l₀ in
          let e = q.long in
          let here = drop_more (pairs l) k (x, x) (omega arith) in
          let there = drop_more (pairs l₀) k (x, x) (omega arith) in
          ap (λ (m : List (W × W)). get_or m 0 (x, x)) (sym there ∙ sym q.left ∙ here) ∙ pair_at l k x y h first second

      kept : (b : Bool) {t : ℕ} → t ≡ cond b 1 0
          → take (z + t) (pairs l') ≡ take z (pairs l) ++ cond b ((x, y) ∷ []) []
      kept true e = let b = q.behind in rw e (push z l x y (omega arith))
      kept false e = rw (e, add-zero z, pairs-set l z x y, append-nil (take z (pairs l))) (take-set (pairs l) z (x, y))

      pub packed-next : (b : Bool) {t : ℕ} → t ≡ cond b 1 0 → ((p : W × W → Bool) → P p → b ≡ p (x, y)) → Packed P l₀ l' (k + 1) (z + t)
      packed-next b {t} e told =
          let few : t ≤ 1 = elim b as (λ (b : Bool). t ≡ cond b 1 0 → t ≤ 1) [ true ↦ λ w. omega arith | false ↦ λ w. omega arith ] e in
          let m = q.behind in
          let n = pairs-length l in
          let n₀ = pairs-length l₀ in
          let same = q.long in
          record {
            packed = λ p w.
                kept b e
                ∙ ap (λ (m : List (W × W)). m ++ cond b ((x, y) ∷ []) []) (q.packed p w)
                ∙ sym (filter_more p (pairs l₀) k (x, x) (omega arith) ∙ rw (seen, ← (told p w)));
            left = rw (pairs-set l z x y) (drop-set-lt (k + 1) (pairs l) z (x, y) (omega arith)) ∙ drop_more_same (pairs l) (pairs l₀) k q.left;
            behind = omega arith;
            long = length-set (set l (2 * z) x) (2 * z + 1) y ∙ length-set l (2 * z) x ∙ q.long;
          }

  -- the first pair with a word, among the first n
  module _ (eq : W → W → Bool) (r : W) (l : List W) (n k : ℕ) (fit : n ≤ length l / 2) (h : k < n) (x : W) (first : x ≡ get_or l (2 * k) x) where
    first_cons : first_with eq r (drop k (take n (pairs l)))
        ≡ cond (eq x r) (Some (get_or l (2 * k + 1) x)) (first_with eq r (drop (k + 1) (take n (pairs l))))
    unfolding first_with
    first_cons =
        let e = pairs-length l in
        let long = length-take-le n (pairs l) (omega arith) in
        let more = drop_more (take n (pairs l)) k (x, x) (omega arith) in
        let at : get_or (take n (pairs l)) k (x, x) ≡ (x, get_or l (2 * k + 1) x) =
        get_or-take n (pairs l) k (x, x) h ∙ pairs-at l k x (omega arith) ∙ rw (← first) in
        ap (first_with eq r) more ∙ rw at

    pub first_here : (y : W) → y ≡ get_or l (2 * k + 1) y → eq x r ≡ true → first_with eq r (drop k (take n (pairs l))) ≡ Some y
    first_here y q e = first_cons ∙ rw (e, get_d_any l (2 * k + 1) x y (omega arith), ← q)

    pub first_later : eq x r ≡ false → first_with eq r (drop (k + 1) (take n (pairs l))) ≡ first_with eq r (drop k (take n (pairs l)))
    first_later e = sym (first_cons ∙ rw e)

  pub first_none : (eq : W → W → Bool) (r : W) (l : List W) (n k : ℕ) → n ≤ length l / 2 → n ≤ k → first_with eq r (drop k (take n (pairs l))) ≡ None
  unfolding first_with
  first_none eq r l n k fit h =
      let e = pairs-length l in
      ap (first_with eq r) (drop_of_length-le (take n (pairs l)) (let long = length-take-le n (pairs l) (omega arith) in omega arith))

-- values end with their register, copies with their source too
module _ (d : ℕ) where
  pub without-values : (xs : List (ℕ × ℕ)) → filter (λ x. not (eqb x.0 d)) xs ≡ values_without d xs
  unfolding values_without
  without-values [] = refl
  without-values (x ∷ xs) = by (eqb x.0 d) (without-values xs)
    where
      by : (b : Bool) → filter (λ x. not (eqb x.0 d)) xs ≡ values_without d xs
          → cond (not b) (x ∷ filter (λ x. not (eqb x.0 d)) xs) (filter (λ x. not (eqb x.0 d)) xs) ≡ cond b (values_without d xs) (x ∷ values_without d xs)
      by true e = e
      by false e = ap (λ (l : List (ℕ × ℕ)). x ∷ l) e

  abbrev pub stays : ℕ × ℕ → Bool
  stays x = not (eqb x.0 d) && not (eqb x.1 d)

  pub without-copies : (xs : List (ℕ × ℕ)) → filter stays xs ≡ copies_without d xs
  unfolding copies_without
  without-copies [] = refl
  without-copies (x ∷ xs) = by (eqb x.0 d) (eqb x.1 d) (without-copies xs)
    where
      by : (b c : Bool) → filter stays xs ≡ copies_without d xs
          → cond (not b && not c) (x ∷ filter stays xs) (filter stays xs) ≡ cond (b || c) (copies_without d xs) (x ∷ copies_without d xs)
      by true c e = e
      by false true e = e
      by false false e = ap (λ (l : List (ℕ × ℕ)). x ∷ l) e

-- the first of a number
pub first_found : (r : ℕ) (xs : List (ℕ × ℕ)) → first_with eqb r xs ≡ found r xs
unfolding first_with found
first_found r [] = refl
first_found r (x ∷ xs) = ap (cond (eqb x.0 r) (Some x.1)) (first_found r xs)

pub unwrapped : (d : ℕ) (o : Option ℕ) → unwrap_or o d ≡ value_or d o
unwrapped d None = refl
unwrapped d (Some v) = refl

-- both lists
pub known_eq : {v w c e : List (ℕ × ℕ)} → v ≡ w → c ≡ e → ◌≡◌ {A = Known} (record { values = v; copies = c }) (record { values = w; copies = e })
known_eq p q = rw (p, q)
