-- Laws of the entries that rows are: of the rows that a test keeps, of one more row, and the first of a register.
use Rattle.std.proofs.Common.{ℕ, ◌+◌, ◌<◌, ◌≤◌, ◌≡◌, List, [], ◌∷◌, ◌++◌, length, get_or, take, drop, filter, Bool, true, false, cond, not, ◌&&◌, eqb}
use Rattle.std.proofs.Common.{Option, None, Some, option_map, is_some, append-nil, arith, refl, sym, ap, ◌∙◌}
use mathlib.Core.Bool.{and-true}
use Rattle.std.proofs.Math.ListN.{drop_of_length-le}
use Rattle.std.proofs.lemmas.List.{drop_more, get_or-take, length-take-le}
use Rattle.steps.specs.Slice as s
use Rattle.steps.specs.Slice.{Lengths, no_lengths, entry, some, forget, with_made, with_measured, with_known, bounds_of}
use Rattle.inst.specs.declared.Reg.{Reg}
use Rattle.lengths.specs.declared.What.{What}
use Rattle.lengths.specs.declared.What.TheVariants.{Made, Measured, Known}
use Rattle.lengths.specs.declared.Bounds.{Bounds}
use Rattle.lengths.specs.declared.Row.{Row}
use Rattle.lengths.specs.Storage.{same, bounds_in, bounds_at, row_of, entries, lengths_of, stays}

module _ {A : Type 0} (w : What) (f : Bounds → A) where
  abbrev entry_of : Row → ℕ × A
  entry_of x = (x.key.0, f (bounds_at x))

  pub entries-filter : (p : Row → Bool) (q : ℕ × A → Bool) → ((x : Row) → same x.what w ≡ true → p x ≡ q (x.key.0, f (bounds_at x)))
      → (xs : List Row) → entries w f (filter p xs) ≡ filter q (entries w f xs)
  unfolding entries
  entries-filter p q h [] = refl
  entries-filter p q h (x ∷ xs) = go (same x.what w) refl (p x) refl (h x) (entries-filter p q h xs)
    where
      go : (s : Bool) → same x.what w ≡ s → (b : Bool) → p x ≡ b → (same x.what w ≡ true → p x ≡ q (entry_of x))
          → entries w f (filter p xs) ≡ filter q (entries w f xs)
          → entries w f (filter p (x ∷ xs)) ≡ filter q (entries w f (x ∷ xs))
      go true e true d t i = let c = sym (t e) ∙ d in rw (d, e, c, i)
      go true e false d t i = let c = sym (t e) ∙ d in rw (d, e, c, i)
      go false e true d t i = rw (d, e, i)
      go false e false d t i = rw (d, e, i)

  pub entries-push : (xs : List Row) (x : Row) → entries w f (xs ++ x ∷ []) ≡ entries w f xs ++ cond (same x.what w) ((x.key.0, f (bounds_at x)) ∷ []) []
  unfolding entries
  entries-push [] x = refl
  entries-push (y ∷ xs) x = go (same y.what w) (entries-push xs x)
    where
      go : (s : Bool) → entries w f (xs ++ x ∷ []) ≡ entries w f xs ++ cond (same x.what w) (entry_of x ∷ []) []
          → cond s (entry_of y ∷ entries w f (xs ++ x ∷ [])) (entries w f (xs ++ x ∷ []))
          ≡ cond s (entry_of y ∷ entries w f xs) (entries w f xs) ++ cond (same x.what w) (entry_of x ∷ []) []
      go true i = ap (λ (l : List (ℕ × A)). entry_of y ∷ l) i
      go false i = i

  -- what the first row of a register says
  pub entry_cons : (r : ℕ) (x : Row) (xs : List Row)
      → entry r (entries w f (x ∷ xs)) ≡ cond (same x.what w && eqb x.key.0 r) (Some (f (bounds_at x))) (entry r (entries w f xs))
  unfolding entries entry
  entry_cons r x xs = go (same x.what w)
    where
      go : (s : Bool) → entry r (cond s (entry_of x ∷ entries w f xs) (entries w f xs))
          ≡ cond (s && eqb x.key.0 r) (Some (f (bounds_at x))) (entry r (entries w f xs))
      go false = refl
      go true = refl

  pub entry_map : (r : ℕ) (xs : List Row) → entry r (entries w f xs) ≡ option_map f (entry r (entries w (λ b. b) xs))
  unfolding entries entry
  entry_map r [] = refl
  entry_map r (x ∷ xs) = go (same x.what w) (entry_map r xs)
    where
      go : (s : Bool) → entry r (entries w f xs) ≡ option_map f (entry r (entries w (λ b. b) xs))
          → entry r (cond s (entry_of x ∷ entries w f xs) (entries w f xs))
          ≡ option_map f (entry r (cond s ((x.key.0, bounds_at x) ∷ entries w (λ b. b) xs) (entries w (λ b. b) xs)))
      go false i = i
      go true i = here (eqb x.key.0 r)
        where
          here : (b : Bool) → cond b (Some (f (bounds_at x))) (entry r (entries w f xs))
              ≡ option_map f (cond b (Some (bounds_at x)) (entry r (entries w (λ b. b) xs)))
          here true = refl
          here false = i

-- the first row of a register among the first n, from row k on
module _ (w : What) (r n : ℕ) (rows : List Row) (fit : n ≤ length rows) (k : ℕ) where
  abbrev rest : ℕ → Option Bounds
  rest k = entry r (entries w (λ b. b) (drop k (take n rows)))

  at_lem : k < n → (d : Row) → rest k
      ≡ cond (same (get_or rows k d).what w && eqb (get_or rows k d).key.0 r) (Some (bounds_at (get_or rows k d))) (rest (k + 1))
  at_lem h d =
      let long = length-take-le n rows fit in
      let here = drop_more (take n rows) k d (omega arith) in
      rw (here, get_or-take n rows k d h) (entry_cons w (λ b. b) r (get_or rows k d) (drop (k + 1) (take n rows)))

  pub found_here : k < n → (d : Row)
      → (same (get_or rows k d).what w && eqb (get_or rows k d).key.0 r) ≡ true → Some (bounds_at (get_or rows k d)) ≡ rest k
  found_here h d e = sym (at_lem h d ∙ rw e)

  pub found_later : k < n → (d : Row) → (same (get_or rows k d).what w && eqb (get_or rows k d).key.0 r) ≡ false → rest (k + 1) ≡ rest k
  found_later h d e = sym (at_lem h d ∙ rw e)

  pub found_none : n ≤ k → None ≡ rest k
  unfolding entries entry
  found_none h =
      let long = length-take-le n rows fit in
      let e : drop k (take n rows) ≡ [] = drop_of_length-le (take n rows) (omega arith) in
      rw e

filter_all : {A : Type 0} (xs : List A) → filter (λ x. true) xs ≡ xs
filter_all [] = refl
filter_all {A} (x ∷ xs) = ap (λ (l : List A). x ∷ l) (filter_all xs)

eq_all : {k l : Lengths} → k.made ≡ l.made → k.measured ≡ l.measured → k.known ≡ l.known → k ≡ l
eq_all p q r = rw (p, q, r)

alone : (v w : What) → same v w ≡ true → v ≡ w
alone Made Made e = refl
alone Made Measured e = cc
alone Made Known e = cc
alone Measured Made e = cc
alone Measured Measured e = refl
alone Measured Known e = cc
alone Known Made e = cc
alone Known Measured e = cc
alone Known Known e = refl

-- with one row more
pub pushed : (xs : List Row) (x : Row) → lengths_of (xs ++ x ∷ []) ≡ record {
  made = (lengths_of xs).made ++ cond (same x.what Made) ((x.key.0, bounds_in (bounds_at x)) ∷ []) [];
  measured = (lengths_of xs).measured ++ cond (same x.what Measured) ((x.key.0, x.left.0) ∷ []) [];
  known = (lengths_of xs).known ++ cond (same x.what Known) ((x.key.0, bounds_in (bounds_at x)) ∷ []) [];
}
pushed xs x = eq_all (entries-push Made bounds_in xs x) (entries-push Measured (λ b. b.left.0) xs x) (entries-push Known bounds_in xs x)

some_map : {A B : Type 0} (f : A → B) (o : Option A) → is_some o ≡ some (option_map f o)
some_map f None = refl
some_map f (Some x) = refl

module _ (xs : List Row) where
  -- after a write of d
  pub forgotten : (d : ℕ) → lengths_of (filter (stays d) xs) ≡ forget d (lengths_of xs)
  forgotten d =
      let p = stays d in
      let q : ℕ × s.Bounds → Bool = λ x. not (eqb x.0 d) && not (eqb x.1.left d) && not (eqb x.1.right d) in
      eq_all
      (entries-filter Made bounds_in p q (λ x e. rw (alone x.what Made e)) xs)
      (entries-filter Measured (λ b. b.left.0) p (λ x. not (eqb x.0 d) && not (eqb x.1 d)) (λ x e. rw (alone x.what Measured e) (and-true _)) xs)
      (entries-filter Known bounds_in p q (λ x e. rw (alone x.what Known e)) xs)

  -- with the bounds in a register's block of memory, in place of earlier ones
  pub remade : (at : Reg) (b : Bounds)
      → lengths_of (filter (λ x. not (same x.what Made && eqb x.key.0 at.0)) xs ++ row_of Made at b ∷ [])
      ≡ with_made at.0 (bounds_in b) (lengths_of xs)
  remade at b =
      let p : Row → Bool = λ x. not (same x.what Made && eqb x.key.0 at.0) in
      let made = entries-filter Made bounds_in p (λ x. not (eqb x.0 at.0)) (λ x e. rw e) xs in
      let measured = entries-filter Measured (λ b. b.left.0) p (λ x. true) (λ x e. rw (alone x.what Measured e)) xs ∙ filter_all _ in
      let known = entries-filter Known bounds_in p (λ x. true) (λ x e. rw (alone x.what Known e)) xs ∙ filter_all _ in
      pushed (filter p xs) _
      ∙ eq_all
      (ap (λ (l : List (ℕ × s.Bounds)). l ++ (at.0, bounds_in b) ∷ []) made)
      (append-nil _ ∙ measured)
      (append-nil _ ∙ known)

  pub made_is : (at : ℕ) → is_some (entry at (entries Made (λ b. b) xs)) ≡ some (entry at (lengths_of xs).made)
  made_is at = some_map bounds_in (entry at (entries Made (λ b. b) xs)) ∙ ap some (sym (entry_map Made bounds_in at xs))

  pub bounds_known : (a : ℕ) {b : Bounds} → Some b ≡ entry a (entries Known (λ b. b) xs) → Some (bounds_in b) ≡ bounds_of a (lengths_of xs)
  bounds_known a e = rw (entry_map Known bounds_in a xs, ← e)

  pub bounds_none : (a : ℕ) → None ≡ entry a (entries Known (λ b. b) xs) → None ≡ entry a (entries Measured (λ b. b) xs)
      → None ≡ bounds_of a (lengths_of xs)
  bounds_none a e m = rw (entry_map Known bounds_in a xs, ← e, entry_map Measured (λ b. b.left.0) a xs, ← m)

  pub bounds_made : (a : ℕ) {b : Bounds} {o : Option Bounds}
      → None ≡ entry a (entries Known (λ b. b) xs) → Some b ≡ entry a (entries Measured (λ b. b) xs)
      → o ≡ entry b.left.0 (entries Made (λ b. b) xs) → option_map bounds_in o ≡ bounds_of a (lengths_of xs)
  bounds_made a {b} e m y =
      rw (entry_map Known bounds_in a xs, ← e, entry_map Measured (λ b. b.left.0) a xs, ← m, entry_map Made bounds_in b.left.0 xs, ← y)
