-- Laws of the targets as a table.
use Prim.Native.Nat.{ℕ, ◌≤◌, ◌<◌}
use native.Mathlib.Omega.{arith}
use mathlib.Core.Path.{◌≡◌, sym, subst, ◌∙◌}
use mathlib.Core.Bool.{true, false}
use mathlib.Core.List.{List, [], ◌∷◌, map}
use mathlib.Core.Logic.{◌⊎◌, inl, inr, ⊎_elim}
use lib.ListN.{length, get_or, length-map, get_or-map}
use Rattle.general.proofs.Lists.{get_d_any}
use Rattle.paths.specs.Paths.{is_in, Path, reached_from}
use Rattle.general.proofs.Booleans.{cases}
use Rattle.paths.proofs.Paths.{in_left, in-append, leads-inside, reached-is}
use Rattle.search.proofs.Laws.{in_one}
use Rattle.tidy.specs.declared.targets.Targets.{Targets}
use Rattle.tidy.specs.Work.Marks.{both, edges_in, nowhere, Pair, PairAt}

pub edges_length : (ts : List Targets) → length (edges_in ts) ≡ length ts
unfolding edges_in
edges_length ts = length-map ts both

pub edges_at : (d : Targets) (a : ℕ) (ts : List Targets) → a < length ts → get_or (edges_in ts) a [] ≡ both (get_or ts a d)
unfolding edges_in
edges_at d a ts h = get_d_any (map both ts) a [] (both d) (rw (length-map ts both) h) ∙ get_or-map both ts a d

-- the table has the targets below 160 of a block, and no others
none : (y s : ℕ) → y ≡ 160 → s < 160 → is_in s (y ∷ []) ≡ true → ⊥
none y s i h e = let j = in_one s y e in absurd (omega (arith, i, h, j))

pair-in : (es : List ℕ) (t : Targets) (s : ℕ) → Pair es t → s < 160 → is_in s (both t) ≡ true → is_in s es ≡ true
pair-in [] t s p h e = absurd (⊎_elim (none t.one.0 s p.0 h) (none t.two.0 s p.1 h) (in-append s (t.one.0 ∷ []) (t.two.0 ∷ []) e))
pair-in (x ∷ []) t s p h e = ⊎_elim (λ (i : is_in s (t.one.0 ∷ []) ≡ true). rw (← p.0) i)
    (λ (i : is_in s (t.two.0 ∷ []) ≡ true). absurd (none t.two.0 s p.1 h i)) (in-append s (t.one.0 ∷ []) (t.two.0 ∷ []) e)
pair-in (x ∷ y ∷ []) t s p h e = rw (← p.0, ← p.1) e
pair-in (x ∷ y ∷ z ∷ xs) t s p h e = absurd p

in_pair : (es : List ℕ) (t : Targets) (s : ℕ) → Pair es t → is_in s es ≡ true → is_in s (both t) ≡ true
in_pair [] t s p e = absurd (mathlib.Core.Bool.false≢true e)
in_pair (x ∷ []) t s p e = rw p.0 (in_left s (x ∷ []) (t.two.0 ∷ []) e)
in_pair (x ∷ y ∷ []) t s p e = rw (p.0, p.1) e
in_pair (x ∷ y ∷ z ∷ xs) t s p e = absurd p

-- so it has the same paths
module _ (es : List (List ℕ)) (ts : List Targets) (size : length ts ≡ 160) (few : length es ≤ 160) (each : (a : ℕ) → a < 160 → PairAt (get_or es a []) ts a) where
  there : (b : ℕ) → b < length es → (ss : List ℕ) (a : ℕ) → Path (edges_in ts) b a ss → Path es b a ss
  there b h [] a p = p
  there b h (s ∷ ss) a p =
      let n = edges_length ts in
      let i = leads-inside (edges_in ts) b (omega arith) (s ∷ ss) a p in
      let j = leads-inside (edges_in ts) b (omega arith) ss s p.1 in (
        pair-in (get_or es a []) (get_or ts a nowhere) s (each a (omega arith)) (omega arith)
            (subst (λ (l : List ℕ). is_in s l ≡ true) (edges_at nowhere a ts (omega arith)) p.0),
        there b h ss s p.1,
      )

  back : (b : ℕ) → b < length es → (ss : List ℕ) (a : ℕ) → Path es b a ss → Path (edges_in ts) b a ss
  back b h [] a p = p
  back b h (s ∷ ss) a p =
      let i = leads-inside es b h (s ∷ ss) a p in (
        subst (λ (l : List ℕ). is_in s l ≡ true) (sym (edges_at nowhere a ts (omega arith)))
            (in_pair (get_or es a []) (get_or ts a nowhere) s (each a (omega arith)) p.0),
        back b h ss s p.1,
      )

  pub table-leads : (a t : ℕ) → t < length es → get_or (reached_from (edges_in ts) a) t false ≡ get_or (reached_from es a) t false
  table-leads a t h = by (cases (get_or (reached_from (edges_in ts) a) t false)) (cases (get_or (reached_from es a) t false))
    where
      low : t < length (edges_in ts)
      low = let n = edges_length ts in omega arith

      to : get_or (reached_from (edges_in ts) a) t false ≡ true → get_or (reached_from es a) t false ≡ true
      to e = let p = (reached-is (edges_in ts) a t low).0 e in (reached-is es a t h).1 (p.0, there t h p.0 a p.1)

      fro : get_or (reached_from es a) t false ≡ true → get_or (reached_from (edges_in ts) a) t false ≡ true
      fro e = let p = (reached-is es a t h).0 e in (reached-is (edges_in ts) a t low).1 (p.0, back t h p.0 a p.1)

      by :
          (get_or (reached_from (edges_in ts) a) t false ≡ true) ⊎ (get_or (reached_from (edges_in ts) a) t false ≡ false)
          → (get_or (reached_from es a) t false ≡ true) ⊎ (get_or (reached_from es a) t false ≡ false)
          → get_or (reached_from (edges_in ts) a) t false ≡ get_or (reached_from es a) t false
      by (inl p) q = p ∙ sym (to p)
      by (inr p) (inl q) = fro q ∙ sym q
      by (inr p) (inr q) = p ∙ sym q
