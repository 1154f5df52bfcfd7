-- The marks of Emit: block 0 is marked, and so is what a marked block leads to. A block that there isn't counts as marked.
use Prim.Native.Nat.{ℕ, zero, suc, ◌≤◌, ◌<◌}
use mathlib.Core.Path.{◌≡◌, refl, sym, subst, ◌∙◌}
use mathlib.Core.Logic.{inl, inr}
use mathlib.Core.List.{List, [], ◌∷◌}
use mathlib.Core.Bool.{Bool, true, false}
use native.Mathlib.Omega.{arith}
use native.Mathlib.Decide.{dec_lt}
use lib.ListN.{length, get_or, get_or-map}
use Rattle.inst.specs.declared.Code.{Code}
use Rattle.procedure.specs.Procedure.{Table}
use Rattle.ends.specs.Ends.{end_of}
use Rattle.paths.specs.Paths.{is_in, Leads, reached_from}
use Rattle.paths.proofs.Paths.{in_here, in-more, leads_on, length-reached, reached-is}
use Rattle.steps.specs.Emit.{leads, edges_of, reached}
use Rattle.demand.specs.Setting.{In}

in-is_in : (s : ℕ) (xs : List ℕ) → In s xs → is_in s xs ≡ true
in-is_in s [] k = absurd k
in-is_in s (x ∷ xs) (inl e) = subst (λ x. is_in s (x ∷ xs) ≡ true) e (in_here s xs)
in-is_in s (x ∷ xs) (inr k) = in-more s x xs (in-is_in s xs k)

-- marks with one default or the other
past : (ms : List Bool) (b : ℕ) → length ms ≤ b → get_or ms b true ≡ true
past [] b l = refl
past (m ∷ ms) zero l = absurd (omega arith)
past (m ∷ ms) (suc b) l = past ms b (omega arith)

within : (ms : List Bool) (b : ℕ) → b < length ms → get_or ms b true ≡ get_or ms b false
within [] b l = absurd (omega arith)
within (m ∷ ms) zero l = refl
within (m ∷ ms) (suc b) l = within ms b (omega arith)

no_edges : (es : List (List ℕ)) (b : ℕ) → length es ≤ b → get_or es b [] ≡ []
no_edges [] b l = refl
no_edges (e ∷ es) zero l = absurd (omega arith)
no_edges (e ∷ es) (suc b) l = no_edges es b (omega arith)

module _ (tables : List Table) (P : List (List Code)) where
  abbrev pub Marked : ℕ → Type 0
  Marked b = get_or (reached tables P) b true ≡ true

  abbrev pub leads_from : ℕ → List ℕ
  leads_from b = leads tables (end_of (get_or P b []))

  abbrev es : List (List ℕ)
  es = edges_of tables P

  pub edges_at : (b : ℕ) → get_or es b [] ≡ leads_from b
  unfolding end_of
  edges_at b = get_or-map (λ c. leads tables (end_of c)) P b []

  led : (b : ℕ) → Leads es 0 b → Marked b
  unfolding reached
  led b p = by (dec_lt b (length es))
    where
      by : Dec (b < length es) → Marked b
      by (yes l) = within (reached_from es 0) b (rw (length-reached es 0) l) ∙ (reached-is es 0 b l).1 p
      by (no n) = past (reached_from es 0) b (omega (arith, length-reached es 0))

  pub reached-zero : Marked 0
  reached-zero = led 0 ([], refl)

  pub reached_closed : (b t : ℕ) → Marked b → In t (leads_from b) → Marked t
  unfolding reached
  reached_closed b t m i = by (dec_lt b (length es))
    where
      j : In t (get_or es b [])
      j = subst (In t) (sym (edges_at b)) i

      by : Dec (b < length es) → Marked t
      by (yes l) =
          led t
          (leads_on es 0 b t ((reached-is es 0 b l).0 (sym (within (reached_from es 0) b (rw (length-reached es 0) l)) ∙ m)) (in-is_in t (get_or es b []) j))
      by (no n) = absurd (subst (In t) (no_edges es b (omega arith)) j)
