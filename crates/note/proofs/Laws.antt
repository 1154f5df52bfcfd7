-- Laws of kinds.
use Rattle.std.proofs.Common.{ℕ, ◌≡◌, List, Bool, true, false, ◌&&◌, ◌||◌, Option, None, Some, eqb, slice_get, unwrap_or, refl, sym}
use Rattle.std.specs.Option.{option_eq}
use Rattle.std.proofs.lemmas.Option.{unwrap_or-slice_get}
use borrow.Author.Tests.{true-eqb}
use mathlib.Core.Bool.{and-false}
use Rattle.steps.specs.Note.{alike}
use Rattle.facts.specs.Storage.{kinds_in, facts_in}

-- 5 is the kind of no register
five : (v : ℕ) → (eqb v 5 && (eqb v 0 || eqb v 2)) ≡ false
five v = by (eqb v 5) refl
  where
    by : (b : Bool) → eqb v 5 ≡ b → (b && (eqb v 0 || eqb v 2)) ≡ false
    by true e = rw (true-eqb v 5 (sym e))
    by false e = refl

kinds : (o p : Option ℕ)
    → (eqb (unwrap_or o 5) (unwrap_or p 5) && (eqb (unwrap_or o 5) 0 || eqb (unwrap_or o 5) 2))
    ≡ (option_eq eqb o p && (option_eq eqb o (Some 0) || option_eq eqb o (Some 2)))
kinds None None = refl
kinds None (Some w) = and-false (eqb 5 w)
kinds (Some v) None = five v
kinds (Some v) (Some w) = refl

-- the kinds of two registers
module _ (t : List ℕ) (d s : ℕ) where
  pub alike_by : {o p : Option ℕ} → o ≡ slice_get (kinds_in t) d → p ≡ slice_get (kinds_in t) s
      → alike (facts_in t None 0) d s ≡ (option_eq eqb o p && (option_eq eqb o (Some 0) || option_eq eqb o (Some 2)))
  alike_by e f = rw (e, f, ← unwrap_or-slice_get (kinds_in t) d 5, ← unwrap_or-slice_get (kinds_in t) s 5) (kinds (slice_get (kinds_in t) d) (slice_get (kinds_in t) s))
