-- Counting some registers in a column gives their totals, up to its most, and leaves the other columns.
use Prim.Native.Nat.{ℕ, ◌+◌, ◌*◌, ◌≤◌, ◌<◌, min}
use native.Mathlib.Omega.{arith}
use mathlib.Core.Path.{◌≡◌, refl, ◌∙◌}
use mathlib.Core.Bool.{Bool, true, false, cond}
use mathlib.Core.List.{List, [], ◌∷◌}
use borrow.Author.Tests.{ltb-true, ltb-false, eqb-true, eqb-false}
use lib.Dec.{ltb, eqb}
use lib.ListN.{length, get_or, length-set}
use lib.Seq.{get_or-set_same, get_or-set_other}
use Rattle.procedure.specs.Lists.{times}
use Rattle.count_facts.specs.Filling.{over, bumped, counted}

-- one more at a place
module _ (most : ℕ) (l : List ℕ) (at : ℕ) where
  bumped-length : length (bumped most l at) ≡ length l
  unfolding bumped
  bumped-length = length-set l at (get_or l at 0 + cond (ltb (get_or l at 0) most) 1 0)

  bumped-other : (k : ℕ) → (k ≡ at → ⊥) → get_or (bumped most l at) k 0 ≡ get_or l k 0
  unfolding bumped
  bumped-other k h = get_or-set_other l at k (get_or l at 0 + cond (ltb (get_or l at 0) most) 1 0) 0 h

  bumped-same : at < length l → get_or l at 0 ≤ most → get_or (bumped most l at) at 0 ≡ min most (get_or l at 0 + 1)
  unfolding bumped
  bumped-same h i = get_or-set_same l at (get_or l at 0 + cond (ltb (get_or l at 0) most) 1 0) 0 h ∙ by (ltb (get_or l at 0) most) refl
    where
      by : (b : Bool) → ltb (get_or l at 0) most ≡ b → get_or l at 0 + cond b 1 0 ≡ min most (get_or l at 0 + 1)
      by true t = let less = ltb-true (get_or l at 0) most t in omega arith
      by false t = let full = ltb-false (get_or l at 0) most t in omega arith

-- one column
module _ (j most : ℕ) where
  pub over-length : (t rs : List ℕ) → length (over (counted j most) t rs) ≡ length t
  unfolding over
  over-length t [] = refl
  over-length t (x ∷ rs) = over-length (counted j most t x) rs ∙ bumped-length most t (5 * x + j)

  pub over-other : (t rs : List ℕ) (r i : ℕ) → i < 5 → j < 5 → (i ≡ j → ⊥) → get_or (over (counted j most) t rs) (5 * r + i) 0 ≡ get_or t (5 * r + i) 0
  unfolding over
  over-other t [] r i h m n = refl
  over-other t (x ∷ rs) r i h m n =
      over-other (counted j most t x) rs r i h m n
      ∙ bumped-other most t (5 * x + j) (5 * r + i) (λ e. n (omega arith))

  pub over-same : (t rs : List ℕ) (r : ℕ) → 5 * r + j < length t → get_or t (5 * r + j) 0 ≤ most →
      get_or (over (counted j most) t rs) (5 * r + j) 0 ≡ min most (get_or t (5 * r + j) 0 + times r rs)
  unfolding over times
  over-same t [] r h m = omega arith
  over-same t (x ∷ rs) r h m = by (eqb r x) refl (over-same (counted j most t x) rs r (rw (bumped-length most t (5 * x + j)) h))
    where
      by : (b : Bool) → eqb r x ≡ b →
          (get_or (counted j most t x) (5 * r + j) 0 ≤ most → get_or (over (counted j most) (counted j most t x) rs) (5 * r + j) 0
          ≡ min most (get_or (counted j most t x) (5 * r + j) 0 + times r rs)) →
          get_or (over (counted j most) (counted j most t x) rs) (5 * r + j) 0 ≡ min most (get_or t (5 * r + j) 0 + (cond b 1 0 + times r rs))
      by true e ih =
          let same : 5 * x + j ≡ 5 * r + j = (let i = eqb-true r x e in omega arith) in
          let one : get_or (counted j most t x) (5 * r + j) 0 ≡ min most (get_or t (5 * r + j) 0 + 1) = rw same (bumped-same most t (5 * r + j) h m) in
          let rest = ih (omega arith) in
          omega arith
      by false e ih =
          let i = eqb-false r x e in
          let one = bumped-other most t (5 * x + j) (5 * r + j) (λ q. i (omega arith)) in
          let rest = ih (omega arith) in
          omega arith
