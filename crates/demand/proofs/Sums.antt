-- Counts of all code, block by block.
use Prim.Native.Nat.{ℕ, zero, suc, ◌+◌, ◌≤◌}
use mathlib.Core.Path.{◌≡◌, refl, ap}
use mathlib.Core.List.{List, [], ◌∷◌, ◌++◌}
use native.Mathlib.Omega.{arith}
use lib.ListN.{get_or, set}
use Rattle.inst.specs.declared.Code.{Code}
use Rattle.procedure.specs.Lists.{joined}
use Rattle.procedure.specs.Counts.{writes_in, use_count}
use Rattle.demand.specs.Setting.{Each}
use Rattle.demand.proofs.Codes.{each_append, each_left, each_right}
use Rattle.demand.proofs.Counted.{writes-append, uses-append}

-- of the instructions of all blocks
pub each-joined : (F : Code → Type 0) (P : List (List Code)) → ((b : ℕ) → Each F (get_or P b [])) → Each F (joined P)
each-joined F [] p = tt
each-joined F (c ∷ P) p = each_append F c (joined P) (p 0) (each-joined F P (λ b. p (suc b)))

pub joined-each : (F : Code → Type 0) (P : List (List Code)) → Each F (joined P) → (b : ℕ) → Each F (get_or P b [])
joined-each F [] p b = tt
joined-each F (c ∷ P) p zero = each_left F c (joined P) p
joined-each F (c ∷ P) p (suc b) = joined-each F P (each_right F c (joined P) p) b

-- a count that adds up over code
pub record Count : Type 0 where
  pub of : List Code → ℕ
  pub nil : of [] ≡ 0
  pub add : (c e : List Code) → of (c ++ e) ≡ of c + of e

pub writes-nil : (d : ℕ) → writes_in [] d ≡ 0
unfolding writes_in
writes-nil d = refl

pub uses-nil : (ops : List ℕ) (d : ℕ) → use_count ops [] d ≡ 0
unfolding use_count
uses-nil ops d = refl

abbrev pub writes-count : ℕ → Count
writes-count d = record { of = λ c. writes_in c d; nil = writes-nil d; add = λ c e. writes-append c e d }

abbrev pub uses-count : List ℕ → ℕ → Count
uses-count ops d = record { of = λ c. use_count ops c d; nil = uses-nil ops d; add = λ c e. uses-append ops d c e }

module _ (n : Count) where
  pub sum_one : (P : List (List Code)) (b : ℕ) → n.of (get_or P b []) ≤ n.of (joined P)
  sum_one [] b = omega (arith, n.nil)
  sum_one (c ∷ P) zero = omega (arith, n.add c (joined P))
  sum_one (c ∷ P) (suc b) = omega (arith, n.add c (joined P), sum_one P b)

  -- two blocks
  pub sum_two : (P : List (List Code)) (a b : ℕ) → ¬ (a ≡ b) → n.of (get_or P a []) + n.of (get_or P b []) ≤ n.of (joined P)
  sum_two [] a b k = omega (arith, n.nil)
  sum_two (c ∷ P) zero zero k = absurd (k refl)
  sum_two (c ∷ P) zero (suc b) k = omega (arith, n.add c (joined P), sum_one P b)
  sum_two (c ∷ P) (suc a) zero k = omega (arith, n.add c (joined P), sum_one P a)
  sum_two (c ∷ P) (suc a) (suc b) k = omega (arith, n.add c (joined P), sum_two P a b (λ q. k (ap suc q)))

  sum_none : (P : List (List Code)) → ((b : ℕ) → n.of (get_or P b []) ≡ 0) → n.of (joined P) ≡ 0
  sum_none [] k = n.nil
  sum_none (c ∷ P) k = omega (arith, n.add c (joined P), k 0, sum_none P (λ b. k (suc b)))

  -- all in one block
  pub sum_only : (P : List (List Code)) (a : ℕ) → ((b : ℕ) → ¬ (b ≡ a) → n.of (get_or P b []) ≡ 0) → n.of (joined P) ≡ n.of (get_or P a [])
  sum_only [] a k = refl
  sum_only (c ∷ P) zero k = omega (arith, n.add c (joined P), sum_none P (λ b. k (suc b) (λ q. omega arith)))
  sum_only (c ∷ P) (suc a) k = omega (arith, n.add c (joined P), k 0 (λ q. omega arith), sum_only P a (λ b m. k (suc b) (λ q. m (omega arith))))

  -- one block set, to code with the same count
  pub sum_set : (P : List (List Code)) (a : ℕ) (c : List Code) → n.of c ≡ n.of (get_or P a []) → n.of (joined (set P a c)) ≡ n.of (joined P)
  sum_set [] a c q = refl
  sum_set (e ∷ P) zero c q = omega (arith, n.add c (joined P), n.add e (joined P))
  sum_set (e ∷ P) (suc a) c q = omega (arith, n.add e (joined (set P a c)), n.add e (joined P), sum_set P a c q)
