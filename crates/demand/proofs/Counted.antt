-- How often some code writes a register, and how many of its instructions read it and don't write it.
use Prim.Native.Nat.{ℕ, ◌+◌, ◌≤◌}
use mathlib.Core.Path.{◌≡◌, refl, ◌∙◌}
use mathlib.Core.Logic.{◌⊎◌, inl, inr}
use mathlib.Core.List.{List, [], ◌∷◌, ◌++◌}
use mathlib.Core.Bool.{Bool, true, false, cond}
use native.Mathlib.Omega.{arith}
use lib.Dec.{eqb}
use borrow.Author.Tests.{eq-eqb, ne_eqb}
use Rattle.inst.specs.declared.Code.{Code}
use Rattle.procedure.specs.Lists.{times}
use Rattle.procedure.specs.Counts.{writes_in, use_count}
use Rattle.ends.specs.Ends.{front}
use Rattle.demand.specs.Setting.{In, defs_at, reads_at, Written, Read, Exposed}
use Rattle.demand.proofs.Basics.{dec_in}

pub times_none : (d : ℕ) (xs : List ℕ) → ¬ (In d xs) → times d xs ≡ 0
unfolding times
times_none d [] n = refl
times_none d (x ∷ xs) n = rw (ne_eqb d x (λ q. n (inl q))) (omega (arith, times_none d xs (λ k. n (inr k))))

pub times_some : (d : ℕ) (xs : List ℕ) → In d xs → 1 ≤ times d xs
unfolding times
times_some d [] k = absurd k
times_some d (x ∷ xs) (inl q) = rw (eq-eqb d x q) (omega arith)
times_some d (x ∷ xs) (inr k) = omega (arith, times_some d xs k)

pub times-one : (d e : ℕ) (xs : List ℕ) → xs ≡ e ∷ [] → times d xs ≤ 1
unfolding times
times-one d e xs q = rw q (by (eqb d e))
  where
    by : (t : Bool) → cond t 1 0 + 0 ≤ 1
    by true = omega arith
    by false = omega arith

pub writes-append : (c e : List Code) (d : ℕ) → writes_in (c ++ e) d ≡ writes_in c d + writes_in e d
unfolding writes_in
writes-append [] e d = omega arith
writes-append (x ∷ c) e d = omega (arith, writes-append c e d)

-- a last instruction that writes nothing
pub writes-last : (c : List Code) (x : Code) (d : ℕ) → defs_at x ≡ [] → writes_in (c ++ (x ∷ [])) d ≡ writes_in c d
unfolding writes_in times
writes-last c x d q = writes-append c (x ∷ []) d ∙ rw q (omega arith)

pub unwritten : (c : List Code) (d : ℕ) → ¬ (Written c d) → writes_in c d ≡ 0
unfolding writes_in
unwritten [] d n = refl
unwritten (x ∷ c) d n = omega (arith, times_none d (defs_at x) (λ k. n (inl k)), unwritten c d (λ k. n (inr k)))

pub written_once : (c : List Code) (d : ℕ) → Written c d → 1 ≤ writes_in c d
unfolding writes_in
written_once [] d k = absurd k
written_once (x ∷ c) d (inl k) = omega (arith, times_some d (defs_at x) k)
written_once (x ∷ c) d (inr k) = omega (arith, written_once c d k)

pub front-cons : (x : Code) (c : List Code) → ¬ (c ≡ []) → front (x ∷ c) ≡ x ∷ front c
unfolding front
front-cons x [] n = absurd (n refl)
front-cons x (y ∷ c) n = refl

pub front-writes : (c : List Code) (d : ℕ) → writes_in (front c) d ≤ writes_in c d
unfolding front writes_in
front-writes [] d = omega arith
front-writes (x ∷ []) d = omega arith
front-writes (x ∷ y ∷ c) d = let z = front-writes (y ∷ c) d in omega arith

pub front_read : (ops : List ℕ) (c : List Code) (d : ℕ) → Read ops (front c) d → Read ops c d
unfolding front
front_read ops [] d k = absurd k
front_read ops (x ∷ []) d k = absurd k
front_read ops (x ∷ y ∷ c) d (inl k) = inl k
front_read ops (x ∷ y ∷ c) d (inr k) = inr (front_read ops (y ∷ c) d k)

pub front-exposed : (ops : List ℕ) (c : List Code) (d : ℕ) → Exposed ops (front c) d → Exposed ops c d
unfolding front
front-exposed ops [] d k = absurd k
front-exposed ops (x ∷ []) d k = absurd k
front-exposed ops (x ∷ y ∷ c) d (inl k) = inl k
front-exposed ops (x ∷ y ∷ c) d (inr k) = inr (k.0, front-exposed ops (y ∷ c) d k.1)

-- yes to the first and no to the second
abbrev alone : {A B : Type 0} → Dec A → Dec B → ℕ
alone (yes a) (yes b) = 0
alone (yes a) (no b) = 1
alone (no a) e = 0

module _ (ops : List ℕ) (d : ℕ) where
  -- an instruction reads d and doesn't write it
  unfoldable pub reader : Code → ℕ
  reader x = alone (dec_in d (reads_at ops x)) (dec_in d (defs_at x))

  unfoldable pub readers_in : List Code → ℕ
  readers_in [] = 0
  readers_in (x ∷ c) = reader x + readers_in c

  pub reader_is : (x : Code) → In d (reads_at ops x) → ¬ (In d (defs_at x)) → reader x ≡ 1
  unfolding reader
  reader_is x k n = by (dec_in d (reads_at ops x)) (dec_in d (defs_at x))
    where
      by : (a : Dec (In d (reads_at ops x))) (b : Dec (In d (defs_at x))) → alone a b ≡ 1
      by (yes a) (yes b) = absurd (n b)
      by (yes a) (no b) = refl
      by (no a) b = absurd (a k)

  pub reader_of : (x : Code) → (reader x ≡ 0) ⊎ ((reader x ≡ 1) × In d (reads_at ops x) × (¬ (In d (defs_at x))))
  unfolding reader
  reader_of x = by (dec_in d (reads_at ops x)) (dec_in d (defs_at x))
    where
      by : (a : Dec (In d (reads_at ops x))) (b : Dec (In d (defs_at x))) → (alone a b ≡ 0) ⊎ ((alone a b ≡ 1) × In d (reads_at ops x) × (¬ (In d (defs_at x))))
      by (yes a) (yes b) = inl refl
      by (yes a) (no b) = inr (refl, a, b)
      by (no a) b = inl refl

  -- no more readers than there
  pub reader_more : (x y : Code) → (In d (reads_at ops x) → ¬ (In d (defs_at x)) → In d (reads_at ops y) × (¬ (In d (defs_at y)))) → reader x ≤ reader y
  reader_more x y f = by (reader_of x)
    where
      by : (reader x ≡ 0) ⊎ ((reader x ≡ 1) × In d (reads_at ops x) × (¬ (In d (defs_at x)))) → reader x ≤ reader y
      by (inl q) = omega arith
      by (inr q) = let t = f q.1 q.2 in let u = reader_is y t.0 t.1 in let v = q.0 in omega arith

  pub readers_append : (c e : List Code) → readers_in (c ++ e) ≡ readers_in c + readers_in e
  unfolding readers_in
  readers_append [] e = omega arith
  readers_append (x ∷ c) e = omega (arith, readers_append c e)

  -- read and not written: some instruction reads it
  unwritten_reader : (c : List Code) → Read ops c d → ¬ (Written c d) → 1 ≤ readers_in c
  unfolding readers_in
  unwritten_reader [] k n = absurd k
  unwritten_reader (x ∷ c) (inl k) n = omega (arith, reader_is x k (λ w. n (inl w)))
  unwritten_reader (x ∷ c) (inr k) n = omega (arith, unwritten_reader c k (λ w. n (inr w)))

  -- read, not exposed and written once: some instruction reads it alone
  pub hidden_reader : (c : List Code) → Read ops c d → ¬ (Exposed ops c d) → writes_in c d ≤ 1 → 1 ≤ readers_in c
  unfolding readers_in writes_in
  hidden_reader [] k n l = absurd k
  hidden_reader (x ∷ c) (inl k) n l = absurd (n (inl k))
  hidden_reader (x ∷ c) (inr k) n l = by (dec_in d (defs_at x)) (hidden_reader c k)
    where
      by : Dec (In d (defs_at x)) → (¬ (Exposed ops c d) → writes_in c d ≤ 1 → 1 ≤ readers_in c) → 1 ≤ reader x + readers_in c
      by (yes w) ih =
          let z = times_some d (defs_at x) w in
          omega (arith, unwritten_reader c k (λ v. let u = written_once c d v in absurd (omega arith)))
      by (no w) ih = omega (arith, ih (λ e. n (inr (w, e))) (omega arith))

  -- reads counted
  pub unread : (c : List Code) → ¬ (Read ops c d) → use_count ops c d ≡ 0
  unfolding use_count
  unread [] n = refl
  unread (x ∷ c) n = omega (arith, times_none d (reads_at ops x) (λ k. n (inl k)), unread c (λ k. n (inr k)))

  pub uses-append : (c e : List Code) → use_count ops (c ++ e) d ≡ use_count ops c d + use_count ops e d
  unfolding use_count
  uses-append [] e = omega arith
  uses-append (x ∷ c) e = omega (arith, uses-append c e)
