-- Laws of tables and of rows of five words.
use Prim.Native.Nat.{ℕ, zero, suc, ◌+◌, ◌-◌, ◌*◌, ◌/◌, ◌≤◌, ◌<◌, min}
use native.Mathlib.Omega.{arith}
use mathlib.Core.Path.{◌≡◌, refl, sym, ap, ◌∙◌}
use mathlib.Core.Bool.{Bool, true, false}
use mathlib.Core.List.{List, [], ◌∷◌, ◌++◌}
use borrow.Author.Tests.{ltb-true, ltb-false, lt-ltb, le-ltb}
use lib.Dec.{ltb}
use lib.ListN.{length, get_or, length-append, get_or-append, get_or-eq_default}
use lib.Seq.{ext_get_or, get_or_at, get_or-append-add}
use Rattle.facts.specs.Storage.{tabled, rows, cell, kinds_in}

-- a table
module _ {A : Type 0} (f : ℕ → A) where
  pub tabled-length : (n : ℕ) → length (tabled n f) ≡ n
  unfolding tabled
  tabled-length zero = refl
  tabled-length (suc n) = length-append (tabled n f) (f n ∷ []) ∙ (let e = tabled-length n in omega arith)

  pub tabled-at : (n : ℕ) (d : A) (k : ℕ) → k < n → get_or (tabled n f) k d ≡ f k
  unfolding tabled
  tabled-at zero d k h = absurd (omega arith)
  tabled-at (suc n) d k h = by (ltb k n) refl (tabled-at n d k)
    where
      by : (b : Bool) → ltb k n ≡ b → (k < n → get_or (tabled n f) k d ≡ f k) → get_or (tabled n f ++ (f n ∷ [])) k d ≡ f k
      by true e ih = let i = ltb-true k n e in get_or-append (tabled n f) (f n ∷ []) d k (rw (tabled-length n) i) ∙ ih i
      by false e ih = let i : k ≡ n = (let j = ltb-false k n e in omega arith) in rw i (get_or_at (tabled n f) (f n) [] d n (tabled-length n))

-- rows of five
module _ (f : ℕ → List ℕ) (five : (r : ℕ) → length (f r) ≡ 5) where
  pub rows-length : (n : ℕ) → length (rows n f) ≡ 5 * n
  unfolding rows
  rows-length zero = refl
  rows-length (suc n) = length-append (rows n f) (f n) ∙ (let e = rows-length n in let i = five n in omega arith)

  pub rows_at : (n r j d : ℕ) → r < n → j < 5 → get_or (rows n f) (5 * r + j) d ≡ get_or (f r) j d
  unfolding rows
  rows_at zero r j d h m = absurd (omega arith)
  rows_at (suc n) r j d h m = by (ltb r n) refl (rows_at n r j d)
    where
      by : (b : Bool) → ltb r n ≡ b → (r < n → j < 5 → get_or (rows n f) (5 * r + j) d ≡ get_or (f r) j d) → get_or (rows n f ++ f n) (5 * r + j) d ≡ get_or (f r) j d
      by true e ih =
          let i = ltb-true r n e in
          get_or-append (rows n f) (f n) d (5 * r + j) (rw (rows-length n) (omega arith)) ∙ ih i m
      by false e ih =
          let i : r ≡ n = (let k = ltb-false r n e in omega arith) in
          rw i (ap (λ (k : ℕ). get_or (rows n f ++ f n) (k + j) d) (sym (rows-length n)) ∙ get_or-append-add (rows n f) (f n) j d)

  -- a list that has the rows' words is the rows
  pub rows_ext : (n : ℕ) (t : List ℕ) → length t ≡ 5 * n → ((r j : ℕ) → r < n → j < 5 → get_or t (5 * r + j) 0 ≡ get_or (f r) j 0) → t ≡ rows n f
  rows_ext n t e h =
      ext_get_or 0 t (rows n f) (e ∙ sym (rows-length n))
      (λ i m.
      let r = i / 5 in
      let j = i - 5 * (i / 5) in
      let r-in : i / 5 < n = omega arith in
      let j-in : i - 5 * (i / 5) < 5 = omega arith in
      let same : 5 * (i / 5) + (i - 5 * (i / 5)) ≡ i = omega arith in
      rw (← same) (h r j r-in j-in ∙ sym (rows_at n r j 0 r-in j-in)))

-- a property of the numbers below five
pub each-five : (P : ℕ → Type 0) → P 0 → P 1 → P 2 → P 3 → P 4 → (j : ℕ) → j < 5 → P j
each-five P a b c d e zero h = a
each-five P a b c d e (suc zero) h = b
each-five P a b c d e (suc (suc zero)) h = c
each-five P a b c d e (suc (suc (suc zero))) h = d
each-five P a b c d e (suc (suc (suc (suc zero)))) h = e
each-five P a b c d e (suc (suc (suc (suc (suc j))))) h = absurd (omega arith)

-- a word of a register's row
module _ (t : List ℕ) (r j d : ℕ) where
  pub cell_in : r < length t / 5 → cell t r j d ≡ get_or t (5 * r + j) 0
  unfolding cell
  cell_in h = rw (lt-ltb r (length t / 5) h)

  pub cell-past : length t / 5 ≤ r → cell t r j d ≡ d
  unfolding cell
  cell-past h = rw (le-ltb r (length t / 5) h)

-- kinds
pub kinds-length : (t : List ℕ) → length (kinds_in t) ≡ length t / 5
unfolding kinds_in
kinds-length t = tabled-length (λ r. min 5 (get_or t (5 * r + 0) 0)) (length t / 5)

pub kinds-at : (t : List ℕ) (r : ℕ) → get_or (kinds_in t) r 5 ≡ min 5 (cell t r 0 5)
unfolding kinds_in
kinds-at t r = by (ltb r (length t / 5)) refl
  where
    by : (b : Bool) → ltb r (length t / 5) ≡ b → get_or (kinds_in t) r 5 ≡ min 5 (cell t r 0 5)
    by true e =
        let h = ltb-true r (length t / 5) e in
        tabled-at (λ k. min 5 (get_or t (5 * k + 0) 0)) (length t / 5) 5 r h ∙ sym (ap (min 5) (cell_in t r 0 5 h))
    by false e =
        let h = ltb-false r (length t / 5) e in
        get_or-eq_default (kinds_in t) 5 {n = r} (rw (kinds-length t) h) ∙ sym (ap (min 5) (cell-past t r 0 5 h))
