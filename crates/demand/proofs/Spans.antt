-- A test of an exact length with 0 is a comparison of the bounds.
use Prim.Native.Nat.{ℕ, suc, ◌+◌, ◌-◌, ◌≤◌, ◌<◌, ◌^◌}
use mathlib.Core.Path.{◌≡◌, refl, ap, ◌∙◌}
use mathlib.Core.Bool.{Bool, true, false, cond, false≢true}
use native.Mathlib.Omega.{arith}
use borrow.Author.Tests.{eq-eqb, ne_eqb, leb-true, leb-false, le-leb, lt-leb, lt-ltb, le-ltb}
use Rattle.std.proofs.Math.Nat.{mod-eq_of_lt, zero-add}
use lib.Dec.{leb}
use Rattle.inst.specs.declared.CmpOp.{CmpOp}
use Rattle.inst.specs.declared.CmpOp.TheVariants as c
use Rattle.word.specs.Word.{bit, signed, ordered, compares}
use Rattle.steps.specs.Slice.{is_turned, turned}
use Rattle.demand.specs.Lengths.{span, length_of}

-- no length where the first is below the second, and one otherwise, all in signed order
empty_is : (op : CmpOp) → is_turned op ≡ true → (x y m : ℕ) → x < y → ordered op m m ≡ ordered (turned op) x y
empty_is c.Eq t x y m h = rw (eq-eqb m m refl, lt-ltb x y h)
empty_is c.Ne t x y m h = rw (eq-eqb m m refl, lt-leb y x h)
empty_is c.Lt t x y m h = absurd (false≢true t)
empty_is c.Le t x y m h = rw (le-leb m m (omega arith), lt-ltb x y h)
empty_is c.Gt t x y m h = rw (le-ltb m m (omega arith), lt-leb y x h)
empty_is c.Ge t x y m h = absurd (false≢true t)

some_is : (op : CmpOp) → is_turned op ≡ true → (x y n m : ℕ) → y ≤ x → m < n → ordered op n m ≡ ordered (turned op) x y
some_is c.Eq t x y n m h i = rw (ne_eqb n m (λ q. omega arith), le-ltb x y h)
some_is c.Ne t x y n m h i = rw (ne_eqb n m (λ q. omega arith), le-leb y x h)
some_is c.Lt t x y n m h i = absurd (false≢true t)
some_is c.Le t x y n m h i = rw (lt-leb n m i, le-ltb x y h)
some_is c.Gt t x y n m h i = rw (lt-ltb m n i, le-leb y x h)
some_is c.Ge t x y n m h i = absurd (false≢true t)

-- a word below 2^63 stands as far above 0 in signed order
signed_is : (n : ℕ) → n < 2 ^ 63 → signed n ≡ n + 2 ^ 63
signed_is n h = mod-eq_of_lt (omega arith)

-- from one bound to another, both in signed order
span_by : (op : CmpOp) → is_turned op ≡ true → (x y m : ℕ) → ordered op (cond (leb y x) (suc (x - y)) 0 + m) m ≡ ordered (turned op) x y
span_by op t x y m = by (leb y x) refl
  where
    by : (b : Bool) → leb y x ≡ b → ordered op (cond b (suc (x - y)) 0 + m) m ≡ ordered (turned op) x y
    by true q = some_is op t x y (suc (x - y) + m) m (leb-true y x q) (omega arith)
    by false q = rw zero-add (empty_is op t x y m (leb-false y x q))

module _ (op : CmpOp) (t : is_turned op ≡ true) (k k' m m' : ℕ) where
  span_is : (x y : ℕ) → span y x < 2 ^ 63 → compares k k' op (span y x) 0 ≡ compares m m' (turned op) x y
  unfolding compares
  span_is x y h = ap bit (ap (λ n. ordered op n (signed 0)) (signed_is (span y x) h) ∙ span_by op t (signed x) (signed y) (2 ^ 63))

  pub length_is : (down : Bool) (l r : ℕ) → length_of down l r < 2 ^ 63
      → compares k k' op (length_of down l r) 0 ≡ compares m m' (turned op) (cond down l r) (cond down r l)
  length_is true l r h = span_is l r h
  length_is false l r h = span_is r l h
