-- Laws of counting reads, of the pairs of an old and a new number, of an array's first places, and of the first four instructions.
use Prim.Native.Nat.{ℕ, ◌+◌, ◌≤◌, ◌<◌, min}
use native.Mathlib.Numerals.{add-one}
use native.Mathlib.Omega.{arith}
use mathlib.Core.Path.{◌≡◌, refl, ap, fun_ext}
use mathlib.Core.Bool.{Bool, true, false, cond}
use Rattle.std.proofs.Common.{Some}
use mathlib.Core.List.{List, [], ◌∷◌, ◌++◌}
use lib.Dec.{eqb}
use lib.ListN.{length, get_or, take, drop, set, length-append, drop_of_length-le}
use lib.Seq.{drop-cons, take-suc-set}
use Rattle.std.specs.List.{count_by}
use Rattle.std.proofs.lemmas.List.Recursion.{is_count_by}
use Rattle.inst.specs.declared.Reg.{Reg}
use Rattle.inst.specs.declared.Inst.{Inst}
use Rattle.inst.specs.declared.Inst.TheVariants as i
use Rattle.inst.specs.declared.Code.{Code}
use Rattle.roles.specs.Roles.{defs_of, uses_of, numbers_of, reg_of}
use Rattle.roles.specs.Exchange.{exchanged, through}
use Rattle.roles.proofs.Laws.{all-few}
use Rattle.procedure.specs.Lists.{times, found, value_or}
use Rattle.procedure.proofs.Laws.{times_le}
use Rattle.steps.specs.Copy.{own_uses, read_through}
use Rattle.copy.specs.Storage.{first_four}

pub reads_few : (r : ℕ) (x : Inst) → times r (uses_of x) ≤ 5
reads_few r x = omega (arith, times_le r (uses_of x), all-few x, length-append (defs_of x) (uses_of x))

-- the reads of r among some registers
pub reads_counted : (r : ℕ) (l : List Reg) → times r (numbers_of l) ≡ count_by (λ x. eqb r x.0) l
unfolding times
reads_counted r l = is_count_by (λ (l : List Reg). times r (numbers_of l)) (λ x. eqb r x.0) refl (λ x l. by (eqb r x.0) (times r (numbers_of l))) l
  where
    by : (b : Bool) (n : ℕ) → cond b 1 0 + n ≡ cond b (1 + n) n
    by true n = refl
    by false n = omega arith

-- the instruction that a slice of them has past its end
abbrev pub zero_code : Code
zero_code = record { inst = i.Const (reg_of 0) 0; stmt = record { 0 = 0 } }

-- the reads of r in the instructions from place k on
module _ (r k : ℕ) (c : List Code) where
  pub own_next : k < length c → own_uses (drop k c) r ≡ times r (uses_of (get_or c k zero_code).inst) + own_uses (drop (k + 1) c) r
  unfolding own_uses
  own_next h = rw (add-one k) (ap (λ (l : List Code). own_uses l r) (drop-cons c k zero_code h))

  pub own_done : length c ≤ k → own_uses (drop k c) r ≡ 0
  unfolding own_uses
  own_done h = ap (λ (l : List Code). own_uses l r) (drop_of_length-le c {i = k} h)

-- a number by the first of some pairs
through-found : (l : List (ℕ × ℕ)) (r : ℕ) → through l r ≡ read_through l r
unfolding through found
through-found [] r = refl
through-found (x ∷ l) r = by (eqb x.0 r) (through-found l r)
  where
    by : (b : Bool) → through l r ≡ read_through l r → cond b x.1 (through l r) ≡ value_or r (cond b (Some x.1) (found r l))
    by true e = refl
    by false e = e

pub exchanged-found : (l : List (ℕ × ℕ)) (τ : ℕ → ℕ) (i : Inst) → exchanged (through l) τ i ≡ exchanged (read_through l) τ i
exchanged-found l τ i = ap (λ (σ : ℕ → ℕ). exchanged σ τ i) (fun_ext (through-found l))

-- one place more
pub one-more : {A : Type 0} (n : ℕ) (l : List A) (x : A) → n < length l → take (n + 1) (set l n x) ≡ take n l ++ (x ∷ [])
one-more n l x h = rw (add-one n) (take-suc-set l n x h)

-- the first four of some code
pub four_first : (c : List Code) → take (min (length c) 4) (first_four c) ≡ take 4 c
four_first [] = refl
four_first (w ∷ []) = refl
four_first (w ∷ x ∷ []) = refl
four_first (w ∷ x ∷ y ∷ []) = refl
four_first (w ∷ x ∷ y ∷ z ∷ c) =
    let l = w ∷ x ∷ y ∷ z ∷ c in
    let four : min (length l) 4 ≡ 4 = omega arith in
    ap (λ (n : ℕ). take n (first_four l)) four
