-- A copy's source that `note` gathers is a register of the file.
use Prim.Native.Nat.{ℕ, ◌≤◌, ◌<◌}
use native.Mathlib.Omega.{arith}
use mathlib.Core.Path.{◌≡◌, refl}
use mathlib.Core.Bool.{Bool, true, false, ◌&&◌, ◌||◌, cond}
use mathlib.Core.List.{List, [], ◌∷◌}
use mathlib.Core.Logic.{◌⊎◌, inl, inr}
use Rattle.std.proofs.Common.{Option, None, Some}
use borrow.Author.Tests.{eqb-true}
use lib.Dec.{eqb}
use lib.ListN.{length, get_or, get_or-eq_default}
use Rattle.general.proofs.Booleans.{cases, and_first, and_second}
use Rattle.general.proofs.Numbers.{order}
use Rattle.inst.specs.declared.Code.{Code}
use Rattle.roles.specs.Roles.{defs_of}
use Rattle.procedure.specs.Lists.{found, value_or}
use Rattle.ends.specs.Forms.{Form, const, const_f, addr_of, move, bool, bin, jump, other, form_of}
use Rattle.steps.specs.Facts.{Facts}
use Rattle.steps.specs.Note.{Known, nothing, copies_without, forget_all, with_value_if, source_of, value_of, alike, note_move, bool_of, learnt, learn, note, notes}
use Rattle.round_trips.specs.WellFormed.{All}
use Rattle.round_trips.proofs.Lists.{all_append}

-- a register through some entries, all of which lead below a bound
pub found_in : (m : ℕ) (xs : List (ℕ × ℕ)) → All (λ x. x.1 < m) xs → (r : ℕ) → r < m → value_or r (found r xs) < m
unfolding found
found_in m [] h r i = i
found_in m (x ∷ xs) h r i = by (eqb x.0 r) (found_in m xs h.1 r i)
  where
    by : (t : Bool) → value_or r (found r xs) < m → value_or r (cond t (Some x.1) (found r xs)) < m
    by true j = h.0
    by false j = j

module _ (f : Facts) where
  abbrev n : ℕ
  n = length f.registers

  abbrev CopiesIn : Known → Type 0
  CopiesIn k = All (λ x. x.1 < n) k.copies

  without_in : (d : ℕ) (xs : List (ℕ × ℕ)) → All (λ x. x.1 < n) xs → All (λ x. x.1 < n) (copies_without d xs)
  unfolding copies_without
  without_in d [] h = tt
  without_in d (x ∷ xs) h = by (eqb x.0 d || eqb x.1 d) (without_in d xs h.1)
    where
      by : (t : Bool) → All (λ x. x.1 < n) (copies_without d xs) → All (λ x. x.1 < n) (cond t (copies_without d xs) (x ∷ copies_without d xs))
      by true i = i
      by false i = (h.0, i)

  forget-in : (ds : List ℕ) (k : Known) → CopiesIn k → CopiesIn (forget_all ds k)
  unfolding forget_all
  forget-in [] k h = h
  forget-in (d ∷ []) k h = without_in d k.copies h
  forget-in (d ∷ c ∷ []) k h = without_in c (copies_without d k.copies) (without_in d k.copies h)
  forget-in (d ∷ c ∷ g ∷ ds) k h = tt

  value_in : (d : ℕ) (o : Option ℕ) (k : Known) → CopiesIn k → CopiesIn (with_value_if d o k)
  value_in d None k h = h
  value_in d (Some v) k h = h

  -- a kind that is 0 or 2 is that of a register
  kind-in : (kind s : ℕ) → (eqb kind (get_or f.registers s 5) && (eqb kind 0 || eqb kind 2)) ≡ true → s < n
  kind-in kind s h = by (order s n)
    where
      same : kind ≡ get_or f.registers s 5
      same = eqb-true kind (get_or f.registers s 5) (and_first (eqb kind (get_or f.registers s 5)) _ h)

      or_case : (a b : Bool) → (a || b) ≡ true → (a ≡ true) ⊎ (b ≡ true)
      or_case true b e = inl refl
      or_case false b e = inr e

      small : (eqb kind 0 ≡ true) ⊎ (eqb kind 2 ≡ true) → kind < 5
      small (inl e) = let z = eqb-true kind 0 e in omega arith
      small (inr e) = let z = eqb-true kind 2 e in omega arith

      by : (s < n) ⊎ (n ≤ s) → s < n
      by (inl i) = i
      by (inr i) =
          let z = small (or_case (eqb kind 0) (eqb kind 2) (and_second (eqb kind (get_or f.registers s 5)) _ h)) in
          let y = get_or-eq_default f.registers 5 i in
          let x = same in
          absurd (omega arith)

  move_in : (d s : ℕ) (k : Known) → CopiesIn k → CopiesIn (note_move f d s k)
  move_in d s k h = by (cases (alike f d s)) (value_in d (value_of f k s) k h)
    where
      by : (alike f d s ≡ true) ⊎ (alike f d s ≡ false) → CopiesIn (with_value_if d (value_of f k s) k) → CopiesIn (note_move f d s k)
      by (inl t) i = rw t (all_append (λ x. x.1 < n) (with_value_if d (value_of f k s) k).copies ((d, s) ∷ []) i (kind-in (get_or f.registers d 5) s t, tt))
      by (inr t) i = rw t i

  learnt-in : (k : Known) (x : Form) → CopiesIn k → CopiesIn (learnt f k x)
  learnt-in k (const d v) h = h
  learnt-in k (const_f d) h = h
  learnt-in k (addr_of d up) h = h
  learnt-in k (move d s) h = by (eqb d.0 s.0)
    where
      by : (t : Bool) → CopiesIn (cond t k (note_move f d.0 (source_of k s.0) k))
      by true = h
      by false = move_in d.0 (source_of k s.0) k h
  learnt-in k (bool op d x y) h = value_in d.0 (bool_of op (value_of f k x.0) (value_of f k y.0)) k h
  learnt-in k (bin ranged op) h = h
  learnt-in k (jump e) h = h
  learnt-in k other h = h

  notes-in : (c : List Code) (k : Known) → CopiesIn k → CopiesIn (notes f k c)
  unfolding notes learn
  notes-in [] k h = h
  notes-in (x ∷ c) k h = notes-in c (note f k x.inst) (learnt-in (forget_all (defs_of x.inst) k) (form_of x.inst) (forget-in (defs_of x.inst) k h))

  widen : (m : ℕ) → n ≤ m → (xs : List (ℕ × ℕ)) → All (λ x. x.1 < n) xs → All (λ x. x.1 < m) xs
  widen m i [] h = tt
  widen m i (x ∷ xs) h = (let j = h.0 in omega arith, widen m i xs h.1)

  pub source_in : (c : List Code) (m r : ℕ) → n ≤ m → r < m → source_of (notes f nothing c) r < m
  source_in c m r i j = found_in m (notes f nothing c).copies (widen m i (notes f nothing c).copies (notes-in c nothing tt)) r j
