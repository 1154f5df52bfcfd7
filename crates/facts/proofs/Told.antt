-- A table that is filled from a file's records says the facts of the file.
use Prim.Native.Nat.{ℕ, ◌+◌, ◌*◌, ◌/◌, ◌≤◌, ◌<◌, min}
use native.Mathlib.Omega.{arith}
use mathlib.Core.Path.{◌≡◌, refl, sym, ap, ◌∙◌}
use mathlib.Core.Bool.{Bool, true, false, cond, not, ◌&&◌, ◌||◌, or-true}
use mathlib.Core.List.{List, [], ◌∷◌, append-nil}
use Rattle.std.proofs.Common.{Option, None, Some}
use borrow.Author.Tests.{ltb-true, ltb-false}
use lib.Dec.{eqb, ltb}
use lib.ListN.{length, get_or, drop_of_length-le}
use lib.Seq.{ext_get_or}
use Rattle.inst.specs.declared.Code.{Code}
use Rattle.ends.specs.Forms.{Fixed, word, real, address, varying, fixed_of}
use Rattle.procedure.specs.Lists.{any_of, or_else, value_or, present}
use Rattle.procedure.specs.Counts.{writes_in, singly, use_count}
use Rattle.steps.specs.Facts.{Facts, writes, word_of, bound, const_in, const_of, konst_of, facts_of}
use Rattle.facts.specs.Storage.{rows, row_of, konst_in, class_of, cap, table_of, cell, kinds_in, single_in, uses_in, const_at, konst_at, facts_in}
use Rattle.facts.proofs.Rows.{rows-length, rows_at, cell_in, cell-past, kinds-length, tabled-at}

-- facts are equal where each of them is
facts_eq : (f g : Facts) → f.registers ≡ g.registers → ((r : ℕ) → f.single r ≡ g.single r) → ((r : ℕ) → f.uses r ≡ g.uses r) →
    ((r : ℕ) → f.const r ≡ g.const r) → ((r : ℕ) → f.konst r ≡ g.konst r) → f.body ≡ g.body → f.budget ≡ g.budget → f ≡ g
facts_eq f g registers single uses const konst body budget =
    λ i. record {
      registers = registers i;
      single = λ r. single r i;
      uses = λ r. uses r i;
      const = λ r. const r i;
      konst = λ r. konst r i;
      body = body i;
      budget = budget i;
    }

-- who has a constant is a konst
module _ (r : ℕ) where
  abbrev bounds : Code → Bool
  bounds x = writes r x.inst && bound (fixed_of x.inst)

  const-bound : (c : List Code) → (present (const_in c r) || konst_in c r) ≡ konst_in c r
  unfolding const_in any_of
  const-bound [] = refl
  const-bound (x ∷ c) = by (writes r x.inst) (fixed_of x.inst) (const-bound c)
    where
      by : (w : Bool) (f : Fixed) → (present (const_in c r) || any_of bounds c) ≡ any_of bounds c →
          (present (or_else (cond w (word_of f) None) (const_in c r)) || ((w && bound f) || any_of bounds c)) ≡ ((w && bound f) || any_of bounds c)
      by false f e = e
      by true (word v) e = refl
      by true real e = or-true (present (const_in c r))
      by true (address true) e = e
      by true (address false) e = or-true (present (const_in c r))
      by true varying e = e

-- a class and a word say what they were made of, if the register is singly written (s)
class-const : (s : Bool) (o : Option ℕ) (k : Bool) → cond (s && eqb (class_of o k) 1) (Some (value_or 0 o)) None ≡ cond s o None
class-const false o k = refl
class-const true (Some v) k = refl
class-const true None true = refl
class-const true None false = refl

class-konst : (s : Bool) (o : Option ℕ) (k : Bool) → (present o || k) ≡ k → (s && not (eqb (class_of o k) 0)) ≡ (s && k)
class-konst false o k e = refl
class-konst true (Some v) k e = e
class-konst true None true e = refl
class-konst true None false e = refl

-- a register that is never written is not singly written
never_single : (r : ℕ) (c : List Code) → writes_in c r ≡ 0 → singly c r ≡ false
never_single r c e = rw e

-- five words for each register, kinds as in a file, no register past them named, and counts within the cap
module _ (t kinds ops : List ℕ) (c : List Code) (long : length t ≡ 5 * length kinds)
    (few : (r : ℕ) → get_or kinds r 0 ≤ 5)
    (unwritten : (r : ℕ) → length kinds ≤ r → writes_in c r ≡ 0)
    (unread : (r : ℕ) → length kinds ≤ r → use_count ops c r ≡ 0)
    (capped : (r : ℕ) → use_count ops c r ≤ cap) where
  whole : table_of t kinds ops c ≡ rows (length kinds) (row_of kinds ops c)
  unfolding table_of
  whole =
      let same : min (length kinds) (length t / 5) ≡ length kinds = omega arith in
      rw (same, drop_of_length-le t {i = 5 * length kinds} (omega arith)) (append-nil (rows (length kinds) (row_of kinds ops c)))

  rows_long : length (table_of t kinds ops c) ≡ 5 * length kinds
  rows_long = ap (λ (l : List ℕ). length l) whole ∙ rows-length (row_of kinds ops c) (λ r. refl) (length kinds)

  count : length (table_of t kinds ops c) / 5 ≡ length kinds
  count = let e = rows_long in omega arith

  at : (r j : ℕ) → r < length kinds → j < 5 → get_or (table_of t kinds ops c) (5 * r + j) 0 ≡ get_or (row_of kinds ops c r) j 0
  at r j h m =
      ap (λ (l : List ℕ). get_or l (5 * r + j) 0) whole
      ∙ rows_at (row_of kinds ops c) (λ q. refl) (length kinds) r j 0 h m

  here : (r j : ℕ) → r < length kinds → j < 5 → cell (table_of t kinds ops c) r j 0 ≡ get_or (row_of kinds ops c r) j 0
  here r j h m = cell_in (table_of t kinds ops c) r j 0 (rw count h) ∙ at r j h m

  past : (r j : ℕ) → length kinds ≤ r → cell (table_of t kinds ops c) r j 0 ≡ 0
  past r j h = cell-past (table_of t kinds ops c) r j 0 (rw count h)

  -- of a register that has a row, and of one that has none
  each : (P : ℕ → Type 0) → ((r : ℕ) → r < length kinds → P r) → ((r : ℕ) → length kinds ≤ r → P r) → (r : ℕ) → P r
  each P f g r = by (ltb r (length kinds)) refl
    where
      by : (b : Bool) → ltb r (length kinds) ≡ b → P r
      by true e = f r (ltb-true r (length kinds) e)
      by false e = g r (ltb-false r (length kinds) e)

  kinds-told : kinds_in (table_of t kinds ops c) ≡ kinds
  unfolding kinds_in
  kinds-told =
      let table = table_of t kinds ops c in
      ext_get_or 0 (kinds_in table) kinds (kinds-length table ∙ count)
      (λ r h.
      let h' : r < length kinds = rw (kinds-length table ∙ count) at h in
      let e = at r 0 h' (omega arith) in
      let m = few r in
      tabled-at (λ k. min 5 (get_or table (5 * k + 0) 0)) (length table / 5) 0 r (rw count h') ∙ omega arith)

  pub told : (body : Option ℕ) → facts_in (table_of t kinds ops c) body (length c / 2 + 32) ≡ facts_of kinds ops body c
  unfolding facts_of single_in uses_in const_at konst_at const_of konst_of
  told body =
      let table = table_of t kinds ops c in
      facts_eq (facts_in table body (length c / 2 + 32)) (facts_of kinds ops body c)
      kinds-told
      (each (λ r. single_in table r ≡ singly c r)
      (λ r h. ap (λ (n : ℕ). eqb n 1) (here r 1 h (omega arith)))
      (λ r h. ap (λ (n : ℕ). eqb n 1) (past r 1 h) ∙ sym (never_single r c (unwritten r h))))
      (each (λ r. uses_in table r ≡ use_count ops c r)
      (λ r h. here r 2 h (omega arith) ∙ (let m = capped r in omega arith))
      (λ r h. past r 2 h ∙ sym (unread r h)))
      (each (λ r. const_at table r ≡ const_of c r)
      (λ r h. rw (here r 1 h (omega arith), here r 3 h (omega arith), here r 4 h (omega arith)) (class-const (singly c r) (const_in c r) (konst_in c r)))
      (λ r h. rw (past r 1 h, never_single r c (unwritten r h))))
      (each (λ r. konst_at table r ≡ konst_of c r)
      (λ r h. rw (here r 1 h (omega arith), here r 3 h (omega arith)) (class-konst (singly c r) (const_in c r) (konst_in c r) (const-bound r c)))
      (λ r h. rw (past r 1 h, never_single r c (unwritten r h))))
      refl
      refl
