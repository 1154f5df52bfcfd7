-- A file in order is its six sections, the right records of each class, one after the other.
use Prim.Native.Nat.{ℕ, zero, suc, ◌+◌, ◌≤◌, ◌<◌}
use native.Mathlib.Nat.{zero-add, add-zero}
use native.Mathlib.Omega.{arith}
use mathlib.Core.Path.{◌≡◌, refl, sym, ap, ◌∙◌}
use mathlib.Core.Bool.{Bool, true, false, cond}
use mathlib.Core.List.{List, [], ◌∷◌, ◌++◌, append-nil, append_assoc}
use mathlib.Core.Logic.{◌⊎◌, inl, inr}
use borrow.Author.Tests.{eqb-true, eq-eqb, ne_eqb, le-leb}
use lib.Dec.{eqb}
use lib.ListN.{length, get_or, drop, take-append-drop}
use lib.Seq.{drop-drop, drop-length}
use Rattle.general.proofs.Booleans.{cases, and_first, and_second}
use Rattle.records.specs.declared.Record.{Record}
use Rattle.records.specs.Kinds.{right}
use Rattle.layout.specs.Walk.{walk}
use Rattle.layout.specs.Classes.{in_order, ordered, of_class, before}
use Rattle.layout.specs.Work.{right_of}
use Rattle.layout.proofs.Walks.{walk_pass, walk_head, walk_tail}
use Rattle.layout.proofs.Order.{in-class, Sorted, sorted_of, before-none, before-count, before-end, ordered_end, of_part}
use Rattle.procedure.specs.Lists.{joined}
use Rattle.round_trips.specs.WellFormed.{All}

-- lists of right records, of class c and of those after it
abbrev pub Sections : ℕ → List (List Record) → Type 0
Sections c [] = Unit {0}
Sections c (s ∷ ss) = All (λ r. right_of c r ≡ true) s × Sections (suc c) ss

pub is_right : (c : ℕ) (r : Record) → right_of c r ≡ true → right r ≡ true
is_right c r e = and_second (eqb r.class c) (right r) e

pub right_of_lem : (c : ℕ) (r : Record) → r.class ≡ c → right r ≡ true → right_of c r ≡ true
right_of_lem c r e h = rw (eq-eqb r.class c e, h)

-- records that are right and in order after one of class p
abbrev pub InOrder : ℕ → List Record → Type 0
InOrder p rs = walk in_order (λ prev r. r.class) p rs ≡ length rs

section_first : (c p : ℕ) (s rest : List Record) → p ≤ c → All (λ r. right_of c r ≡ true) s → ((q : ℕ) → q ≤ c → InOrder q rest) → InOrder p (s ++ rest)
section_first c p [] rest i h k = k p i
section_first c p (r ∷ s) rest i h k =
    let e = in-class c r h.0 in
    let o : in_order p r ≡ true = rw (is_right c r h.0, e) (le-leb p c i) in
    walk_pass in_order (λ prev r. r.class) (s ++ rest) o
    ∙ ap suc (section_first c r.class s rest (omega arith) h.1 k)

pub sections_in_order : (ss : List (List Record)) (c p : ℕ) → p ≤ c → Sections c ss → InOrder p (joined ss)
unfolding walk
sections_in_order [] c p i h = refl
sections_in_order (s ∷ ss) c p i h = section_first c p s (joined ss) i h.0 (λ q j. sections_in_order ss (suc c) q (omega arith) h.1)

-- the records of a class, of one section and of several
pub of_append : (c : ℕ) (xs ys : List Record) → of_class c (xs ++ ys) ≡ of_class c xs ++ of_class c ys
unfolding of_class
of_append c [] ys = refl
of_append c (r ∷ xs) ys = by (eqb r.class c) (of_append c xs ys)
  where
    by : (b : Bool) → of_class c (xs ++ ys) ≡ of_class c xs ++ of_class c ys →
        cond b (r ∷ of_class c (xs ++ ys)) (of_class c (xs ++ ys)) ≡ cond b (r ∷ of_class c xs) (of_class c xs) ++ of_class c ys
    by true e = ap (λ (l : List Record). r ∷ l) e
    by false e = e

of_same : (c : ℕ) (s : List Record) → All (λ r. right_of c r ≡ true) s → of_class c s ≡ s
unfolding of_class
of_same c [] h = refl
of_same c (r ∷ s) h = rw (eq-eqb r.class c (in-class c r h.0), of_same c s h.1)

of_other : (c d : ℕ) (s : List Record) → (d ≡ c → ⊥) → All (λ r. right_of d r ≡ true) s → of_class c s ≡ []
unfolding of_class
of_other c d [] n h = refl
of_other c d (r ∷ s) n h = rw (ne_eqb r.class c (λ e. n (sym (in-class d r h.0) ∙ e)), of_other c d s n h.1)

of_before : (ss : List (List Record)) (c d : ℕ) → d < c → Sections c ss → of_class d (joined ss) ≡ []
unfolding of_class
of_before [] c d i h = refl
of_before (s ∷ ss) c d i h = of_append d s (joined ss) ∙ rw (of_other d c s (λ e. omega arith) h.0, of_before ss (suc c) d (omega arith) h.1)

pub section_of : (ss : List (List Record)) (c k : ℕ) → Sections c ss → of_class (c + k) (joined ss) ≡ get_or ss k []
unfolding of_class
section_of [] c k h = refl
section_of (s ∷ ss) c zero h =
    ap (λ (d : ℕ). of_class d (s ++ joined ss)) (add-zero c)
    ∙ of_append c s (joined ss)
    ∙ rw (of_same c s h.0, of_before ss (suc c) c (omega arith) h.1) (append-nil s)
section_of (s ∷ ss) c (suc k) h =
    of_append (c + suc k) s (joined ss)
    ∙ rw (of_other (c + suc k) c s (λ e. omega arith) h.0)
    (ap (λ (d : ℕ). of_class d (joined ss)) (let e : c + suc k ≡ suc c + k = omega arith in e) ∙ section_of ss (suc c) k h.1)

-- the sections of n classes from c on
abbrev pub classes : ℕ → ℕ → List Record → List (List Record)
classes zero c rs = []
classes (suc n) c rs = of_class c rs ∷ classes n (suc c) rs

module _ (rs : List Record) (o : ordered rs ≡ length rs) where
  sorted : Sorted 1 rs
  sorted = sorted_of rs o

  classes_drop : (n c : ℕ) → joined (classes n c rs) ++ drop (before (n + c) rs) rs ≡ drop (before c rs) rs
  classes_drop zero c = ap (λ (k : ℕ). drop (before k rs) rs) (zero-add c)
  classes_drop (suc n) c =
      let e : suc n + c ≡ n + suc c = omega arith in
      append_assoc (of_class c rs) (joined (classes n (suc c) rs)) (drop (before (suc n + c) rs) rs)
      ∙ ap (λ (k : ℕ). of_class c rs ++ (joined (classes n (suc c) rs) ++ drop (before k rs) rs)) e
      ∙ ap (λ (l : List Record). of_class c rs ++ l) (classes_drop n (suc c))
      ∙ ap (λ (k : ℕ). of_class c rs ++ drop k rs) (before-count c rs)
      ∙ ap (λ (l : List Record). of_class c rs ++ l) (sym (drop-drop (length (of_class c rs)) (before c rs) rs))
      ∙ ap (λ (l : List Record). l ++ drop (length (of_class c rs)) (drop (before c rs) rs)) (of_part c 1 rs sorted)
      ∙ take-append-drop (length (of_class c rs)) (drop (before c rs) rs)

  pub classes_joined : joined (classes 6 1 rs) ≡ rs
  classes_joined =
      let end : before 7 rs ≡ length rs = before-end 6 rs sorted ∙ sym (ordered_end rs) ∙ o in
      let nil : drop (before 7 rs) rs ≡ [] = ap (λ (k : ℕ). drop k rs) end ∙ drop-length rs in
      sym (append-nil (joined (classes 6 1 rs)))
      ∙ ap (λ (l : List Record). joined (classes 6 1 rs) ++ l) (sym nil)
      ∙ classes_drop 6 1
      ∙ ap (λ (k : ℕ). drop k rs) (before-none 1 1 rs (omega arith) sorted)

pub all_right : (p : ℕ) (rs : List Record) → InOrder p rs → All (λ r. right r ≡ true) rs
all_right p [] e = tt
all_right p (r ∷ rs) e =
    (and_first (right r) _ (walk_head in_order (λ prev r. r.class) p r rs e), all_right r.class rs (walk_tail in_order (λ prev r. r.class) p r rs e))

-- what holds of a file's records holds of those of a class, and these are of the class
pub all_of : (P : Record → Type 0) (c : ℕ) (rs : List Record) → All P rs → All P (of_class c rs)
unfolding of_class
all_of P c [] h = tt
all_of P c (r ∷ rs) h = by (eqb r.class c) (all_of P c rs h.1)
  where
    by : (b : Bool) → All P (of_class c rs) → All P (cond b (r ∷ of_class c rs) (of_class c rs))
    by true i = (h.0, i)
    by false i = i

pub all-class : (c : ℕ) (rs : List Record) → All (λ r. r.class ≡ c) (of_class c rs)
unfolding of_class
all-class c [] = tt
all-class c (r ∷ rs) = by (cases (eqb r.class c)) (all-class c rs)
  where
    by : (eqb r.class c ≡ true) ⊎ (eqb r.class c ≡ false) → All (λ r. r.class ≡ c) (of_class c rs) →
        All (λ r. r.class ≡ c) (cond (eqb r.class c) (r ∷ of_class c rs) (of_class c rs))
    by (inl e) i = rw e (eqb-true r.class c e, i)
    by (inr e) i = rw e i
