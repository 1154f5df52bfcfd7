-- Records in order: the right records of class 1 stand first, then those of class 2, and so on.
use Prim.Native.Nat.{ℕ, zero, suc, ◌+◌, ◌≤◌, ◌<◌}
use native.Mathlib.Nat.{add-zero, zero-add, add_assoc, suc-add}
use native.Mathlib.Omega.{arith}
use mathlib.Core.Path.{◌≡◌, refl, sym, ap, subst, ◌∙◌}
use mathlib.Core.Bool.{Bool, true, false, ◌&&◌, cond}
use mathlib.Core.List.{List, [], ◌∷◌}
use mathlib.Core.Logic.{◌⊎◌, inl, inr, ⊎_elim}
use borrow.Author.Tests.{ltb-true, ltb-false, leb-true, leb-false, eqb-true, eqb-false, lt-ltb, le-ltb, le-leb, lt-leb, eq-eqb, ne_eqb}
use lib.Dec.{eqb, ltb, leb}
use lib.ListN.{length, take, drop, length-drop}
use lib.Seq.{drop-drop}
pub use Rattle.general.proofs.Booleans.{and_first, and_second}
use Rattle.general.proofs.Booleans.{cases}
use Rattle.records.specs.declared.Record.{Record}
use Rattle.records.specs.Kinds.{right}
use Rattle.record_rules.proofs.Laws.{no_class}
use Rattle.layout.specs.Walk.{walk, lead}
use Rattle.layout.specs.Classes.{in_order, ordered, of_class, before}
use Rattle.layout.specs.Work.{right_of}
use Rattle.layout.proofs.Walks.{walk_pass, walk_stop, walk_head, walk_tail, lead_le}

-- how many records are right and in order after one of class p
pub Ordered : ℕ → List Record → ℕ
Ordered p rs = walk in_order (λ prev r. r.class) p rs

-- all are
pub Sorted : ℕ → List Record → Type 0
Sorted p rs = Ordered p rs ≡ length rs

ordered_pass : (p : ℕ) (r : Record) (rs : List Record) → in_order p r ≡ true → Ordered p (r ∷ rs) ≡ suc (Ordered r.class rs)
unfolding Ordered
ordered_pass p r rs e = walk_pass in_order (λ prev r. r.class) rs e

ordered_stop : (p : ℕ) (r : Record) (rs : List Record) → in_order p r ≡ false → Ordered p (r ∷ rs) ≡ 0
unfolding Ordered
ordered_stop p r rs e = walk_stop in_order (λ prev r. r.class) rs e

lead-in : (c : ℕ) (r : Record) (rs : List Record) → right_of c r ≡ true → lead (right_of c) (r ∷ rs) ≡ suc (lead (right_of c) rs)
lead-in c r rs e = walk_pass (λ s r. right_of c r) (λ s r. s) rs e

lead_out : (c : ℕ) (r : Record) (rs : List Record) → right_of c r ≡ false → lead (right_of c) (r ∷ rs) ≡ 0
lead_out c r rs e = walk_stop (λ s r. right_of c r) (λ s r. s) rs e

-- what a sorted list says of its first record and the others
head_in : (p : ℕ) (r : Record) (rs : List Record) → Sorted p (r ∷ rs) → in_order p r ≡ true
unfolding Sorted Ordered
head_in p r rs h = walk_head in_order (λ prev r. r.class) p r rs h

pub tail_in : (p : ℕ) (r : Record) (rs : List Record) → Sorted p (r ∷ rs) → Sorted r.class rs
unfolding Sorted Ordered
tail_in p r rs h = walk_tail in_order (λ prev r. r.class) p r rs h

pub class-from : (p : ℕ) (r : Record) (rs : List Record) → Sorted p (r ∷ rs) → p ≤ r.class
class-from p r rs h = leb-true p r.class (and_second (right r) _ (head_in p r rs h))

-- a right record of a class is in order after that class, and others are so after the next class
pub in-class : (c : ℕ) (r : Record) → right_of c r ≡ true → r.class ≡ c
in-class c r e = eqb-true r.class c (and_first _ (right r) e)

right-in : (c : ℕ) (r : Record) → right_of c r ≡ true → in_order c r ≡ true
right-in c r e = rw (and_second (eqb r.class c) (right r) e, in-class c r e) (le-leb c c (omega arith))

out_next : (c : ℕ) (r : Record) → right_of c r ≡ false → in_order c r ≡ in_order (suc c) r
out_next c r e = ⊎_elim is isn't (cases (eqb r.class c))
  where
    is : eqb r.class c ≡ true → in_order c r ≡ in_order (suc c) r
    is i = let n : right r ≡ false = ap (λ (t : Bool). t && right r) (sym i) ∙ e in rw n

    same : (leb c r.class ≡ true) ⊎ (leb c r.class ≡ false) → eqb r.class c ≡ false → leb c r.class ≡ leb (suc c) r.class
    same (inl t) i = t ∙ sym (le-leb (suc c) r.class (let h = leb-true c r.class t in let n = eqb-false r.class c i in omega arith))
    same (inr t) i = t ∙ sym (lt-leb (suc c) r.class (let h = leb-false c r.class t in omega arith))

    isn't : eqb r.class c ≡ false → in_order c r ≡ in_order (suc c) r
    isn't i = ap (λ (t : Bool). right r && t) (same (cases (leb c r.class)) i)

-- a walk in order is the records of one class, and then a walk in order from the next class on
first_class : (c : ℕ) (rs : List Record) → Ordered c rs ≡ lead (right_of c) rs + Ordered (suc c) (drop (lead (right_of c) rs) rs)
unfolding Ordered walk
first_class c [] = refl
first_class c (r ∷ rs) = ⊎_elim (λ (e : right_of c r ≡ true). yes c r rs e (first_class c rs)) (λ (e : right_of c r ≡ false). no c r rs e) (cases (right_of c r))
  where
    yes :
        (c : ℕ) (r : Record) (rs : List Record) → right_of c r ≡ true →
        Ordered c rs ≡ lead (right_of c) rs + Ordered (suc c) (drop (lead (right_of c) rs) rs) →
        Ordered c (r ∷ rs) ≡ lead (right_of c) (r ∷ rs) + Ordered (suc c) (drop (lead (right_of c) (r ∷ rs)) (r ∷ rs))
    yes c r rs e h =
        ordered_pass c r rs (right-in c r e)
        ∙ ap (λ (k : ℕ). suc (Ordered k rs)) (in-class c r e)
        ∙ rw (lead-in c r rs e, suc-add) (ap suc h)

    no :
        (c : ℕ) (r : Record) (rs : List Record) → right_of c r ≡ false →
        Ordered c (r ∷ rs) ≡ lead (right_of c) (r ∷ rs) + Ordered (suc c) (drop (lead (right_of c) (r ∷ rs)) (r ∷ rs))
    no c r rs e = ap (λ (t : Bool). cond t (suc (Ordered r.class rs)) 0) (out_next c r e) ∙ rw (lead_out c r rs e, zero-add)

-- no record is of a class past the sixth
none-past : (rs : List Record) → Ordered 7 rs ≡ 0
unfolding Ordered walk
none-past [] = refl
none-past (r ∷ rs) = ordered_stop 7 r rs (⊎_elim past before' (cases (leb 7 r.class)))
  where
    past : leb 7 r.class ≡ true → in_order 7 r ≡ false
    past t =
        let h = leb-true 7 r.class t in
        rw (← no_class r (λ e. omega arith) (λ e. omega arith) (λ e. omega arith) (λ e. omega arith) (λ e. omega arith) (λ e. omega arith))

    before' : leb 7 r.class ≡ false → in_order 7 r ≡ false
    before' t = rw t (mathlib.Core.Bool.and-false (right r))

-- where the right records of the classes up to c end, one class after another
unfoldable pub end_of : ℕ → List Record → ℕ
end_of zero rs = 0
end_of (suc c) rs = end_of c rs + lead (right_of (suc c)) (drop (end_of c rs) rs)

classes_to : (c : ℕ) (rs : List Record) → Ordered 1 rs ≡ end_of c rs + Ordered (suc c) (drop (end_of c rs) rs)
unfolding end_of
classes_to zero rs = sym (zero-add (Ordered 1 rs))
classes_to (suc c) rs =
    classes_to c rs
    ∙ ap (λ (n : ℕ). end_of c rs + n) (first_class (suc c) (drop (end_of c rs) rs))
    ∙ rw (drop-drop, add_assoc)

-- the whole walk ends where the sixth class does
pub ordered_end : (rs : List Record) → ordered rs ≡ end_of 6 rs
unfolding Ordered
ordered_end rs = classes_to 6 rs ∙ rw (none-past (drop (end_of 6 rs) rs), add-zero)

-- what a sorted list has before a class
pub before-in : (d : ℕ) (r : Record) (rs : List Record) → r.class < d → before d (r ∷ rs) ≡ suc (before d rs)
unfolding before
before-in d r rs h = ap (λ (t : Bool). cond t (suc (before d rs)) (before d rs)) (lt-ltb r.class d h)

pub before_out : (d : ℕ) (r : Record) (rs : List Record) → d ≤ r.class → before d (r ∷ rs) ≡ before d rs
unfolding before
before_out d r rs h = ap (λ (t : Bool). cond t (suc (before d rs)) (before d rs)) (le-ltb r.class d h)

pub before-none : (d p : ℕ) (rs : List Record) → d ≤ p → Sorted p rs → before d rs ≡ 0
unfolding before
before-none d p [] h s = refl
before-none d p (r ∷ rs) h s = let i = class-from p r rs s in before_out d r rs (omega arith) ∙ before-none d r.class rs (omega arith) (tail_in p r rs s)

before-next : (c : ℕ) (rs : List Record) → Sorted c rs → before (suc c) rs ≡ lead (right_of c) rs
unfolding before walk
before-next c [] s = refl
before-next c (r ∷ rs) s =
    ⊎_elim (λ (e : right_of c r ≡ true). yes c r rs e (before-next c rs (subst (λ (k : ℕ). Sorted k rs) (in-class c r e) (tail_in c r rs s))))
    (λ (e : right_of c r ≡ false). no c r rs e s) (cases (right_of c r))
  where
    yes :
        (c : ℕ) (r : Record) (rs : List Record) → right_of c r ≡ true → before (suc c) rs ≡ lead (right_of c) rs →
        before (suc c) (r ∷ rs) ≡ lead (right_of c) (r ∷ rs)
    yes c r rs e h = before-in (suc c) r rs (let i = in-class c r e in omega arith) ∙ ap suc h ∙ sym (lead-in c r rs e)

    later : (c : ℕ) (r : Record) (rs : List Record) → right_of c r ≡ false → Sorted c (r ∷ rs) → suc c ≤ r.class
    later c r rs e s = leb-true (suc c) r.class (and_second (right r) _ (sym (out_next c r e) ∙ head_in c r rs s))

    no : (c : ℕ) (r : Record) (rs : List Record) → right_of c r ≡ false → Sorted c (r ∷ rs) → before (suc c) (r ∷ rs) ≡ lead (right_of c) (r ∷ rs)
    no c r rs e s = let i = later c r rs e s in before_out (suc c) r rs i ∙ before-none (suc c) r.class rs i (tail_in c r rs s) ∙ sym (lead_out c r rs e)

before_split : (c d : ℕ) (rs : List Record) → c < d → before d rs ≡ lead (right_of c) rs + before d (drop (lead (right_of c) rs) rs)
unfolding before walk
before_split c d [] h = refl
before_split c d (r ∷ rs) h =
    ⊎_elim (λ (e : right_of c r ≡ true). yes c d r rs h e (before_split c d rs h)) (λ (e : right_of c r ≡ false). rw (lead_out c r rs e, zero-add))
    (cases (right_of c r))
  where
    yes :
        (c d : ℕ) (r : Record) (rs : List Record) → c < d → right_of c r ≡ true →
        before d rs ≡ lead (right_of c) rs + before d (drop (lead (right_of c) rs) rs) →
        before d (r ∷ rs) ≡ lead (right_of c) (r ∷ rs) + before d (drop (lead (right_of c) (r ∷ rs)) (r ∷ rs))
    yes c d r rs h e i = before-in d r rs (let j = in-class c r e in omega arith) ∙ rw (lead-in c r rs e, suc-add) (ap suc i)

sorted-next : (c : ℕ) (rs : List Record) → Sorted c rs → Sorted (suc c) (drop (lead (right_of c) rs) rs)
unfolding Sorted
sorted-next c rs s = let e = first_class c rs in let i = lead_le (right_of c) rs in let j = length-drop (lead (right_of c) rs) rs in omega arith

sorted-to : (c : ℕ) (rs : List Record) → Sorted 1 rs → Sorted (suc c) (drop (end_of c rs) rs)
unfolding end_of
sorted-to zero rs s = s
sorted-to (suc c) rs s =
    subst (Sorted (suc (suc c))) (drop-drop (lead (right_of (suc c)) (drop (end_of c rs) rs)) (end_of c rs) rs)
    (sorted-next (suc c) (drop (end_of c rs) rs) (sorted-to c rs s))

before-to : (c d : ℕ) (rs : List Record) → c < d → before d rs ≡ end_of c rs + before d (drop (end_of c rs) rs)
unfolding end_of
before-to zero d rs h = sym (zero-add (before d rs))
before-to (suc c) d rs h =
    before-to c d rs (omega arith)
    ∙ ap (λ (n : ℕ). end_of c rs + n) (before_split (suc c) d (drop (end_of c rs) rs) h)
    ∙ rw (drop-drop, add_assoc)

-- in a sorted file the classes up to c end where the next one starts
pub before-end : (c : ℕ) (rs : List Record) → Sorted 1 rs → before (suc c) rs ≡ end_of c rs
unfolding end_of
before-end zero rs s = before-none 1 1 rs (omega arith) s
before-end (suc c) rs s =
    before-to c (suc (suc c)) rs (omega arith)
    ∙ ap (λ (n : ℕ). end_of c rs + n) (before-next (suc c) (drop (end_of c rs) rs) (sorted-to c rs s))

pub sorted_of : (rs : List Record) → ordered rs ≡ length rs → Sorted 1 rs
unfolding Sorted Ordered
sorted_of rs e = e

-- the records of a class stand together
of_in : (c : ℕ) (r : Record) (rs : List Record) → r.class ≡ c → of_class c (r ∷ rs) ≡ r ∷ of_class c rs
unfolding of_class
of_in c r rs e = ap (λ (t : Bool). cond t (r ∷ of_class c rs) (of_class c rs)) (eq-eqb r.class c e)

of_out : (c : ℕ) (r : Record) (rs : List Record) → (r.class ≡ c → ⊥) → of_class c (r ∷ rs) ≡ of_class c rs
unfolding of_class
of_out c r rs e = ap (λ (t : Bool). cond t (r ∷ of_class c rs) (of_class c rs)) (ne_eqb r.class c e)

of_none : (c p : ℕ) (rs : List Record) → c < p → Sorted p rs → of_class c rs ≡ []
unfolding of_class
of_none c p [] h s = refl
of_none c p (r ∷ rs) h s = let i = class-from p r rs s in of_out c r rs (λ e. omega arith) ∙ of_none c r.class rs (omega arith) (tail_in p r rs s)

-- how many there are of a class
pub before-count : (c : ℕ) (rs : List Record) → before (suc c) rs ≡ before c rs + length (of_class c rs)
unfolding before of_class
before-count c [] = refl
before-count c (r ∷ rs) = by (before-count c rs) (cases (ltb r.class c)) (cases (eqb r.class c))
  where
    by :
        before (suc c) rs ≡ before c rs + length (of_class c rs) → (ltb r.class c ≡ true) ⊎ (ltb r.class c ≡ false) →
        (eqb r.class c ≡ true) ⊎ (eqb r.class c ≡ false) → before (suc c) (r ∷ rs) ≡ before c (r ∷ rs) + length (of_class c (r ∷ rs))
    by h (inl t) (inl e) = absurd (let i = ltb-true r.class c t in let j = eqb-true r.class c e in omega arith)
    by h (inl t) (inr e) =
        let i = ltb-true r.class c t in
        before-in (suc c) r rs (omega arith) ∙ rw (before-in c r rs i, of_out c r rs (eqb-false r.class c e)) (omega arith)
    by h (inr t) (inl e) =
        let i = ltb-false r.class c t in
        let j = eqb-true r.class c e in
        before-in (suc c) r rs (omega arith) ∙ rw (before_out c r rs i, of_in c r rs j) (omega arith)
    by h (inr t) (inr e) =
        let i = ltb-false r.class c t in
        let j = eqb-false r.class c e in
        before_out (suc c) r rs (omega arith) ∙ rw (before_out c r rs i, of_out c r rs j) h

-- where they stand
pub of_part : (c p : ℕ) (rs : List Record) → Sorted p rs → of_class c rs ≡ take (length (of_class c rs)) (drop (before c rs) rs)
unfolding before of_class
of_part c p [] s = refl
of_part c p (r ∷ rs) s = by (of_part c r.class rs (tail_in p r rs s)) (cases (ltb r.class c)) (cases (eqb r.class c))
  where
    by :
        of_class c rs ≡ take (length (of_class c rs)) (drop (before c rs) rs) → (ltb r.class c ≡ true) ⊎ (ltb r.class c ≡ false) →
        (eqb r.class c ≡ true) ⊎ (eqb r.class c ≡ false) →
        of_class c (r ∷ rs) ≡ take (length (of_class c (r ∷ rs))) (drop (before c (r ∷ rs)) (r ∷ rs))
    by h (inl t) e = let i = ltb-true r.class c t in rw (of_out c r rs (λ j. omega arith), before-in c r rs i) h
    by h (inr t) (inl e) =
        let i = ltb-false r.class c t in
        let j = eqb-true r.class c e in
        let z = before-none c r.class rs i (tail_in p r rs s) in
        rw (of_in c r rs j, before_out c r rs i, z) (ap (λ (l : List Record). r ∷ l) (rw z at h))
    by h (inr t) (inr e) =
        let i = ltb-false r.class c t in
        let j = eqb-false r.class c e in
        rw (of_out c r rs j, of_none c r.class rs (omega arith) (tail_in p r rs s))
