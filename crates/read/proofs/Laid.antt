-- What the layout of a file in order says of its classes, and the answers that follow.
use Prim.Native.Nat.{ℕ, zero, suc, ◌+◌, ◌-◌, ◌≤◌, ◌<◌}
use native.Mathlib.Nat.{zero-add, suc-add}
use native.Mathlib.Omega.{arith}
use mathlib.Core.Path.{◌≡◌, refl, sym, ap, ◌∙◌}
use mathlib.Core.Bool.{Bool, true, false, cond}
use mathlib.Core.List.{List, [], ◌∷◌}
use mathlib.Core.Logic.{◌⊎◌, inl, inr}
use borrow.Author.Tests.{lt-ltb, le-ltb, eq-eqb, ltb-true, ltb-false, leb-true, eqb-true}
use lib.Dec.{ltb, leb, eqb}
use lib.ListN.{length, drop}
use Rattle.general.proofs.Booleans.{cases, and_first, and_second}
use Rattle.records.specs.declared.Record.{Record}
use Rattle.records.specs.Record.{records_of}
use Rattle.record_rules.specs.declared.exist.Counts.{Counts}
use Rattle.record_rules.specs.Exist.{names_exist}
use Rattle.record_rules.proofs.Laws.{no_names}
use Rattle.layout.specs.declared.Layout.{Layout}
use Rattle.layout.specs.Walk.{walk, lead}
use Rattle.layout.specs.Classes.{in_order, ordered, of_class, before, layout_of}
use Rattle.layout.proofs.Walks.{walk_pass, walk_head, walk_tail, walk_le}
use Rattle.layout.proofs.Order.{Sorted, sorted_of, before-none, before-count, before-end, ordered_end, of_part, tail_in, before-in, before_out}
use Rattle.read.specs.Structure.{State, tiles, next_block, tiled, tables}
use Rattle.read.specs.Reading.{Reading, answer, unless, counts_of, named, beyond, beyond_limit}
use Rattle.read.specs.declared.span.Span.{Span}
use Rattle.read.specs.Work.{part, InCode, LaidOut}
use Rattle.read.specs.Spans.{spanned, OfClass}
use Rattle.read.proofs.Laws.{part_length}

-- where each class starts, by how many records each has
pub record Sizes (rs : List Record) (l : Layout) : Type 0 where
  pub registers : l.blocks ≡ length (of_class 1 rs)
  pub blocks : l.bodies ≡ l.blocks + length (of_class 2 rs)
  pub bodies : l.code ≡ l.bodies + length (of_class 3 rs)
  pub code : l.operands ≡ l.code + length (of_class 4 rs)
  pub operands : l.arms ≡ l.operands + length (of_class 5 rs)
  pub arms : l.end ≡ l.arms + length (of_class 6 rs)
  pub all : l.end ≡ length rs

module _ {rs : List Record} {l : Layout} (h : LaidOut rs l) where
  sorted : Sorted 1 rs
  sorted = sorted_of rs h.sorted

  pub sizes : Sizes rs l
  sizes = record {
    registers = h.blocks ∙ before-count 1 rs ∙ rw (before-none 1 1 rs (omega arith) sorted) (zero-add (length (of_class 1 rs)));
    blocks = h.bodies ∙ before-count 2 rs ∙ rw h.blocks;
    bodies = h.code ∙ before-count 3 rs ∙ rw h.bodies;
    code = h.operands ∙ before-count 4 rs ∙ rw h.code;
    operands = h.arms ∙ before-count 5 rs ∙ rw h.operands;
    arms = h.end ∙ sym h.sorted ∙ ordered_end rs ∙ sym (before-end 6 rs sorted) ∙ before-count 6 rs ∙ rw h.arms;
    all = h.end;
  }

  -- the part of the file that a class fills
  pub class-part : (c : ℕ) {x y : ℕ} → x ≡ before c rs → y ≡ length (of_class c rs) → part x y rs ≡ of_class c rs
  class-part c e f = rw (e, f) (sym (of_part c 1 rs sorted))

-- answers
pub refuse_at : (number first k n : ℕ) (o : Reading) {p : ℕ} {x : Reading} → x ≡ answer number p → p ≡ first + k → k < n → x ≡ unless number first k n o
unfolding unless
refuse_at number first k n o e f h = e ∙ ap (answer number) f ∙ sym (rw (lt-ltb k n h))

pub pass_on : (number first k n : ℕ) {o x : Reading} → n ≤ k → x ≡ o → x ≡ unless number first k n o
unfolding unless
pass_on number first k n h e = e ∙ sym (rw (le-ltb k n h))

-- a refusal stands, whatever would follow
pub stands : (number first k n : ℕ) (o x : Reading) → (x.number ≡ 0 → ⊥) → x ≡ unless number first k n (answer 0 0) → x ≡ unless number first k n o
unfolding unless
stands number first k n o x h e = by (cases (ltb k n))
  where
    by : (ltb k n ≡ true) ⊎ (ltb k n ≡ false) → x ≡ unless number first k n o
    by (inl t) = (rw t at e) ∙ sym (rw t)
    by (inr t) = absurd (h (ap (λ (y : Reading). y.number) (rw t at e)))

-- a condition that an accepted file passed
pub passed : (number first k n : ℕ) (o : Reading) → 0 < number → (unless number first k n o).number ≡ 0 → (n ≤ k) × (o.number ≡ 0)
unfolding unless
passed number first k n o h e = by (cases (ltb k n))
  where
    by : (ltb k n ≡ true) ⊎ (ltb k n ≡ false) → (n ≤ k) × (o.number ≡ 0)
    by (inl t) = absurd (let i : number ≡ 0 = sym (rw t) ∙ e in omega arith)
    by (inr t) = (ltb-false k n t, sym (rw t) ∙ e)

-- all are fine where nothing is refused
pub all_fine : (number first k n : ℕ) → 0 < number → answer 0 0 ≡ unless number first k n (answer 0 0) → n ≤ k
all_fine number first k n h e = (passed number first k n (answer 0 0) h (sym (ap (λ (y : Reading). y.number) e))).0

pub held : (b : Bool) (number place : ℕ) (o : Reading) → 0 < number → (cond b (answer number place) o).number ≡ 0 → (b ≡ false) × (o.number ≡ 0)
held true number place o h e = absurd (omega arith)
held false number place o h e = (refl, e)

-- registers and blocks name nothing
pub names-from : (n : Counts) (p : ℕ) (rs : List Record) → Sorted p rs → lead (names_exist n) rs ≡ before 3 rs + lead (names_exist n) (drop (before 3 rs) rs)
unfolding before
names-from n p [] s = sym (zero-add _)
names-from n p (r ∷ rs) s = by (names-from n r.class rs (tail_in p r rs s)) (cases (ltb r.class 3))
  where
    by :
        lead (names_exist n) rs ≡ before 3 rs + lead (names_exist n) (drop (before 3 rs) rs) → (ltb r.class 3 ≡ true) ⊎ (ltb r.class 3 ≡ false) →
        lead (names_exist n) (r ∷ rs) ≡ before 3 (r ∷ rs) + lead (names_exist n) (drop (before 3 (r ∷ rs)) (r ∷ rs))
    by h (inl t) =
        let i = ltb-true r.class 3 t in
        walk_pass (λ s r. names_exist n r) (λ s r. s) rs (sym (no_names n r (λ e. omega arith) (λ e. omega arith) (λ e. omega arith) (λ e. omega arith)))
        ∙ rw (before-in 3 r rs i, suc-add) (ap suc h)
    by h (inr t) =
        let i = ltb-false r.class 3 t in
        let z = before_out 3 r rs i ∙ before-none 3 r.class rs i (tail_in p r rs s) in
        rw (z, zero-add)

-- blocks that tile lie within the code
pub tiles-in : (n : ℕ) (s : State) (r : Record) → tiles n s r ≡ true → (r.p1 < r.p2) × (r.p2 ≤ n)
unfolding tiles
tiles-in n s r e =
    let f = and_second (eqb r.p1 s.0) _ e in
    let g = and_second (ltb r.p1 r.p2) _ f in
    (ltb-true r.p1 r.p2 (and_first (ltb r.p1 r.p2) _ f), leb-true r.p2 n (and_first (leb r.p2 n) _ g))

pub in-tiles : (n : ℕ) (s : State) (bs : List Record) → walk (tiles n) next_block s bs ≡ length bs → InCode n bs
in-tiles n s [] e k h = absurd (omega arith)
in-tiles n s (r ∷ bs) e zero h = tiles-in n s r (walk_head (tiles n) next_block s r bs e)
in-tiles n s (r ∷ bs) e (suc k) h = in-tiles n (next_block s r) bs (walk_tail (tiles n) next_block s r bs e) k (omega arith)

pub tiled-in : (s : Span) (n : ℕ) → s.count ≤ tiled n (spanned s) → InCode n (spanned s)
tiled-in s n i =
    let bs = spanned s in
    let m = walk_le (tiles n) next_block (0, length bs) bs in
    let w = part_length (records_of s.b.now) s.first s.count s.within in
    in-tiles n (0, length bs) bs (omega arith)

-- what a walk along the span of a class tells, by the class
pub of-class :
    {c : ℕ} {rs : List Record} {s : Span} → OfClass c rs s → (number : ℕ) (walked : List Record → ℕ) {x : Reading} →
    x ≡ unless number s.first (walked (spanned s)) s.count (answer 0 0) →
    x ≡ unless number (before c rs) (walked (of_class c rs)) (length (of_class c rs)) (answer 0 0)
of-class {c} {rs} {s} h number walked e =
    e
    ∙ ap (λ (f : ℕ). unless number f (walked (spanned s)) s.count (answer 0 0)) h.first
    ∙ ap (λ (l : List Record). unless number (before c rs) (walked l) s.count (answer 0 0)) h.spanned
    ∙ ap (λ (n : ℕ). unless number (before c rs) (walked (of_class c rs)) n (answer 0 0)) h.count

module _ {rs : List Record} {l : Layout} (h : LaidOut rs l) where
  pub counts_are :
      (n : Counts) → n.registers ≡ l.blocks → n.blocks ≡ l.bodies - l.blocks → n.tables ≡ tables (of_class 6 rs) →
      n.operands ≡ l.arms - l.operands → n ≡ counts_of rs
  counts_are n a b c d =
      let z = sizes h in
      let a' : n.registers ≡ length (of_class 1 rs) = omega arith in
      let b' : n.blocks ≡ length (of_class 2 rs) = omega arith in
      let d' : n.operands ≡ length (of_class 5 rs) = omega arith in
      rw (← a', ← b', ← c, ← d')

  pub all_named : (n : Counts) {k : ℕ} → n ≡ counts_of rs → k ≡ l.bodies + lead (names_exist n) (drop l.bodies rs) → k ≡ named rs
  all_named n e f =
      f
      ∙ ap (λ (x : ℕ). x + lead (names_exist n) (drop x rs)) h.bodies
      ∙ sym (names-from n 1 rs (sorted_of rs h.sorted))
      ∙ ap (λ (m : Counts). lead (names_exist m) rs) e

-- the layout that the classes give
module _ (rs : List Record) {l : Layout} (e : l ≡ layout_of rs) where
  pub end_is : l.end ≡ ordered rs
  end_is = ap (λ (m : Layout). m.end) e ∙ by (cases (eqb (ordered rs) (length rs)))
    where
      by : (eqb (ordered rs) (length rs) ≡ true) ⊎ (eqb (ordered rs) (length rs) ≡ false) → (layout_of rs).end ≡ ordered rs
      by (inl t) = rw t (sym (eqb-true (ordered rs) (length rs) t))
      by (inr t) = rw t

  pub laid_of : length rs ≤ l.end → LaidOut rs l
  laid_of i =
      let m = walk_le in_order (λ prev r. r.class) 1 rs in
      let o : ordered rs ≡ length rs = let f = end_is in omega arith in
      let q : l ≡ record { blocks = before 2 rs; bodies = before 3 rs; code = before 4 rs; operands = before 5 rs; arms = before 6 rs; end = length rs } =
      e ∙ rw (eq-eqb (ordered rs) (length rs) o) in
      record {
        sorted = o;
        blocks = ap (λ (m : Layout). m.blocks) q;
        bodies = ap (λ (m : Layout). m.bodies) q;
        code = ap (λ (m : Layout). m.code) q;
        operands = ap (λ (m : Layout). m.operands) q;
        arms = ap (λ (m : Layout). m.arms) q;
        end = ap (λ (m : Layout). m.end) q;
      }

pub beyond-is :
    {rs : List Record} {l : Layout} → LaidOut rs l →
    beyond l.blocks (l.bodies - l.blocks) (l.code - l.bodies) (l.operands - l.code) (l.arms - l.operands) (l.end - l.arms) ≡ beyond_limit rs
beyond-is {rs} {l} h =
    let z = sizes h in
    let b : l.bodies - l.blocks ≡ length (of_class 2 rs) = omega arith in
    let c : l.code - l.bodies ≡ length (of_class 3 rs) = omega arith in
    let d : l.operands - l.code ≡ length (of_class 4 rs) = omega arith in
    let e : l.arms - l.operands ≡ length (of_class 5 rs) = omega arith in
    let f : l.end - l.arms ≡ length (of_class 6 rs) = omega arith in
    rw (b, c, d, e, f, z.registers)
