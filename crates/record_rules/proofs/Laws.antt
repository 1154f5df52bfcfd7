-- Laws of the tests of a record's places.
use Prim.Native.Nat.{ℕ, zero, suc, ◌+◌, ◌*◌, ◌/◌, ◌%◌, ◌≤◌, ◌<◌}
use native.Mathlib.Nat.{zero-add, suc-add}
use mathlib.Core.Logic.{◌⊎◌, inl, inr, ⊎_elim}
use native.Mathlib.Omega.{arith}
use mathlib.Core.Path.{◌≡◌, refl, sym, ap, subst, ◌∙◌}
use mathlib.Core.Bool.{Bool, true, false, not, ◌&&◌, ◌||◌, cond, and-true}
use mathlib.Core.List.{List, [], ◌∷◌}
use lib.Dec.{leb, ltb, eqb, leb-suc-suc, leb-suc-zero, eqb-suc-zero}
use borrow.Author.Tests.{lt-ltb, le-ltb, lt-leb, ne_eqb, eq-eqb, eqb-true, eqb-false}
use lib.ListN.{get_or-eq_default, drop, drop_of_length-le}
use Rattle.general.proofs.Numbers.{order}
use Rattle.general.proofs.Booleans.{and_first, and_second}
pub use Rattle.general.proofs.Booleans.{both, neither}
use Rattle.records.specs.declared.Record.{Record}
use Rattle.records.specs.Kinds.{space_number, instruction_ops, zeros, fields, all_fit, places, kind_count, op_count}
use Rattle.records.specs.Kinds.{statement_fits, right}
use Rattle.record_rules.specs.Work.{plain}
use Rattle.record_rules.specs.declared.exist.Counts.{Counts}
use Rattle.record_rules.specs.Exist.{exist, all_exist, names_exist}

-- two functions agree on all numbers below one if they do on each, tried by computing
abbrev pub agrees : (ℕ → ℕ) → (ℕ → ℕ) → ℕ → Bool
agrees f g zero = true
agrees f g (suc n) = eqb (f n) (g n) && agrees f g n

pub agree : (f g : ℕ → ℕ) (n k : ℕ) → k < n → agrees f g n ≡ true → f k ≡ g k
agree f g zero k h e = absurd (omega arith)
agree f g (suc n) k h e = go (eqb k n) refl (λ i. agree f g n k i (and_second (eqb (f n) (g n)) (agrees f g n) e))
  where
    go : (t : Bool) → eqb k n ≡ t → (k < n → f k ≡ g k) → f k ≡ g k
    go true q i = subst (λ (j : ℕ). f j ≡ g j) (sym (eqb-true k n q)) (eqb-true (f n) (g n) (and_first (eqb (f n) (g n)) (agrees f g n) e))
    go false q i = let ne = eqb-false k n q in i (omega arith)

-- what holds of six places in each of n rows, by the number of a place
pub each_place : (P : ℕ → ℕ → Type 0) (n : ℕ) → ((j : ℕ) → j < 6 * n → P (j / 6) (j % 6)) → (k i : ℕ) → k < n → i < 6 → P k i
each_place P n f k i h s =
    let row : (6 * k + i) / 6 ≡ k = omega arith in
    let place : (6 * k + i) % 6 ≡ i = omega arith in
    subst (λ (x : ℕ). P x i) row (subst (λ (y : ℕ). P ((6 * k + i) / 6) y) place (f (6 * k + i) (omega arith)))

-- a sum is zero where each part is
eqb_add : (a s : ℕ) → eqb (a + s) 0 ≡ (eqb a 0 && eqb s 0)
eqb_add zero s = ap (λ (n : ℕ). eqb n 0) (zero-add s)
eqb_add (suc a) s = ap (λ (n : ℕ). eqb n 0) (suc-add a s) ∙ eqb-suc-zero (a + s) ∙ ap (λ (t : Bool). t && eqb s 0) (sym (eqb-suc-zero a))

pub together : (a b c d e f : Bool) → (((((a && b) && c) && d) && e) && f) ≡ (a && (b && (c && (d && (e && (f && true))))))
together false b c d e f = refl
together true false c d e f = refl
together true true false d e f = refl
together true true true false e f = refl
together true true true true false f = refl
together true true true true true f = sym (and-true f)

pub six_zeros : (a b c d e f : ℕ) → eqb (a + b + c + d + e + f) 0 ≡ zeros (a ∷ b ∷ c ∷ d ∷ e ∷ f ∷ [])
six_zeros a b c d e f = rw (eqb_add (a + b + c + d + e) f, eqb_add (a + b + c + d) e, eqb_add (a + b + c) d, eqb_add (a + b) c, eqb_add a b)
    (together (eqb a 0) (eqb b 0) (eqb c 0) (eqb d 0) (eqb e 0) (eqb f 0))

-- a space's number names nothing
pub space_exists : (n : Counts) (op p q : ℕ) → exist n (space_number op) p q ≡ true
space_exists n zero p q = refl
space_exists n (suc zero) p q = refl
space_exists n (suc (suc zero)) p q = refl
space_exists n (suc (suc (suc zero))) p q = refl
space_exists n (suc (suc (suc (suc zero)))) p q = refl
space_exists n (suc (suc (suc (suc (suc op))))) p q = refl

-- the fields past the first few, picked one by one
abbrev pub pick : ℕ → Record → List ℕ
pick u r = from 0 r.p1 ∷ from 1 r.p2 ∷ from 2 r.p3 ∷ from 3 r.p4 ∷ from 4 r.p5 ∷ from 5 r.p6 ∷ []
  where
    from : ℕ → ℕ → ℕ
    from k p = cond (leb u k) p 0

pub picked : (u : ℕ) (r : Record) → zeros (pick u r) ≡ zeros (drop u (fields r))
picked zero r = refl
picked (suc zero) r = refl
picked (suc (suc zero)) r = refl
picked (suc (suc (suc zero))) r = refl
picked (suc (suc (suc (suc zero)))) r = refl
picked (suc (suc (suc (suc (suc zero))))) r = refl
picked (suc (suc (suc (suc (suc (suc u)))))) r =
    let n = suc (suc (suc (suc (suc (suc u))))) in
    let past : (k : ℕ) → k < n → leb n k ≡ false = lt-leb n in
    rw (past 0 (omega arith), past 1 (omega arith), past 2 (omega arith), past 3 (omega arith), past 4 (omega arith), past 5 (omega arith))
    (sym (ap zeros (drop_of_length-le (fields r) {i = n} (omega arith))))

-- one op: the op is zero
below_one : (n : ℕ) → ltb n 1 ≡ eqb n 0
below_one zero = refl
below_one (suc n) = leb-suc-suc (suc n) 0 ∙ leb-suc-zero n ∙ sym (eqb-suc-zero n)

chain : (a b c d e : Bool) → (a && (b && (c && (d && e)))) ≡ ((a && (b && (c && (d && true)))) && e)
chain false b c d e = refl
chain true false c d e = refl
chain true true false d e = refl
chain true true true false e = refl
chain true true true true e = refl

-- a record's test, at a class that is written out
right_as : ℕ → Record → Bool
right_as c r =
    ltb r.kind (kind_count c)
    && (ltb r.op (op_count c r.kind)
    && (eqb r.zero 0
    && (statement_fits c r.stmt
    && all_fit (places c r.kind r.op) (fields r))))

right_as_lem : (r : Record) {c : ℕ} → r.class ≡ c → right r ≡ right_as c r
unfolding right right_as
right_as_lem r e = ap (λ (c : ℕ). right_as c r) e

head : (r : Record) (k : ℕ) (e : Bool) → (ltb r.kind k && (ltb r.op 1 && (eqb r.zero 0 && (eqb r.stmt 0 && e)))) ≡ (plain r k && e)
head r k e =
    ap (λ (t : Bool). ltb r.kind k && (t && (eqb r.zero 0 && (eqb r.stmt 0 && e)))) (below_one r.op)
    ∙ chain (ltb r.kind k) (eqb r.op 0) (eqb r.zero 0) (eqb r.stmt 0) e

-- the classes that have no op and no statement
pub data Plain : ℕ → Type 0 where
  registers : Plain 1
  blocks : Plain 2
  bodies : Plain 3
  operands : Plain 5
  arms : Plain 6

plain_as : (r : Record) {c : ℕ} → Plain c → right_as c r ≡ (plain r (kind_count c) && all_fit (places c r.kind r.op) (fields r))
unfolding right_as
plain_as r registers = head r 5 _
plain_as r blocks = head r 1 _
plain_as r bodies = head r 1 _
plain_as r operands = head r 1 _
plain_as r arms = head r 2 _

module _ (r : Record) {c : ℕ} (p : Plain c) (e : r.class ≡ c) where
  right-plain : right r ≡ (plain r (kind_count c) && all_fit (places c r.kind r.op) (fields r))
  right-plain = right_as_lem r e ∙ plain_as r p

  pub plain_fits : {h x : Bool} → h ≡ plain r (kind_count c) → h ≡ true → x ≡ all_fit (places c r.kind r.op) (fields r) → x ≡ right r
  plain_fits {h} {x} i t f = f ∙ sym (right-plain ∙ ap (λ (b : Bool). b && all_fit (places c r.kind r.op) (fields r)) (sym i ∙ t))

  pub plain-wrong : {h : Bool} → h ≡ plain r (kind_count c) → h ≡ false → h ≡ right r
  plain-wrong i t = t ∙ sym (right-plain ∙ ap (λ (b : Bool). b && all_fit (places c r.kind r.op) (fields r)) (sym i ∙ t))

-- the instructions
pub instruction_right :
    (r : Record) → r.class ≡ 4 →
    right r ≡ (ltb r.kind 24 && (ltb r.op (op_count 4 r.kind) && (eqb r.zero 0 && all_fit (places 4 r.kind r.op) (fields r))))
unfolding right_as
instruction_right r e = right_as_lem r e

no-ops : (k : ℕ) → 24 ≤ k → instruction_ops k ≡ 0
no-ops k i = get_or-eq_default (1 ∷ 1 ∷ 1 ∷ 6 ∷ 1 ∷ 6 ∷ 4 ∷ 7 ∷ 7 ∷ 4 ∷ 4 ∷ 5 ∷ 1 ∷ 1 ∷ 1 ∷ 1 ∷ 1 ∷ 2 ∷ 1 ∷ 1 ∷ 1 ∷ 2 ∷ 1 ∷ 1 ∷ []) 0 i

-- a kind that has an op is one of the 24
pub kind-listed : (k op : ℕ) → op < instruction_ops k → k < 24
kind-listed k op h = go (order k 24)
  where
    go : (k < 24) ⊎ (24 ≤ k) → k < 24
    go (inl i) = i
    go (inr i) = let e = subst (λ (n : ℕ). op < n) (no-ops k i) h in absurd (omega (arith, e))

module _ (r : Record) (e : r.class ≡ 4) where
  pub op-past : op_count 4 r.kind ≤ r.op → false ≡ right r
  op-past i = ⊎_elim in-range past (order r.kind 24)
    where
      past : 24 ≤ r.kind → false ≡ right r
      past h = neither _ refl (le-ltb r.kind 24 h) ∙ sym (instruction_right r e)

      in-range : r.kind < 24 → false ≡ right r
      in-range h = both refl (lt-ltb r.kind 24 h) (neither _ refl (le-ltb r.op _ i)) ∙ sym (instruction_right r e)

  pub zero-set : r.kind < 24 → r.op < op_count 4 r.kind → (r.zero ≡ 0 → ⊥) → false ≡ right r
  zero-set h i j = both refl (lt-ltb r.kind 24 h) (both refl (lt-ltb r.op _ i) (neither _ refl (ne_eqb r.zero 0 j))) ∙ sym (instruction_right r e)

  pub head_right : {x : Bool} → r.kind < 24 → r.op < op_count 4 r.kind → r.zero ≡ 0 → x ≡ all_fit (places 4 r.kind r.op) (fields r) → x ≡ right r
  head_right h i j f = both refl (lt-ltb r.kind 24 h) (both refl (lt-ltb r.op _ i) (both refl (eq-eqb r.zero 0 j) f)) ∙ sym (instruction_right r e)

-- no class past the sixth has a kind, and class 0 has none
no_kinds : (x : ℕ) → (x ≡ 1 → ⊥) → (x ≡ 2 → ⊥) → (x ≡ 3 → ⊥) → (x ≡ 4 → ⊥) → (x ≡ 5 → ⊥) → (x ≡ 6 → ⊥) → kind_count x ≡ 0
no_kinds zero a b c d e f = refl
no_kinds (suc zero) a b c d e f = absurd (a refl)
no_kinds (suc (suc zero)) a b c d e f = absurd (b refl)
no_kinds (suc (suc (suc zero))) a b c d e f = absurd (c refl)
no_kinds (suc (suc (suc (suc zero)))) a b c d e f = absurd (d refl)
no_kinds (suc (suc (suc (suc (suc zero))))) a b c d e f = absurd (e refl)
no_kinds (suc (suc (suc (suc (suc (suc zero)))))) a b c d e f = absurd (f refl)
no_kinds (suc (suc (suc (suc (suc (suc (suc x))))))) a b c d e f = refl

pub no_class :
    (r : Record) → (r.class ≡ 1 → ⊥) → (r.class ≡ 2 → ⊥) → (r.class ≡ 3 → ⊥) → (r.class ≡ 4 → ⊥) → (r.class ≡ 5 → ⊥) → (r.class ≡ 6 → ⊥) →
    false ≡ right r
unfolding right
no_class r a b c d e f = rw (no_kinds r.class a b c d e f, leb-suc-zero r.kind)

-- a record's names, at a class that is written out
names_as : ℕ → Counts → Record → Bool
names_as c n r = all_exist n (places c r.kind r.op) (fields r)

pub names_as_lem : (n : Counts) (r : Record) {c : ℕ} {x : Bool} → r.class ≡ c → x ≡ all_exist n (places c r.kind r.op) (fields r) → x ≡ names_exist n r
unfolding names_exist names_as
names_as_lem n r e f = f ∙ sym (ap (λ (c : ℕ). names_as c n r) e)

-- a body's block and an operand's register
others :
    (x : ℕ) (n : Counts) (r : Record) → (x ≡ 4 → ⊥) → (x ≡ 6 → ⊥) →
    ((not (eqb x 3) || ltb r.p1 n.blocks) && (not (eqb x 5) || ltb r.p1 n.registers)) ≡ names_as x n r
unfolding names_as
others zero n r c d = refl
others (suc zero) n r c d = refl
others (suc (suc zero)) n r c d = refl
others (suc (suc (suc zero))) n r c d = refl
others (suc (suc (suc (suc zero)))) n r c d = absurd (c refl)
others (suc (suc (suc (suc (suc zero))))) n r c d = sym (and-true _)
others (suc (suc (suc (suc (suc (suc zero)))))) n r c d = absurd (d refl)
others (suc (suc (suc (suc (suc (suc (suc x))))))) n r c d =
    let k = suc (suc (suc (suc (suc (suc (suc x)))))) in
    let body : k ≡ 3 → ⊥ = omega arith in
    let operand : k ≡ 5 → ⊥ = omega arith in
    rw (ne_eqb k 3 body, ne_eqb k 5 operand)

pub other_names :
    (n : Counts) (r : Record) → (r.class ≡ 4 → ⊥) → (r.class ≡ 6 → ⊥) →
    ((not (eqb r.class 3) || ltb r.p1 n.blocks) && (not (eqb r.class 5) || ltb r.p1 n.registers)) ≡ names_exist n r
unfolding names_exist names_as
other_names n r c d = others r.class n r c d

-- the classes that name nothing
pub no_names : (n : Counts) (r : Record) → (r.class ≡ 3 → ⊥) → (r.class ≡ 4 → ⊥) → (r.class ≡ 5 → ⊥) → (r.class ≡ 6 → ⊥) → true ≡ names_exist n r
no_names n r c d e f = rw (ne_eqb r.class 3 c, ne_eqb r.class 5 e) at (other_names n r d f)
