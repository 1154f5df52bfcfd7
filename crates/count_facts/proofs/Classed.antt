-- What one instruction says about a register's class, and what it leaves.
use Prim.Native.Nat.{ℕ, ◌+◌, ◌*◌, ◌<◌}
use native.Mathlib.Omega.{arith}
use mathlib.Core.Path.{◌≡◌, refl, sym, ◌∙◌}
use mathlib.Core.Bool.{Bool, true, false, cond, not, ◌&&◌, ◌||◌, or-false}
use mathlib.Core.List.{List}
use Rattle.std.proofs.Common.{Option, None, Some}
use borrow.Author.Tests.{lt-ltb, eqb-true, eqb-false}
use lib.Dec.{eqb, ltb}
use lib.ListN.{length, get_or, set, length-set}
use lib.Seq.{get_or-set_same, get_or-set_other}
use Rattle.inst.specs.declared.Inst.{Inst}
use Rattle.inst.specs.declared.Inst.TheVariants as i
use Rattle.ends.specs.Forms.{Form, const, const_f, addr_of, move, bool, bin, jump, other, form_of, fixed_of, is_up}
use Rattle.procedure.specs.Lists.{any_of, or_else, value_or}
use Rattle.steps.specs.Facts.{writes, word_of, bound}
use Rattle.facts.specs.Storage.{class_of}
use Rattle.count_facts.specs.Filling.{with_word, with_konst, class_in, class_step}

-- a table but for what is put at a class and a word
module _ (t : List ℕ) (d : ℕ) where
  word-length : (v : ℕ) → length (with_word t d v) ≡ length t
  unfolding with_word
  word-length v = by (ltb (5 * d + 4) (length t) && not (eqb (get_or t (5 * d + 3) 0) 1))
    where
      by : (b : Bool) → length (cond b (set (set t (5 * d + 3) 1) (5 * d + 4) v) t) ≡ length t
      by true = length-set (set t (5 * d + 3) 1) (5 * d + 4) v ∙ length-set t (5 * d + 3) 1
      by false = refl

  konst-length : length (with_konst t d) ≡ length t
  unfolding with_konst
  konst-length = by (eqb (get_or t (5 * d + 3) 0) 0)
    where
      by : (b : Bool) → length (cond b (set t (5 * d + 3) 2) t) ≡ length t
      by true = length-set t (5 * d + 3) 2
      by false = refl

  module _ (k : ℕ) (three : k ≡ 5 * d + 3 → ⊥) where
    word-other : (v : ℕ) → (k ≡ 5 * d + 4 → ⊥) → get_or (with_word t d v) k 0 ≡ get_or t k 0
    unfolding with_word
    word-other v four = by (ltb (5 * d + 4) (length t) && not (eqb (get_or t (5 * d + 3) 0) 1))
      where
        by : (b : Bool) → get_or (cond b (set (set t (5 * d + 3) 1) (5 * d + 4) v) t) k 0 ≡ get_or t k 0
        by true = get_or-set_other (set t (5 * d + 3) 1) (5 * d + 4) k v 0 four ∙ get_or-set_other t (5 * d + 3) k 1 0 three
        by false = refl

    konst-other : get_or (with_konst t d) k 0 ≡ get_or t k 0
    unfolding with_konst
    konst-other = by (eqb (get_or t (5 * d + 3) 0) 0)
      where
        by : (b : Bool) → get_or (cond b (set t (5 * d + 3) 2) t) k 0 ≡ get_or t k 0
        by true = get_or-set_other t (5 * d + 3) k 2 0 three
        by false = refl

-- what is no class and no word stays
form-length : (t : List ℕ) (f : Form) → length (class_in t f) ≡ length t
form-length t (const d v) = word-length t d.0 v
form-length t (const_f d) = konst-length t d.0
form-length t (addr_of d true) = refl
form-length t (addr_of d false) = konst-length t d.0
form-length t (move d q) = refl
form-length t (bool op d x y) = refl
form-length t (bin ranged op) = refl
form-length t (jump e) = refl
form-length t other = refl

form-front : (t : List ℕ) (r j : ℕ) → j < 3 → (f : Form) → get_or (class_in t f) (5 * r + j) 0 ≡ get_or t (5 * r + j) 0
form-front t r j h (const d v) = word-other t d.0 (5 * r + j) (λ q. omega arith) v (λ q. omega arith)
form-front t r j h (const_f d) = konst-other t d.0 (5 * r + j) (λ q. omega arith)
form-front t r j h (addr_of d true) = refl
form-front t r j h (addr_of d false) = konst-other t d.0 (5 * r + j) (λ q. omega arith)
form-front t r j h (move d q) = refl
form-front t r j h (bool op d x y) = refl
form-front t r j h (bin ranged op) = refl
form-front t r j h (jump e) = refl
form-front t r j h other = refl

pub class-length : (t : List ℕ) (x : Inst) → length (class_step t x) ≡ length t
unfolding class_step
class-length t x = form-length t (form_of x)

pub class-front : (t : List ℕ) (r j : ℕ) → j < 3 → (x : Inst) → get_or (class_step t x) (5 * r + j) 0 ≡ get_or t (5 * r + j) 0
unfolding class_step
class-front t r j h x = form-front t r j h (form_of x)

-- what the class and the word of a row say
pub record Says (t : List ℕ) (r : ℕ) (o : Option ℕ) (k : Bool) : Type 0 where
  pub class : get_or t (5 * r + 3) 0 ≡ class_of o k
  pub word : get_or t (5 * r + 4) 0 ≡ value_or 0 o

-- what an instruction says of a register's constant, and whether it makes it one
abbrev pub told : ℕ → Inst → Option ℕ
told r x = cond (writes r x) (word_of (fixed_of x)) None

abbrev pub bound_by : ℕ → Inst → Bool
bound_by r x = writes r x && bound (fixed_of x)

pub or_else_none : (o : Option ℕ) → or_else o None ≡ o
or_else_none (Some v) = refl
or_else_none None = refl

-- nothing more is said
kept : {t : List ℕ} {r : ℕ} (u : List ℕ) (b : Bool) (o : Option ℕ) (k : Bool) → get_or u (5 * r + 3) 0 ≡ get_or t (5 * r + 3) 0 →
    get_or u (5 * r + 4) 0 ≡ get_or t (5 * r + 4) 0 → Says t r o k → Says u r (or_else o (cond b None None)) (k || (b && false))
kept u true o k e f p = rw (or_else_none o, or-false k) (record { class = e ∙ p.class; word = f ∙ p.word })
kept u false o k e f p = rw (or_else_none o, or-false k) (record { class = e ∙ p.class; word = f ∙ p.word })

-- one instruction
module _ (t : List ℕ) (r : ℕ) (fits : 5 * r + 4 < length t) where
  word_put : (v : ℕ) (k : Bool) → Says (set (set t (5 * r + 3) 1) (5 * r + 4) v) r (Some v) k
  word_put v k = record {
    class = get_or-set_other (set t (5 * r + 3) 1) (5 * r + 4) (5 * r + 3) v 0 (λ q. omega arith) ∙ get_or-set_same t (5 * r + 3) 1 0 (omega arith);
    word = get_or-set_same (set t (5 * r + 3) 1) (5 * r + 4) v 0 (rw (length-set t (5 * r + 3) 1) fits);
  }

  word_mine : (v : ℕ) (o : Option ℕ) (k : Bool) → Says t r o k → Says (with_word t r v) r (or_else o (Some v)) (k || true)
  unfolding with_word
  word_mine v (Some w) k p = rw (lt-ltb (5 * r + 4) (length t) fits, p.class) (record { class = p.class; word = p.word })
  word_mine v None true p = rw (lt-ltb (5 * r + 4) (length t) fits, p.class) (word_put v true)
  word_mine v None false p = rw (lt-ltb (5 * r + 4) (length t) fits, p.class) (word_put v true)

  konst_mine : (o : Option ℕ) (k : Bool) → Says t r o k → Says (with_konst t r) r (or_else o None) (k || true)
  unfolding with_konst
  konst_mine (Some w) k p = rw p.class (record { class = p.class; word = p.word })
  konst_mine None true p = rw p.class (record { class = p.class; word = p.word })
  konst_mine None false p =
      rw p.class
      (record {
        class = get_or-set_same t (5 * r + 3) 2 0 (omega arith);
        word = get_or-set_other t (5 * r + 3) (5 * r + 4) 2 0 (λ q. omega arith) ∙ p.word;
      })

  module _ (o : Option ℕ) (k : Bool) (p : Says t r o k) where
    -- a Const of d, and a ConstF or AddrOf of d
    word_any : (d v : ℕ) (b : Bool) → eqb r d ≡ b → Says (with_word t d v) r (or_else o (cond (b || false) (Some v) None)) (k || ((b || false) && true))
    word_any d v true e = let same = eqb-true r d e in rw (sym same) (word_mine v o k p)
    word_any d v false e =
        let other = eqb-false r d e in
        kept (with_word t d v) false o k
        (word-other t d (5 * r + 3) (λ q. other (omega arith)) v (λ q. omega arith))
        (word-other t d (5 * r + 4) (λ q. omega arith) v (λ q. other (omega arith)))
        p

    konst_any : (d : ℕ) (b : Bool) → eqb r d ≡ b → Says (with_konst t d) r (or_else o (cond (b || false) None None)) (k || ((b || false) && true))
    konst_any d true e = let same = eqb-true r d e in rw (sym same) (konst_mine o k p)
    konst_any d false e =
        let other = eqb-false r d e in
        kept (with_konst t d) false o k
        (konst-other t d (5 * r + 3) (λ q. other (omega arith)))
        (konst-other t d (5 * r + 4) (λ q. omega arith))
        p

    silent : (b : Bool) → Says t r (or_else o (cond b None None)) (k || (b && false))
    silent b = kept t b o k refl refl p

    address_any : (d : ℕ) (up : Bool) → Says (cond up t (with_konst t d)) r (or_else o (cond (eqb r d || false) None None)) (k || ((eqb r d || false) && not up))
    address_any d true = silent (eqb r d || false)
    address_any d false = konst_any d (eqb r d) refl

    pub says_step : (x : Inst) → Says (class_step t x) r (or_else o (told r x)) (k || bound_by r x)
    unfolding class_step form_of fixed_of any_of
    says_step (i.Const d v) = word_any d.0 v (eqb r d.0) refl
    says_step (i.ConstF d v) = konst_any d.0 (eqb r d.0) refl
    says_step (i.Move d q) = silent (writes r (i.Move d q))
    says_step (i.AddrOf d q f) = address_any d.0 (is_up q)
    says_step (i.Select d c x y) = silent (writes r (i.Select d c x y))
    says_step (i.Cmp op d x y) = silent (writes r (i.Cmp op d x y))
    says_step (i.Bool op d x y) = silent (writes r (i.Bool op d x y))
    says_step (i.Bin op d x y) = silent (writes r (i.Bin op d x y))
    says_step (i.BinRange op d x y l h w) = silent (writes r (i.BinRange op d x y l h w))
    says_step (i.Load d a w) = silent (writes r (i.Load d a w))
    says_step (i.Store a q w) = silent (writes r (i.Store a q w))
    says_step (i.Check c v l h w) = silent (writes r (i.Check c v l h w))
    says_step (i.MakeDope a q) = silent (writes r (i.MakeDope a q))
    says_step (i.DopeLen d q n) = silent (writes r (i.DopeLen d q n))
    says_step (i.BoundsLen d l q e) = silent (writes r (i.BoundsLen d l q e))
    says_step (i.Alloc d q) = silent (writes r (i.Alloc d q))
    says_step (i.TakeBounds l q e) = silent (writes r (i.TakeBounds l q e))
    says_step (i.CallNative n a d) = silent (writes r (i.CallNative n a d))
    says_step (i.Br b) = silent (writes r (i.Br b))
    says_step (i.CondBr c b f) = silent (writes r (i.CondBr c b f))
    says_step (i.Case v b) = silent (writes r (i.Case v b))
    says_step (i.Ret v) = silent (writes r (i.Ret v))
    says_step (i.Unreachable w) = silent (writes r (i.Unreachable w))
    says_step i.Stmt = silent (writes r i.Stmt)
