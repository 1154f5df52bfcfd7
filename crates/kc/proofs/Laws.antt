-- The table says of the constants 0 and 1 what the definition says.
use Prim.Native.Nat.{ℕ, zero, suc, ◌+◌, ◌-◌, ◌/◌, ◌≤◌, ◌<◌, min}
use native.Mathlib.Omega.{arith}
use mathlib.Core.Path.{◌≡◌, refl, sym, ap, ◌∙◌}
use mathlib.Core.Bool.{Bool, true, false, cond, ◌||◌}
use mathlib.Core.Logic.{◌⊎◌, inl, inr}
use mathlib.Core.List.{List, [], ◌∷◌}
use Rattle.std.proofs.Common.{Option, None, Some, zero-add}
use borrow.Author.Tests.{eqb-true, eqb-false, ne_eqb}
use lib.Dec.{eqb}
use lib.ListN.{length, get_or, drop, length-set, get_or-eq_default}
use lib.Seq.{drop-cons, get_or-set_same, get_or-set_other}
use Rattle.general.proofs.Numbers.{order}
use Rattle.records.specs.Record.{record_at, blank}
use Rattle.inst.specs.declared.Code.{Code}
use Rattle.roles.specs.Roles.{defs_of}
use Rattle.codec.specs.Codec.{inst_of, code_of}
use Rattle.procedure.specs.Procedure.{codes_of}
use Rattle.procedure.specs.Lists.{any_of, times, or_else, holds}
use Rattle.procedure.specs.Counts.{writes_in}
use Rattle.ends.specs.Forms.{fixed_of}
use Rattle.ends.proofs.Laws.{length_codes}
use Rattle.facts.proofs.Codes.{inst-at}
use Rattle.steps.specs.Facts.{word_of, writes, const_in, const_of}
use Rattle.steps.specs.Slice.{is_down}
use Rattle.kc.specs.declared.Kc.{Kc}
use Rattle.kc.specs.declared.Kc.TheVariants.{Unwritten, Zero, One, Other}
use Rattle.kc.specs.Storage.{constant, kc_in, by_word, marked, written, written_each, with_inst, with_code}

-- one record more, before those that are in the table
pub with-last : (b : List ℕ) (s t : List Kc) (k : ℕ) {u : List Kc} → k ≤ length b / 32 → 0 < k → t ≡ with_code s (drop k (codes_of b))
    → u ≡ with_inst t (inst_of (record_at b (k - 1))) → u ≡ with_code s (drop (k - 1) (codes_of b))
unfolding with_code
with-last b s t k h some e f =
    let l = codes_of b in
    let d = code_of blank in
    let next : suc (k - 1) ≡ k = omega arith in
    let there : k - 1 < length l = rw (length_codes b) (omega arith) in
    f
    ∙ ap (with_inst t) (inst-at b (k - 1) refl refl)
    ∙ ap (λ (t : List Kc). with_inst t (get_or l (k - 1) d).inst) (e ∙ ap (λ (n : ℕ). with_code s (drop n l)) (sym next))
    ∙ sym (ap (with_code s) (drop-cons l (k - 1) d there))

-- what a register is once it is written n times more by one instruction
again : ℕ → Kc → Kc → Kc
again zero k h = h
again (suc n) k h = again n k (marked h k)

-- what a register is that some code writes n times, the first Const of it with o
made_of : ℕ → Option ℕ → Kc
made_of zero o = Unwritten
made_of (suc zero) o = by_word o
made_of (suc (suc n)) o = Other

marked-word : (w : Option ℕ) (k : Kc) → marked (by_word w) k ≡ Other
marked-word None k = refl
marked-word (Some zero) k = refl
marked-word (Some (suc zero)) k = refl
marked-word (Some (suc (suc v))) k = refl

marked-twice : (h : Kc) (w : Option ℕ) → marked (marked h (by_word w)) (by_word w) ≡ Other
marked-twice Unwritten w = marked-word w (by_word w)
marked-twice Zero w = refl
marked-twice One w = refl
marked-twice Other w = refl

again-other : (n : ℕ) (k : Kc) → again n k Other ≡ Other
unfolding again
again-other zero k = refl
again-other (suc n) k = again-other n k

-- one instruction before some code
again_made : (n m : ℕ) (b : Bool) (w o : Option ℕ) → (n ≡ 0 → b ≡ false) → (0 < n → b ≡ true) → (m ≡ 0 → o ≡ None)
    → again n (by_word w) (made_of m o) ≡ made_of (n + m) (or_else (cond b w None) o)
unfolding again made_of
again_made zero m b w o out among bare = rw (out refl, zero-add m) refl
again_made (suc zero) zero b w o out among bare = rw (among (omega arith), bare refl) (by w)
  where
    by : (w : Option ℕ) → by_word w ≡ by_word (or_else w None)
    by None = refl
    by (Some v) = refl
again_made (suc zero) (suc zero) b w o out among bare = marked-word o (by_word w)
again_made (suc zero) (suc (suc m)) b w o out among bare =
    let e : suc zero + suc (suc m) ≡ suc (suc (suc m)) = omega arith in rw e refl
again_made (suc (suc n)) m b w o out among bare =
    let e : suc (suc n) + m ≡ suc (suc (n + m)) = omega arith in
    rw e (rw (marked-twice (made_of m o) w) (again-other n (by_word w)))

-- the table is as long as it was
each-length : (k : Kc) (t : List Kc) (rs : List ℕ) → length (written_each k t rs) ≡ length t
unfolding written_each written
each-length k t [] = refl
each-length k t (r ∷ rs) = each-length k (written k t r) rs ∙ length-set t r (marked (get_or t r Unwritten) k)

code-length : (t : List Kc) (c : List Code) → length (with_code t c) ≡ length t
unfolding with_code
code-length t [] = refl
code-length t (x ∷ c) = each-length (by_word (word_of (fixed_of x.inst))) (with_code t c) (defs_of x.inst) ∙ code-length t c

-- a register's place, once some registers are written
each_at : (k : Kc) (t : List Kc) (rs : List ℕ) (r : ℕ) → r < length t → get_or (written_each k t rs) r Unwritten ≡ again (times r rs) k (get_or t r Unwritten)
unfolding written_each written times again
each_at k t [] r h = refl
each_at k t (x ∷ rs) r h = by (eqb r x) refl (each_at k (written k t x) rs r (rw (length-set t x (marked (get_or t x Unwritten) k)) h))
  where
    by : (b : Bool) → eqb r x ≡ b → get_or (written_each k (written k t x) rs) r Unwritten ≡ again (times r rs) k (get_or (written k t x) r Unwritten)
        → get_or (written_each k (written k t x) rs) r Unwritten ≡ again (cond b 1 0 + times r rs) k (get_or t r Unwritten)
    by true e i =
        let same = eqb-true r x e in
        let n : 1 + times r rs ≡ suc (times r rs) = omega arith in
        rw n (i ∙ ap (again (times r rs) k) (rw (sym same) (get_or-set_same t r (marked (get_or t r Unwritten) k) Unwritten h)))
    by false e i =
        rw (zero-add (times r rs))
        (i ∙ ap (again (times r rs) k) (get_or-set_other t x r (marked (get_or t x Unwritten) k) Unwritten (eqb-false r x e)))

-- how often a register is written says whether it is
unwritten : (r : ℕ) (rs : List ℕ) → times r rs ≡ 0 → any_of (eqb r) rs ≡ false
unfolding times any_of
unwritten r [] h = refl
unwritten r (x ∷ rs) h = by (eqb r x) h (unwritten r rs)
  where
    by : (b : Bool) → cond b 1 0 + times r rs ≡ 0 → (times r rs ≡ 0 → any_of (eqb r) rs ≡ false) → (b || any_of (eqb r) rs) ≡ false
    by true h i = absurd (omega arith)
    by false h i = i (omega arith)

some-written : (r : ℕ) (rs : List ℕ) → 0 < times r rs → any_of (eqb r) rs ≡ true
unfolding times any_of
some-written r [] h = absurd (omega arith)
some-written r (x ∷ rs) h = by (eqb r x) h (some-written r rs)
  where
    by : (b : Bool) → 0 < cond b 1 0 + times r rs → (0 < times r rs → any_of (eqb r) rs ≡ true) → (b || any_of (eqb r) rs) ≡ true
    by true h i = refl
    by false h i = i (omega arith)

-- no Const writes a register that nothing writes
no_const : (r : ℕ) (c : List Code) → writes_in c r ≡ 0 → const_in c r ≡ None
unfolding writes_in const_in
no_const r [] h = refl
no_const r (x ∷ c) h = rw (unwritten r (defs_of x.inst) (omega arith)) (no_const r c (omega arith))

-- a register's place, once the code is in a table that was all Unwritten
code_at : (t : List Kc) (c : List Code) (r : ℕ) → r < length t → get_or t r Unwritten ≡ Unwritten
    → get_or (with_code t c) r Unwritten ≡ made_of (writes_in c r) (const_in c r)
unfolding with_code writes_in const_in made_of
code_at t [] r h clear = clear
code_at t (x ∷ c) r h clear =
    let w = word_of (fixed_of x.inst) in
    each_at (by_word w) (with_code t c) (defs_of x.inst) r (rw (code-length t c) h)
    ∙ ap (again (times r (defs_of x.inst)) (by_word w)) (code_at t c r h clear)
    ∙ again_made (times r (defs_of x.inst)) (writes_in c r) (writes r x.inst) w (const_in c r) (unwritten r (defs_of x.inst)) (some-written r (defs_of x.inst))
    (no_const r c)

-- two functions take the same registers for the constants 0 and 1
pub record Agree (f g : ℕ → Option ℕ) : Type 0 where
  pub zero : (r : ℕ) → holds (f r) 0 ≡ holds (g r) 0
  pub down : (r : ℕ) → is_down (f r) ≡ is_down (g r)

-- of a register that is written n times
abbrev told_by : ℕ → Option ℕ → Option ℕ
told_by n o = cond (eqb (min 255 n) 1) o None

told-zero : (n : ℕ) (o : Option ℕ) → holds (constant (made_of n o)) 0 ≡ holds (told_by n o) 0
unfolding made_of
told-zero zero o = refl
told-zero (suc zero) None = refl
told-zero (suc zero) (Some zero) = refl
told-zero (suc zero) (Some (suc zero)) = refl
told-zero (suc zero) (Some (suc (suc v))) = sym (ne_eqb (suc (suc v)) 0 (λ e. omega arith))
told-zero (suc (suc n)) o = rw (ne_eqb (min 255 (suc (suc n))) 1 (λ e. omega arith)) refl

told-down : (n : ℕ) (o : Option ℕ) → is_down (constant (made_of n o)) ≡ is_down (told_by n o)
unfolding made_of
told-down zero o = refl
told-down (suc zero) None = refl
told-down (suc zero) (Some zero) = refl
told-down (suc zero) (Some (suc zero)) = refl
told-down (suc zero) (Some (suc (suc v))) = refl
told-down (suc (suc n)) o = rw (ne_eqb (min 255 (suc (suc n))) 1 (λ e. omega arith)) refl

-- a table that was all Unwritten, and code that writes no register past it
module _ (t : List Kc) (c : List Code) (clear : (r : ℕ) → get_or t r Unwritten ≡ Unwritten) (within : (r : ℕ) → length t ≤ r → writes_in c r ≡ 0) where
  made_at : (r : ℕ) → get_or (with_code t c) r Unwritten ≡ made_of (writes_in c r) (const_in c r)
  unfolding made_of
  made_at r = by (order r (length t))
    where
      by : (r < length t) ⊎ (length t ≤ r) → get_or (with_code t c) r Unwritten ≡ made_of (writes_in c r) (const_in c r)
      by (inl h) = code_at t c r h (clear r)
      by (inr h) = get_or-eq_default (with_code t c) Unwritten (rw (code-length t c) h) ∙ sym (ap (λ (n : ℕ). made_of n (const_in c r)) (within r h))

  pub agree : Agree (kc_in (with_code t c)) (const_of c)
  unfolding kc_in const_of
  agree = record {
    zero = λ r. ap (λ (k : Kc). holds (constant k) 0) (made_at r) ∙ told-zero (writes_in c r) (const_in c r);
    down = λ r. ap (λ (k : Kc). is_down (constant k)) (made_at r) ∙ told-down (writes_in c r) (const_in c r);
  }
