-- The rows of a table once it is filled.
use Prim.Native.Nat.{ℕ, ◌+◌, ◌*◌, ◌/◌, ◌≤◌, ◌<◌, min}
use native.Mathlib.Omega.{arith}
use mathlib.Core.Path.{◌≡◌, refl, sym, ap, ◌∙◌}
use mathlib.Core.Bool.{Bool, true, false, ◌||◌, or-false, or_assoc}
use mathlib.Core.List.{List, [], ◌∷◌, ◌++◌}
use Rattle.std.proofs.Common.{Option, None, Some}
use borrow.Author.Tests.{eqb-true, eqb-false}
use lib.Dec.{eqb}
use lib.ListN.{length, get_or, set, take, drop}
use lib.Seq.{get_or-set_same, get_or-set_other, length-take-le}
use Rattle.inst.specs.declared.Inst.{Inst}
use Rattle.inst.specs.declared.Code.{Code}
use Rattle.roles.specs.Roles.{defs_of, reads_of}
use Rattle.procedure.specs.Lists.{any_of, or_else, times, value_or}
use Rattle.procedure.specs.Counts.{writes_in, use_count}
use Rattle.steps.specs.Facts.{const_in}
use Rattle.facts.specs.Storage.{rows, row_of, table_of, class_of, konst_in, cap}
use Rattle.facts.proofs.Rows.{rows-length, rows_at, rows_ext, each-five}
use Rattle.count_facts.specs.Filling.{over, bare, counted, count_inst, class_step, fact_step, fact_code}
use Rattle.count_facts.proofs.Totals.{over-length, over-other, over-same}
use Rattle.count_facts.proofs.Classed.{told, bound_by, or_else_none, class-length, class-front, says_step}

-- the words of a row whose register was written d times and read u times, and of whose constant o and k were said
abbrev words : ℕ → ℕ → ℕ → Option ℕ → Bool → List ℕ
words kind d u o k = kind ∷ min 255 d ∷ min cap u ∷ class_of o k ∷ value_or 0 o ∷ []

-- a table has some words as a register's row
record Row (t : List ℕ) (r : ℕ) (w : List ℕ) : Type 0 where
  fits : 5 * r + 4 < length t
  at : (j : ℕ) → j < 5 → get_or t (5 * r + j) 0 ≡ get_or w j 0

words_eq : {t : List ℕ} {r kind d u e v : ℕ} {o p : Option ℕ} {k l : Bool} → d ≡ e → u ≡ v → o ≡ p → k ≡ l → Row t r (words kind d u o k) → Row t r (words kind e v p l)
words_eq a b c d row = rw (← a, ← b, ← c, ← d) row

or_else_assoc : (o a b : Option ℕ) → or_else (or_else o a) b ≡ or_else o (or_else a b)
or_else_assoc (Some v) a b = refl
or_else_assoc None a b = refl

-- some registers counted in a column
row_counted : (j most : ℕ) {t w : List ℕ} {r : ℕ} (rs : List ℕ) → j < 5 → length w ≡ 5 → get_or w j 0 ≤ most → Row t r w →
    Row (over (counted j most) t rs) r (set w j (min most (get_or w j 0 + times r rs)))
row_counted j most {t} {w} {r} rs h five m p = record {
  fits = rw (over-length j most t rs) p.fits;
  at = λ i n. by i n (eqb i j) refl;
}
  where
    by : (i : ℕ) → i < 5 → (b : Bool) → eqb i j ≡ b →
        get_or (over (counted j most) t rs) (5 * r + i) 0 ≡ get_or (set w j (min most (get_or w j 0 + times r rs))) i 0
    by i n true e =
        let had = p.at j h in
        let long = p.fits in
        rw (eqb-true i j e)
        (over-same j most t rs r (omega arith) (rw had m)
        ∙ rw had (sym (get_or-set_same w j (min most (get_or w j 0 + times r rs)) 0 (rw five h))))
    by i n false e =
        over-other j most t rs r i n h (eqb-false i j e)
        ∙ p.at i n
        ∙ sym (get_or-set_other w j i (min most (get_or w j 0 + times r rs)) 0 (eqb-false i j e))

-- one instruction, and then all in turn
module _ (ops : List ℕ) (r kind : ℕ) where
  row_count : (t : List ℕ) (x : Inst) (d u : ℕ) (o : Option ℕ) (k : Bool) → Row t r (words kind d u o k) →
      Row (count_inst ops t x) r (words kind (d + times r (defs_of x)) (u + times r (reads_of ops x)) o k)
  row_count t x d u o k p =
      let defs : min 255 (min 255 d + times r (defs_of x)) ≡ min 255 (d + times r (defs_of x)) = omega arith in
      let uses : min cap (min cap u + times r (reads_of ops x)) ≡ min cap (u + times r (reads_of ops x)) = omega arith in
      rw (← defs, ← uses) (row_counted 2 cap (reads_of ops x) (omega arith) refl (omega arith) (row_counted 1 255 (defs_of x) (omega arith) refl (omega arith) p))

  row_class : (t : List ℕ) (x : Inst) (d u : ℕ) (o : Option ℕ) (k : Bool) → Row t r (words kind d u o k) →
      Row (class_step t x) r (words kind d u (or_else o (told r x)) (k || bound_by r x))
  row_class t x d u o k p =
      let now = says_step t r p.fits o k (record { class = p.at 3 (omega arith); word = p.at 4 (omega arith) }) x in
      record {
        fits = rw (class-length t x) p.fits;
        at = each-five (λ j. get_or (class_step t x) (5 * r + j) 0 ≡ get_or (words kind d u (or_else o (told r x)) (k || bound_by r x)) j 0)
            (class-front t r 0 (omega arith) x ∙ p.at 0 (omega arith))
            (class-front t r 1 (omega arith) x ∙ p.at 1 (omega arith))
            (class-front t r 2 (omega arith) x ∙ p.at 2 (omega arith))
            now.class
            now.word;
      }

  row_all : (c : List Code) (t : List ℕ) (d u : ℕ) (o : Option ℕ) (k : Bool) → Row t r (words kind d u o k) →
      Row (over (fact_code ops) t c) r (words kind (d + writes_in c r) (u + use_count ops c r) (or_else o (const_in c r)) (k || konst_in c r))
  unfolding over writes_in use_count const_in any_of
  row_all [] t d u o k p = words_eq (omega arith) (omega arith) (sym (or_else_none o)) (sym (or-false k)) p
  row_all (x ∷ c) t d u o k p =
      let y = x.inst in
      let e = d + times r (defs_of y) in
      let v = u + times r (reads_of ops y) in
      words_eq (omega arith) (omega arith) (or_else_assoc o (told r y) (const_in c r)) (or_assoc k (bound_by r y) (konst_in c r))
      (row_all c (fact_step ops t y) e v (or_else o (told r y)) (k || bound_by r y) (row_class (count_inst ops t y) y e v o k (row_count t y d u o k p)))

facts-length : (ops t : List ℕ) (c : List Code) → length (over (fact_code ops) t c) ≡ length t
unfolding over
facts-length ops t [] = refl
facts-length ops t (x ∷ c) =
    facts-length ops (fact_code ops t x) c
    ∙ class-length (count_inst ops t x.inst) x.inst
    ∙ over-length 2 cap (over (counted 1 255) t (defs_of x.inst)) (reads_of ops x.inst)
    ∙ over-length 1 255 t (defs_of x.inst)

-- all the rows
pub filled : (kinds ops : List ℕ) (c : List Code) (n : ℕ) → over (fact_code ops) (rows n (bare kinds)) c ≡ rows n (row_of kinds ops c)
filled kinds ops c n =
    let t = rows n (bare kinds) in
    let long : length (rows n (bare kinds)) ≡ 5 * n = rows-length (bare kinds) (λ q. refl) n in
    rows_ext (row_of kinds ops c) (λ q. refl) n (over (fact_code ops) t c) (facts-length ops t c ∙ long)
    (λ r j h m.
    let row = row_all ops r (get_or kinds r 0) c t 0 0 None false (record { fits = rw long (omega arith); at = λ i s. rows_at (bare kinds) (λ q. refl) n r i 0 h s }) in
    (words_eq (omega arith) (omega arith) refl refl row).at j m)

-- what is filled at the front, with what stands behind it
pub put_back : (t kinds ops : List ℕ) (c : List Code) (n : ℕ) {u : List ℕ} → n ≡ min (length kinds) (length t / 5) →
    u ≡ rows (length (take (5 * n) t) / 5) (row_of kinds ops c) → u ++ drop (5 * n) t ≡ table_of t kinds ops c
unfolding table_of
put_back t kinds ops c n e f =
    let long : length (take (5 * n) t) / 5 ≡ n = (let m = length-take-le (5 * n) t (omega arith) in omega arith) in
    ap (λ (x : List ℕ). x ++ drop (5 * n) t) (f ∙ ap (λ (k : ℕ). rows k (row_of kinds ops c)) long)
    ∙ ap (λ (k : ℕ). rows k (row_of kinds ops c) ++ drop (5 * k) t) e
