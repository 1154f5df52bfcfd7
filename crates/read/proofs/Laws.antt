-- Laws of parts of a file.
use Prim.Native.Nat.{ℕ, suc, ◌+◌, ◌-◌, ◌≤◌, ◌<◌}
use native.Mathlib.Numerals.{add-one}
use native.Mathlib.Omega.{arith}
use mathlib.Core.Path.{◌≡◌, refl, sym, ap, ◌∙◌}
use mathlib.Core.Bool.{Bool, true, false, cond}
use mathlib.Core.List.{List, [], ◌∷◌, ◌++◌}
use borrow.Author.Tests.{eqb-true}
use lib.Dec.{eqb}
use lib.ListN.{length, get_or, take, drop, length-drop}
use lib.Seq.{get_or-take, get_or-drop, length-take-le, take-suc, take-take, drop-drop}
use Rattle.general.proofs.Lists.{drop-take}
pub use Rattle.general.proofs.Booleans.{otherwise}
use Rattle.general.proofs.Booleans.{told, and_first, and_second}
use Rattle.records.specs.declared.Record.{Record}
use Rattle.records.specs.Record.{blank}
use Rattle.layout.specs.Walk.{walk, lead}
use Rattle.layout.proofs.Walks.{walk_head, walk_tail, pass_at, stop_at, end-at}
use Rattle.read.specs.Structure.{State, code_of, is_default, tables, numbers, next_arm}
use Rattle.read.specs.Work.{part, InCode}

module _ (rs : List Record) (first count : ℕ) (h : first + count ≤ length rs) where
  pub part_length : length (part first count rs) ≡ count
  part_length = length-take-le count (drop first rs) (let e = length-drop first rs in omega arith)

  pub part_at : (k : ℕ) → k < count → get_or (part first count rs) k blank ≡ get_or rs (first + k) blank
  part_at k i = get_or-take count (drop first rs) k blank i ∙ get_or-drop first rs k blank

pub pair : {a b c d : ℕ} → a ≡ b → c ≡ d → ◌≡◌ {A = State} (a, c) (b, d)
pair e f = rw (e, f)

-- a walk along a part of a file, whose records are read one by one
module _ {S : Type 0} (ok : S → Record → Bool) (next : S → Record → S)
    (rs : List Record) (first count : ℕ) (h : first + count ≤ length rs) (k : ℕ) (s : S) where
  pub part_pass :
      {r : Record} {f : Bool} {t : S} → k < count → r ≡ get_or rs (first + k) blank → f ≡ ok s r → f ≡ true → t ≡ next s r →
      (k + 1) + walk ok next t (drop (k + 1) (part first count rs)) ≡ k + walk ok next s (drop k (part first count rs))
  part_pass i e f g t =
      let e' = e ∙ sym (part_at rs first count h k i) in
      ap (λ (u : S). (k + 1) + walk ok next u (drop (k + 1) (part first count rs))) (t ∙ ap (next s) e')
      ∙ pass_at ok next (part first count rs) k blank s (rw (part_length rs first count h) i) (told (ok s) e' f g)

  pub part_stop :
      {r : Record} {f : Bool} → k < count → r ≡ get_or rs (first + k) blank → f ≡ ok s r → f ≡ false →
      k ≡ k + walk ok next s (drop k (part first count rs))
  part_stop i e f g =
      let e' = e ∙ sym (part_at rs first count h k i) in
      stop_at ok next (part first count rs) k blank s (rw (part_length rs first count h) i) (told (ok s) e' f g)

  pub part_end : count ≤ k → k ≡ k + walk ok next s (drop k (part first count rs))
  part_end i = end-at ok next (part first count rs) k s (rw (part_length rs first count h) i)

-- the same of a walk that only tests
module _ (p : Record → Bool) (rs : List Record) (first count : ℕ) (h : first + count ≤ length rs) (k : ℕ) where
  pub tests_pass :
      {r : Record} {f : Bool} → k < count → r ≡ get_or rs (first + k) blank → f ≡ p r → f ≡ true →
      (k + 1) + lead p (drop (k + 1) (part first count rs)) ≡ k + lead p (drop k (part first count rs))
  tests_pass i e f g = part_pass (λ s r. p r) (λ s r. s) rs first count h k (tt {0}) i e f g refl

  pub tests_stop : {r : Record} {f : Bool} → k < count → r ≡ get_or rs (first + k) blank → f ≡ p r → f ≡ false → k ≡ k + lead p (drop k (part first count rs))
  tests_stop = part_stop (λ s r. p r) (λ s r. s) rs first count h k (tt {0})

  pub tests-end : count ≤ k → k ≡ k + lead p (drop k (part first count rs))
  tests-end = part_end (λ s r. p r) (λ s r. s) rs first count h k (tt {0})

-- the code of a block
pub code-part : (rs : List Record) (code n : ℕ) (r : Record) → r.p1 < r.p2 → r.p2 ≤ n → part (code + r.p1) (r.p2 - r.p1) rs ≡ code_of (part code n rs) r
code-part rs code n r h i =
    sym
    (ap (take (r.p2 - r.p1)) (drop-take r.p1 n (drop code rs) ∙ ap (take (n - r.p1)) (drop-drop r.p1 code rs))
    ∙ take-take (r.p2 - r.p1) (n - r.p1) (drop (code + r.p1) rs) (omega arith))

pub in_code :
    (rs : List Record) (first count n k : ℕ) (h : first + count ≤ length rs) (r : Record) → InCode n (part first count rs) → k < count →
    r ≡ get_or rs (first + k) blank → (r.p1 < r.p2) × (r.p2 ≤ n)
in_code rs first count n k h r q i e = rw (e ∙ sym (part_at rs first count h k i)) (q k (rw (part_length rs first count h) i))

-- one arm more
tables_snoc : (l : List Record) (r : Record) → tables (l ++ (r ∷ [])) ≡ tables l + cond (is_default r) 1 0
unfolding tables
tables_snoc [] r = omega arith
tables_snoc (x ∷ l) r = let h = tables_snoc l r in omega arith

pub tables-next :
    (rs : List Record) (first count k : ℕ) (h : first + count ≤ length rs) (r : Record) → k < count → r ≡ get_or rs (first + k) blank → {t d : ℕ} →
    d ≡ tables (take k (part first count rs)) → t ≡ cond (is_default r) 1 0 → d + t ≡ tables (take (k + 1) (part first count rs))
tables-next rs first count k h r i e {t} {d} f g =
    rw (f, g, e ∙ sym (part_at rs first count h k i), add-one k, take-suc (part first count rs) k blank (rw (part_length rs first count h) i))
    (sym (tables_snoc (take k (part first count rs)) (get_or (part first count rs) k blank)))

-- all of some arms are numbered as they should be, from table k on
abbrev pub Numbered : ℕ → List Record → Type 0
Numbered k rs = walk numbers next_arm (k, length rs) rs ≡ length rs

module _ (k : ℕ) (r : Record) (rs : List Record) (h : Numbered k (r ∷ rs)) where
  pub first_table : r.p1 ≡ k
  unfolding numbers
  first_table = eqb-true r.p1 k (and_first (eqb r.p1 k) _ (walk_head numbers next_arm (k, suc (length rs)) r rs h))

  pub last-default : length rs ≡ 0 → is_default r ≡ true
  unfolding numbers
  last-default i =
      let e = rw i at (walk_head numbers next_arm (k, suc (length rs)) r rs h) in
      and_second (eqb r.p1 k) _ e

  pub next-table : (d : ℕ) → k + cond (is_default r) 1 0 ≡ d → Numbered d rs
  next-table d i =
      let f : suc (length rs) - 1 ≡ length rs = omega arith in
      rw (i, f) at (walk_tail numbers next_arm (k, suc (length rs)) r rs h)
