-- Blocks that tile the code end well if each ends in a terminator and the code has no more terminators than blocks.
use Prim.Native.Nat.{ℕ, zero, suc, ◌+◌, ◌-◌, ◌≤◌, ◌<◌}
use native.Mathlib.Omega.{arith}
use mathlib.Core.Path.{◌≡◌, refl, sym, ap, ◌∙◌}
use mathlib.Core.Bool.{Bool, true, false, not, cond}
use mathlib.Core.List.{List, [], ◌∷◌}
use mathlib.Core.Logic.{◌⊎◌, inl, inr}
use borrow.Author.Tests.{eq-eqb, eqb-true}
use lib.Dec.{eqb}
use lib.ListN.{length, get_or, drop, length-drop}
use lib.Seq.{get_or-take, get_or-drop, length-take-le, drop-drop}
use Rattle.std.specs.List.{count_by}
use Rattle.std.proofs.lemmas.List.Sums.{sum_by-cons, sum_by-take-drop, get_or-le-sum_by}
use Rattle.general.proofs.Booleans.{cases, and_first}
use Rattle.records.specs.declared.Record.{Record}
use Rattle.records.specs.Record.{blank}
use Rattle.layout.specs.Walk.{walk, lead}
use Rattle.layout.proofs.Walks.{walk_pass, walk_stop, walk_head, walk_tail}
use Rattle.read.specs.Structure.{State, tiles, next_block, terminator, code_of, ended, ends_well}
use Rattle.read.specs.Work.{closes}
use Rattle.read.proofs.Laid.{tiles-in}

-- some code whose last instruction, that at place k, is a terminator
module _ (p : Record → Bool) where
  has_one : (l : List Record) (k : ℕ) → suc k ≡ length l → p (get_or l k blank) ≡ true → 1 ≤ count_by p l
  has_one l k h e =
      let m = get_or-le-sum_by (λ r. cond (p r) 1 0) l k blank (omega arith) in
      rw e at m

  -- one instruction more
  count-cons : (r : Record) (l : List Record) {t : Bool} → p r ≡ t → count_by p (r ∷ l) ≡ cond t 1 0 + count_by p l
  count-cons r l e = sum_by-cons (λ r. cond (p r) 1 0) r l ∙ ap (λ (t : Bool). cond t 1 0 + count_by p l) e

  -- if it has no more than one, the first is the last
  only_one : (l : List Record) (k : ℕ) → suc k ≡ length l → p (get_or l k blank) ≡ true → count_by p l ≤ 1 → lead (λ r. not (p r)) l ≡ k
  only_one [] k h e m = absurd (omega arith)
  only_one (r ∷ l) zero h e m = walk_stop (λ s r. not (p r)) (λ s r. s) l (ap not e)
  only_one (r ∷ l) (suc k) h e m = let i : suc k ≡ length l = omega arith in by (has_one l k i e) (only_one l k i e) (cases (p r))
    where
      by : 1 ≤ count_by p l → (count_by p l ≤ 1 → lead (λ r. not (p r)) l ≡ k) → (p r ≡ true) ⊎ (p r ≡ false) → lead (λ r. not (p r)) (r ∷ l) ≡ suc k
      by some on (inl t) = absurd (omega (arith, count-cons r l t))
      by some on (inr t) = walk_pass (λ s r. not (p r)) (λ s r. s) l (ap not t) ∙ ap suc (on (omega (arith, count-cons r l t)))

abbrev count : List Record → ℕ
count l = count_by terminator l

-- a block's code, from place p1 to before place p2
module _ (code : List Record) (r : Record) (h : r.p1 < r.p2) (i : r.p2 ≤ length code) where
  size : length (code_of code r) ≡ r.p2 - r.p1
  size = length-take-le (r.p2 - r.p1) (drop r.p1 code) (omega (arith, length-drop r.p1 code))

  last : closes code r ≡ true → terminator (get_or (code_of code r) (r.p2 - r.p1 - 1) blank) ≡ true
  last e =
      let at : r.p1 + (r.p2 - r.p1 - 1) ≡ r.p2 - 1 = omega arith in
      ap terminator
      (get_or-take (r.p2 - r.p1) (drop r.p1 code) (r.p2 - r.p1 - 1) blank (omega arith)
      ∙ get_or-drop r.p1 code (r.p2 - r.p1 - 1) blank
      ∙ ap (λ (k : ℕ). get_or code k blank) at)
      ∙ e

  own : closes code r ≡ true → 1 ≤ count (code_of code r)
  own e = has_one terminator (code_of code r) (r.p2 - r.p1 - 1) (omega (arith, size)) (last e)

  ends : closes code r ≡ true → count (code_of code r) ≤ 1 → ends_well (code_of code r) ≡ true
  ends e m = let k = only_one terminator (code_of code r) (r.p2 - r.p1 - 1) (omega (arith, size)) (last e) m in eq-eqb _ _ (rw k (omega (arith, size)))

  -- the terminators from its start on are its own and those from its end on
  parted : count (drop r.p1 code) ≡ count (code_of code r) + count (drop r.p2 code)
  parted =
      let on : r.p1 + (r.p2 - r.p1) ≡ r.p2 = omega arith in
      sym (sum_by-take-drop (λ r. cond (terminator r) 1 0) (drop r.p1 code) (r.p2 - r.p1))
      ∙ ap (λ (l : List Record). count (code_of code r) + count l) (drop-drop (r.p2 - r.p1) r.p1 code ∙ ap (λ (k : ℕ). drop k code) on)

-- the blocks from one on: each has a terminator, and if there are no more, each ends in its only one
pub ends_from :
    (code : List Record) (s : State) (bs : List Record) → walk (tiles (length code)) next_block s bs ≡ length bs → lead (closes code) bs ≡ length bs →
    (length bs ≤ count (drop s.0 code)) × (count (drop s.0 code) ≤ length bs → ended code bs ≡ length bs)
unfolding walk tiles
ends_from code s [] t e = (omega arith, λ m. refl)
ends_from code s (r ∷ bs) t e =
    let tile = walk_head (tiles (length code)) next_block s r bs t in
    let (h, i) = tiles-in (length code) s r tile in
    let c = walk_head (λ s r. closes code r) (λ s r. s) (tt {0}) r bs e in
    let on = ends_from code (next_block s r) bs (walk_tail (tiles (length code)) next_block s r bs t) (walk_tail (λ s r. closes code r) (λ s r. s) (tt {0}) r bs e) in
    let few : length bs ≤ count (drop r.p2 code) = on.0 in
    let p = ap (λ (k : ℕ). count (drop k code)) (sym (eqb-true r.p1 s.0 (and_first (eqb r.p1 s.0) _ tile))) ∙ parted code r h i in
    let o = own code r h i c in
    (omega arith, λ m. walk_pass (λ s r. ends_well (code_of code r)) (λ s r. s) {r = r} bs (ends code r h i c (omega arith)) ∙ ap suc (on.1 (omega arith)))
