-- Laws of reads judged one by one, and of the registers that an instruction reads.
use Prim.Native.Nat.{ℕ, suc, ◌+◌, ◌-◌, ◌≤◌, ◌<◌, min}
use native.Mathlib.Numerals.{add-one}
use native.Mathlib.Omega.{arith}
use mathlib.Core.Path.{◌≡◌, refl, sym, ap, ◌∙◌}
use mathlib.Core.Bool.{true, false}
use mathlib.Core.List.{List, [], ◌∷◌, ◌++◌, map}
use borrow.Author.Tests.{lt-ltb, le-ltb}
use lib.ListN.{length, get_or, drop, length-take, length-drop, length-map, drop_of_length-le, get_or-map}
use lib.Seq.{drop-cons, get_or-take, get_or-drop}
use Rattle.records.specs.declared.Record.{Record}
use Rattle.records.specs.Record.{blank}
use Rattle.layout.specs.declared.Layout.{Layout}
use Rattle.read.specs.Work.{part}
use Rattle.read.proofs.Laws.{part_length, part_at}
use Rattle.inst.specs.declared.Code.{Code}
use Rattle.codec.specs.Codec.{code_of, inst_of}
use Rattle.roles.specs.Roles.{reads_of, operands_of}
use Rattle.inst.specs.declared.Reg.{Reg}
use Rattle.inst.specs.declared.Regs.{Regs}
use Rattle.std.specs.Prelude.{Option, Some}
use Rattle.tidy.specs.declared.writers.Writer.{Writer}
use Rattle.tidy.specs.declared.writers.Writer.TheVariants as w
use Rattle.general.proofs.Lists.{get_d_any}
use Rattle.tidy.specs.Tidy.{Placed, Field, placed_in, placed_from, fields_at, reads}
use Rattle.tidy.specs.Work.Marks.{Leading, leading}
use Rattle.tidy.specs.Work.Reads.{judged_entry, offence, lower, step, judged_all}
use Rattle.tidy.specs.declared.reads.Reads.{Reads}
use Rattle.tidy.specs.declared.reader.Reader.{Reader}
use Rattle.tidy.specs.Work.Reader.{lowest_now, read, read_all}
use Rattle.tidy.specs.Work.Parts.{placed_at, operands_in, Fit}
use Rattle.tidy.proofs.Tables.{placed-step, placed_end, from_step, from_end, reads-append}

-- one read
module _ (m : Leading) (n : ℕ) (ws : List Writer) (k : ℕ) (s : Option Reg) (r : ℕ) where
  pub step_past : n ≤ r → s ≡ step m n ws k s r
  unfolding step offence
  step_past h = sym (rw (le-ltb r n h))

  module _ (h : r < n) (i : n ≤ length ws) (d : Writer) where
    any : get_or ws r w.Nothing ≡ get_or ws r d
    any = get_d_any ws r w.Nothing d (omega arith)

    pub step_right : judged_entry m (get_or ws r d) k ≡ false → s ≡ step m n ws k s r
    unfolding step offence
    step_right e = sym (rw (lt-ltb r n h, any, e))

    pub step_wrong : judged_entry m (get_or ws r d) k ≡ true → {x : Reg} → x.0 ≡ lower s r → Some x ≡ step m n ws k s r
    unfolding step offence
    step_wrong e {x} f = ap (λ (m : ℕ). let y : Reg = record { 0 = m } in Some y) f ∙ sym (rw (lt-ltb r n h, any, e))

-- one read more
pub read_more : (s : Reader) {t w : Reader} (l : List ℕ) (j : ℕ) → j < length l → t ≡ read s (get_or l j 0) → read_all s (drop j l) ≡ w → read_all t (drop (j + 1) l) ≡ w
unfolding read_all
read_more s {t} l j h e i =
    rw (add-one j)
    (ap (λ (t : Reader). read_all t (drop (suc j) l)) e
    ∙ sym (ap (read_all s) (drop-cons l j 0 h))
    ∙ i)

pub read_end : (s : Reader) {w : Reader} (l : List ℕ) (j : ℕ) → length l ≤ j → read_all s (drop j l) ≡ w → s ≡ w
unfolding read_all
read_end s l j h i = sym (ap (read_all s) (drop_of_length-le l h)) ∙ i

read-append : (xs ys : List ℕ) (s : Reader) → read_all s (xs ++ ys) ≡ read_all (read_all s xs) ys
unfolding read_all
read-append [] ys s = refl
read-append (x ∷ xs) ys s = read-append xs ys (read s x)

read-kept : (xs : List ℕ) (s : Reader) → (read_all s xs).reads ≡ s.reads
unfolding read_all read
read-kept [] s = refl
read-kept (x ∷ xs) s = read-kept xs (read s x)

-- some reads, and then others
pub read_both : (s : Reader) {t u : Reader} (xs : List ℕ) (ys : Reads → List ℕ) → t ≡ read_all s xs → u ≡ read_all t (ys t.reads) → u ≡ read_all s (xs ++ ys s.reads)
read_both s xs ys e i =
    i
    ∙ ap (λ (t : Reader). read_all t (ys t.reads)) e
    ∙ ap (λ (r : Reads). read_all (read_all s xs) (ys r)) (read-kept xs s)
    ∙ sym (read-append xs (ys s.reads) s)

-- the registers that one instruction reads
pub read-fields : (x : Placed) (s : Reader) (es : List (List ℕ)) (rs : List ℕ) → s.lead.now ≡ leading es x.block → s.place ≡ x.place
    → read_all s rs ≡ lowest_now s (judged_all es s.reads.f.l.blocks s.reads.ws.now s.lowest (fields_at x rs))
unfolding read_all read judged_all
read-fields x s es [] e f = refl
read-fields x s es (r ∷ rs) e f =
    read-fields x (read s r) es rs e f
    ∙ rw (e, f) refl

module _ (es : List (List ℕ)) (n : ℕ) (ws : List Writer) where
  judged-append : (fs gs : List Field) (s : Option Reg) → judged_all es n ws s (fs ++ gs) ≡ judged_all es n ws (judged_all es n ws s fs) gs
  unfolding judged_all
  judged-append [] gs s = refl
  judged-append (f ∷ fs) gs s = judged-append fs gs (step (leading es f.at.block) n ws f.at.place s f.reg)

  -- one instruction more of a block
  judged-inst :
      (ops : List ℕ) (l : List Record) (b k : ℕ) (s : Option Reg) → k < length l
      → judged_all es n ws (judged_all es n ws s (fields_at (placed_at b k (get_or l k blank)) (reads_of ops (inst_of (get_or l k blank)))))
      (reads ops (placed_in b (k + 1) (drop (k + 1) (map code_of l)))) ≡ judged_all es n ws s (reads ops (placed_in b k (drop k (map code_of l))))
  unfolding reads
  judged-inst ops l b k s h =
      sym (judged-append (fields_at (placed_at b k (get_or l k blank)) (reads_of ops (inst_of (get_or l k blank))))
      (reads ops (placed_in b (k + 1) (drop (k + 1) (map code_of l)))) s)
      ∙ sym (ap (λ (xs : List Placed). judged_all es n ws s (reads ops xs)) (placed-step l b k h))

  pub judged-next :
      (ops : List ℕ) (rs : List Record) (first count : ℕ) → first + count ≤ length rs → (b k : ℕ) (s : Option Reg) {t : Option Reg} → k < count
      → t ≡ judged_all es n ws s (fields_at (placed_at b k (get_or rs (first + k) blank)) (reads_of ops (inst_of (get_or rs (first + k) blank))))
      → judged_all es n ws t (reads ops (placed_in b (k + 1) (drop (k + 1) (map code_of (part first count rs)))))
      ≡ judged_all es n ws s (reads ops (placed_in b k (drop k (map code_of (part first count rs)))))
  judged-next ops rs first count h b k s i e =
      let l = part first count rs in
      ap (λ (u : Option Reg). judged_all es n ws u (reads ops (placed_in b (k + 1) (drop (k + 1) (map code_of l)))))
      (e ∙ ap (λ (r : Record). judged_all es n ws s (fields_at (placed_at b k r) (reads_of ops (inst_of r)))) (sym (part_at rs first count h k i)))
      ∙ judged-inst ops l b k s (rw (part_length rs first count h) i)

  pub judged-end :
      (ops : List ℕ) (l : List Record) (b k : ℕ) (s : Option Reg) → length l ≤ k
      → s ≡ judged_all es n ws s (reads ops (placed_in b k (drop k (map code_of l))))
  unfolding reads judged_all
  judged-end ops l b k s h = sym (ap (λ (xs : List Placed). judged_all es n ws s (reads ops xs)) (placed_end l b k h))

  -- one block more
  pub judged-block :
      (ops : List ℕ) (f : Record → List Code) (l : List Record) (k : ℕ) (s : Option Reg) → k < length l
      → judged_all es n ws (judged_all es n ws s (reads ops (placed_in k 0 (f (get_or l k blank)))))
      (reads ops (placed_from (k + 1) (drop (k + 1) (map f l)))) ≡ judged_all es n ws s (reads ops (placed_from k (drop k (map f l))))
  judged-block ops f l k s h =
      sym (judged-append (reads ops (placed_in k 0 (f (get_or l k blank)))) (reads ops (placed_from (k + 1) (drop (k + 1) (map f l)))) s)
      ∙ ap (judged_all es n ws s) (sym (reads-append ops (placed_in k 0 (f (get_or l k blank))) (placed_from (k + 1) (drop (k + 1) (map f l)))))
      ∙ sym (ap (λ (xs : List Placed). judged_all es n ws s (reads ops xs)) (from_step f l k h))

  pub judged-blocks :
      (ops : List ℕ) (f : Record → List Code) (l : List Record) (k : ℕ) (s : Option Reg) → length l ≤ k
      → s ≡ judged_all es n ws s (reads ops (placed_from k (drop k (map f l))))
  unfolding reads judged_all
  judged-blocks ops f l k s h = sym (ap (λ (xs : List Placed). judged_all es n ws s (reads ops xs)) (from_end f l k h))

-- the operands of a list, by their records
module _ {rs : List Record} {l : Layout} (h : Fit rs l) where
  operands-length : length (operands_in rs l) ≡ l.arms - l.operands
  operands-length = length-map (part l.operands (l.arms - l.operands) rs) (λ r. r.p1) ∙ part_length rs l.operands (l.arms - l.operands) (omega arith)

  operand_at : (k : ℕ) → k < l.arms - l.operands → (get_or rs (l.operands + k) blank).p1 ≡ get_or (operands_in rs l) k 0
  operand_at k i = sym (get_or-map (λ (r : Record). r.p1) (part l.operands (l.arms - l.operands) rs) k blank
      ∙ ap (λ (r : Record). r.p1) (part_at rs l.operands (l.arms - l.operands) (omega arith) k i))

  module _ (list : Regs) where
    abbrev listed : List ℕ
    listed = operands_of (operands_in rs l) list

    pub listed-length : length listed ≡ min list.len (l.arms - l.operands - list.start)
    listed-length = length-take list.len (drop list.start (operands_in rs l))
        ∙ rw (length-drop list.start (operands_in rs l), operands-length)

    pub listed-at : (j : ℕ) → j < list.len → list.start + j < l.arms - l.operands → {k : ℕ} → k ≡ l.operands + list.start + j
        → (get_or rs k blank).p1 ≡ get_or listed j 0
    listed-at j i o {k} e =
        let at : k ≡ l.operands + (list.start + j) = omega arith in
        ap (λ (m : ℕ). (get_or rs m blank).p1) at
        ∙ operand_at (list.start + j) o
        ∙ sym (get_or-take list.len (drop list.start (operands_in rs l)) j 0 i ∙ get_or-drop list.start (operands_in rs l) j 0)
