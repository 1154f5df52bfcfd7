-- Laws of the table of writers, and of the instructions that it is made from.
use Prim.Native.Nat.{ℕ, ◌+◌, ◌-◌, ◌≤◌, ◌<◌}
use native.Mathlib.Numerals.{add-one}
use native.Mathlib.Omega.{arith}
use mathlib.Core.Path.{◌≡◌, refl, sym, ap, ◌∙◌}
use mathlib.Core.List.{List, [], ◌∷◌, ◌++◌, map, append_assoc}
use Rattle.general.proofs.Lists.{get_d_any}
use lib.ListN.{length, get_or, set, drop, length-set, length-map, get_or-map, drop_of_length-le}
use lib.Seq.{drop-cons, set_out}
use Rattle.records.specs.declared.Record.{Record}
use Rattle.records.specs.Record.{blank}
use Rattle.layout.specs.declared.Layout.{Layout}
use Rattle.read.specs.Work.{part}
use Rattle.read.proofs.Laws.{part_length, part_at, code-part}
use Rattle.inst.specs.declared.Code.{Code}
use Rattle.codec.specs.Codec.{code_of, inst_of}
use Rattle.inst.specs.declared.Reg.{Reg}
use Rattle.roles.specs.Roles.{defs_of, reads_of, numbers_of, reg_of}
use Rattle.roles.proofs.Laws.{numbers-length, number_at}
use Rattle.tidy.specs.Tidy.{Placed, Field, placed_in, placed_from, fields_at, written, reads}
use Rattle.tidy.specs.declared.writers.Writer.{Writer}
use Rattle.tidy.specs.declared.writers.Writer.TheVariants as w
use Rattle.tidy.specs.Work.Writers.{entry_of, joined_entry, enter, enter_all, entered}
use Rattle.tidy.specs.Work.Parts.{placed_at, block_records, block_code, Fit, BlockPart}

-- one writer more
module _ (ws : List Writer) (r : ℕ) (v : Writer) where
  pub note_out : length ws ≤ r → ws ≡ enter ws r v
  unfolding enter
  note_out h = sym (set_out ws r (joined_entry (get_or ws r w.Nothing) v) h)

  pub note_in : (d : Writer) → r < length ws → {x : Writer} → x ≡ joined_entry (get_or ws r d) v → set ws r x ≡ enter ws r v
  unfolding enter
  note_in d h e = ap (set ws r) (e ∙ ap (λ (x : Writer). joined_entry x v) (get_d_any ws r d w.Nothing h))

  pub length-note : length (enter ws r v) ≡ length ws
  unfolding enter
  length-note = length-set ws r (joined_entry (get_or ws r w.Nothing) v)

pub length-noted : (fs : List Field) (ws : List Writer) → length (entered ws fs) ≡ length ws
unfolding entered
length-noted [] ws = refl
length-noted (f ∷ fs) ws = length-noted fs (enter ws f.reg (entry_of f.at)) ∙ length-note ws f.reg (entry_of f.at)

pub notes-step :
    (ws : List Writer) (v : Writer) (l : List ℕ) (j : ℕ) → j < length l
    → enter_all (enter ws (get_or l j 0) v) v (drop (j + 1) l) ≡ enter_all ws v (drop j l)
unfolding enter_all
notes-step ws v l j h = rw (add-one j) (sym (ap (enter_all ws v) (drop-cons l j 0 h)))

-- one register more
pub notes-more :
    (ws : List Writer) (v : Writer) (l : List Reg) (j : ℕ) → j < length l → {us : List Writer} → us ≡ enter ws (get_or l j (reg_of 0)).0 v
    → (length us ≡ length ws) × (enter_all us v (drop (j + 1) (numbers_of l)) ≡ enter_all ws v (drop j (numbers_of l)))
notes-more ws v l j h e =
    let i = e ∙ ap (λ (r : ℕ). enter ws r v) (sym (number_at l j 0)) in (
      ap length i ∙ length-note ws (get_or (numbers_of l) j 0) v,
      ap (λ (us : List Writer). enter_all us v (drop (j + 1) (numbers_of l))) i ∙ notes-step ws v (numbers_of l) j (rw (numbers-length l) h),
    )

pub notes-end : (ws : List Writer) (v : Writer) (l : List ℕ) (j : ℕ) → length l ≤ j → ws ≡ enter_all ws v (drop j l)
unfolding enter_all
notes-end ws v l j h = sym (ap (enter_all ws v) (drop_of_length-le l h))

pub notes-noted : (ws : List Writer) (x : Placed) (rs : List ℕ) → enter_all ws (entry_of x) rs ≡ entered ws (fields_at x rs)
unfolding enter_all entered
notes-noted ws x [] = refl
notes-noted ws x (r ∷ rs) = notes-noted (enter ws r (entry_of x)) x rs

pub noted-append : (fs gs : List Field) (ws : List Writer) → entered ws (fs ++ gs) ≡ entered (entered ws fs) gs
unfolding entered
noted-append [] gs ws = refl
noted-append (f ∷ fs) gs ws = noted-append fs gs (enter ws f.reg (entry_of f.at))

pub written-append : (xs ys : List Placed) → written (xs ++ ys) ≡ written xs ++ written ys
unfolding written
written-append [] ys = refl
written-append (x ∷ xs) ys = ap (λ (l : List Field). fields_at x (defs_of x.inst) ++ l) (written-append xs ys)
    ∙ sym (append_assoc (fields_at x (defs_of x.inst)) (written xs) (written ys))

pub reads-append : (ops : List ℕ) (xs ys : List Placed) → reads ops (xs ++ ys) ≡ reads ops xs ++ reads ops ys
unfolding reads
reads-append ops [] ys = refl
reads-append ops (x ∷ xs) ys = ap (λ (l : List Field). fields_at x (reads_of ops x.inst) ++ l) (reads-append ops xs ys)
    ∙ sym (append_assoc (fields_at x (reads_of ops x.inst)) (reads ops xs) (reads ops ys))

-- one instruction more of a block
pub placed-step :
    (l : List Record) (b k : ℕ) → k < length l
    → placed_in b k (drop k (map code_of l)) ≡ placed_at b k (get_or l k blank) ∷ placed_in b (k + 1) (drop (k + 1) (map code_of l))
unfolding placed_in
placed-step l b k h =
    ap (placed_in b k) (drop-cons (map code_of l) k (code_of blank) (rw (length-map l code_of) h))
    ∙ rw (get_or-map code_of l k blank, add-one k)

pub placed_end : (l : List Record) (b k : ℕ) → length l ≤ k → placed_in b k (drop k (map code_of l)) ≡ []
unfolding placed_in
placed_end l b k h = ap (placed_in b k) (drop_of_length-le (map code_of l) {i = k} (rw (length-map l code_of) h))

-- one block more
pub from_step :
    (f : Record → List Code) (l : List Record) (k : ℕ) → k < length l
    → placed_from k (drop k (map f l)) ≡ placed_in k 0 (f (get_or l k blank)) ++ placed_from (k + 1) (drop (k + 1) (map f l))
unfolding placed_from
from_step f l k h =
    ap (placed_from k) (drop-cons (map f l) k (f blank) (rw (length-map l f) h))
    ∙ rw (get_or-map f l k blank, add-one k)

pub from_end : (f : Record → List Code) (l : List Record) (k : ℕ) → length l ≤ k → placed_from k (drop k (map f l)) ≡ []
unfolding placed_from
from_end f l k h = ap (placed_from k) (drop_of_length-le (map f l) {i = k} (rw (length-map l f) h))

-- the table after one more, in a block and block by block
module _ (ws : List Writer) where
  pub noted-inst :
      (l : List Record) (b k : ℕ) → k < length l
      → entered (entered ws (fields_at (placed_at b k (get_or l k blank)) (defs_of (inst_of (get_or l k blank)))))
      (written (placed_in b (k + 1) (drop (k + 1) (map code_of l)))) ≡ entered ws (written (placed_in b k (drop k (map code_of l))))
  unfolding written
  noted-inst l b k h =
      sym (noted-append (fields_at (placed_at b k (get_or l k blank)) (defs_of (inst_of (get_or l k blank))))
      (written (placed_in b (k + 1) (drop (k + 1) (map code_of l)))) ws)
      ∙ sym (ap (λ (xs : List Placed). entered ws (written xs)) (placed-step l b k h))

  -- the instruction was read from the file
  pub noted-next :
      (rs : List Record) (first count : ℕ) → first + count ≤ length rs → (b k : ℕ) {u : List Writer} → k < count
      → u ≡ entered ws (fields_at (placed_at b k (get_or rs (first + k) blank)) (defs_of (inst_of (get_or rs (first + k) blank))))
      → entered u (written (placed_in b (k + 1) (drop (k + 1) (map code_of (part first count rs)))))
      ≡ entered ws (written (placed_in b k (drop k (map code_of (part first count rs)))))
  noted-next rs first count h b k i e =
      let l = part first count rs in
      ap (λ (u : List Writer). entered u (written (placed_in b (k + 1) (drop (k + 1) (map code_of l)))))
      (e ∙ ap (λ (r : Record). entered ws (fields_at (placed_at b k r) (defs_of (inst_of r)))) (sym (part_at rs first count h k i)))
      ∙ noted-inst l b k (rw (part_length rs first count h) i)

  pub noted-none : (l : List Record) (b k : ℕ) → length l ≤ k → ws ≡ entered ws (written (placed_in b k (drop k (map code_of l))))
  unfolding written entered
  noted-none l b k h = sym (ap (λ (xs : List Placed). entered ws (written xs)) (placed_end l b k h))

  pub noted-block :
      (f : Record → List Code) (l : List Record) (k : ℕ) → k < length l
      → entered (entered ws (written (placed_in k 0 (f (get_or l k blank))))) (written (placed_from (k + 1) (drop (k + 1) (map f l))))
      ≡ entered ws (written (placed_from k (drop k (map f l))))
  noted-block f l k h =
      sym (noted-append (written (placed_in k 0 (f (get_or l k blank)))) (written (placed_from (k + 1) (drop (k + 1) (map f l)))) ws)
      ∙ ap (entered ws) (sym (written-append (placed_in k 0 (f (get_or l k blank))) (placed_from (k + 1) (drop (k + 1) (map f l)))))
      ∙ sym (ap (λ (xs : List Placed). entered ws (written xs)) (from_step f l k h))

  pub noted-blocks : (f : Record → List Code) (l : List Record) (k : ℕ) → length l ≤ k → ws ≡ entered ws (written (placed_from k (drop k (map f l))))
  unfolding written entered
  noted-blocks f l k h = sym (ap (λ (xs : List Placed). entered ws (written xs)) (from_end f l k h))

-- the records of a block in a file that fits
module _ {rs : List Record} {l : Layout} (h : Fit rs l) where
  pub blocks-length : length (block_records rs l) ≡ l.bodies - l.blocks
  blocks-length = part_length rs l.blocks (l.bodies - l.blocks) (omega arith)

  pub block-at : (k : ℕ) {r : Record} → k < l.bodies - l.blocks → r ≡ get_or rs (l.blocks + k) blank → r ≡ get_or (block_records rs l) k blank
  block-at k i e = e ∙ sym (part_at rs l.blocks (l.bodies - l.blocks) (omega arith) k i)

  pub block_in : (k : ℕ) {r : Record} → k < l.bodies - l.blocks → r ≡ get_or rs (l.blocks + k) blank → (r.p1 < r.p2) × (r.p2 ≤ l.operands - l.code)
  block_in k i e = rw (block-at k i e) (h.in_code k (rw blocks-length i))

  pub block-code :
      (k : ℕ) {r : Record} → k < l.bodies - l.blocks → r ≡ get_or rs (l.blocks + k) blank
      → map code_of (part (l.code + r.p1) (r.p2 - r.p1) rs) ≡ block_code rs l (get_or (block_records rs l) k blank)
  block-code k {r} i e =
      let z = block_in k i e in
      ap (map code_of) (code-part rs l.code (l.operands - l.code) r z.0 z.1)
      ∙ ap (block_code rs l) (block-at k i e)

  pub block_part :
      (k : ℕ) {r : Record} → k < l.bodies - l.blocks → r ≡ get_or rs (l.blocks + k) blank
      → BlockPart rs l k (l.code + r.p1) (r.p2 - r.p1)
  block_part k i e =
      let z = block_in k i e in
      record { some = omega arith; few = omega arith; within = omega arith; code = block-code k i e }
