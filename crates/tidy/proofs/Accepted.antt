-- What a file that Read accepts is, for the steps of Tidy.
use Prim.Native.Nat.{ℕ, ◌-◌, ◌%◌, ◌≤◌, ◌<◌}
use native.Mathlib.Omega.{arith}
use mathlib.Core.Path.{◌≡◌, refl, sym, ap, subst, ◌∙◌}
use mathlib.Core.Bool.{false, not, cond}
use mathlib.Core.List.{List, [], ◌∷◌, map}
use borrow.Author.Tests.{ltb-false, eq-eqb, ne_eqb}
use lib.Dec.{eqb, ltb}
use lib.ListN.{length, get_or, replicate, length-map, length-replicate, get_or-replicate, get_or-map}
use Rattle.records.specs.declared.Record.{Record}
use Rattle.records.specs.Record.{records_of}
use Rattle.records.proofs.Laws.{length_records}
use Rattle.layout.specs.declared.Layout.{Layout}
use Rattle.layout.specs.Classes.{of_class, in_order, ordered}
use Rattle.general.proofs.Booleans.{or_first, or_second}
use Rattle.layout.proofs.Walks.{walk_le}
use Rattle.read.specs.Structure.{tiles, next_block, tiled, code_of as recordsOfBlock}
use Rattle.read.specs.Reading.{Reading, answer, checked, read_records, read_blocks, beyond, beyond_limit, wrong_length}
use Rattle.read.specs.Work.{InCode, LaidOut}
use Rattle.read.proofs.Laid.{passed, held, sizes, class-part, in-tiles}
use Rattle.codec.specs.Codec.{code_of}
use Rattle.procedure.specs.Procedure.{procedure_of}
use Rattle.ends.specs.Ends.{end_of, targets}
use Rattle.paths.specs.Paths.{reached_from}
use Rattle.inst.specs.declared.Code.{Code}
use Rattle.inst.specs.declared.Reg.{Reg}
use Rattle.std.specs.Prelude.{Option, None, Ok}
use Rattle.tidy.specs.declared.targets.Targets.{Targets}
use Rattle.tidy.specs.declared.writers.Writer.{Writer}
use Rattle.tidy.specs.declared.writers.Writer.TheVariants as w
use Rattle.tidy.specs.Tidy.{placed_from, placed, written, reads, writers, edges_of, leads, offenders, verdict, Tidiness, told, tidiness}
use Rattle.tidy.specs.Told.{tidiness_of}
use Rattle.tidy.specs.Work.Writers.{entered}
use Rattle.tidy.specs.Work.Reads.{lowest_of, judged_all, judged_in, reads_in}
use Rattle.tidy.specs.Work.Marks.{edges_in, PairAt, TargetsIn}
use Rattle.tidy.specs.Work.Parts.{block_records, block_code, code_records, blocks_in, operands_in, Fit}
use Rattle.tidy.proofs.Tables.{blocks-length}
use Rattle.tidy.proofs.Answers.{tally_entry, tally-at, answer-is}
use Rattle.tidy.proofs.Edges.{table-leads}

-- the procedure of the file, part by part
module _ {rs : List Record} {l : Layout} (h : LaidOut rs l) where
  blocks_are : block_records rs l ≡ of_class 2 rs
  blocks_are = let z = sizes h in class-part h 2 {y = l.bodies - l.blocks} h.blocks (omega arith)

  code_is : code_records rs l ≡ of_class 4 rs
  code_is = let z = sizes h in class-part h 4 {y = l.operands - l.code} h.code (omega arith)

  pub the_blocks : (procedure_of rs).blocks ≡ blocks_in rs l
  unfolding procedure_of
  the_blocks = sym (ap (λ (c : List Record). map (λ b. map code_of (recordsOfBlock c b)) (block_records rs l)) code_is
      ∙ ap (map (λ b. map code_of (recordsOfBlock (of_class 4 rs) b))) blocks_are)

  pub the_operands : (procedure_of rs).operands ≡ operands_in rs l
  unfolding procedure_of
  the_operands = let z = sizes h in ap (map (λ r. r.p1)) (sym (class-part h 5 {y = l.arms - l.operands} h.operands (omega arith)))

  pub the_registers : length (procedure_of rs).registers ≡ l.blocks
  unfolding procedure_of
  the_registers = length-map (of_class 1 rs) (λ r. r.kind) ∙ sym (sizes h).registers

within : (a b c d e f : ℕ) → beyond a b c d e f ≡ false → (a ≤ 756) × (b ≤ 160)
within a b c d e f h = (ltb-false 756 a (or_first (ltb 756 a) _ h), ltb-false 160 b (or_first (ltb 160 b) _ (or_second (ltb 756 a) _ h)))

-- a file that Read accepts is in order
module _ (b : List ℕ) (e : (checked b).number ≡ 0) where
  abbrev rs : List Record
  rs = records_of b

  length-right : (wrong_length b ≡ false) × ((read_records rs).number ≡ 0)
  unfolding checked
  length-right = held (wrong_length b) 1 0 (read_records rs) (omega arith) e

  all-ordered : (length rs ≤ ordered rs) × ((cond (beyond_limit rs) (answer 3 0) (read_blocks rs)).number ≡ 0)
  unfolding read_records
  all-ordered = passed 2 0 (ordered rs) (length rs) (cond (beyond_limit rs) (answer 3 0) (read_blocks rs)) (omega arith) length-right.1

  pub in_order_lem : ordered rs ≡ length rs
  in_order_lem = let m = walk_le in_order (λ prev r. r.class) 1 rs in let i = all-ordered.0 in omega arith

  within_limits : (beyond_limit rs ≡ false) × ((read_blocks rs).number ≡ 0)
  within_limits = held (beyond_limit rs) 3 0 (read_blocks rs) (omega arith) all-ordered.1

  pub accepted : {l : Layout} → LaidOut rs l → Fit rs l
  unfolding read_blocks
  accepted {l} h =
      let z = sizes h in
      let n = length_records b in
      let short = ltb-false 65536 (length b) (or_second (not (eqb (length b % 32) 0)) _ length-right.0) in
      let of : ℕ → ℕ = λ k. length (of_class k rs) in
      let w = within (of 1) (of 2) (of 3) (of 4) (of 5) (of 6) within_limits.0 in
      let c : l.operands - l.code ≡ length (of_class 4 rs) = omega arith in
      let four = passed 4 _ (tiled (length (of_class 4 rs)) (of_class 2 rs)) (length (of_class 2 rs)) _ (omega arith) within_limits.1 in
      let m = walk_le (tiles (length (of_class 4 rs))) next_block (0, length (of_class 2 rs)) (of_class 2 rs) in
      let all = in-tiles (length (of_class 4 rs)) (0, length (of_class 2 rs)) (of_class 2 rs) (let f = four.0 in omega arith) in
      record {
        few = omega arith;
        registers = omega arith;
        blocks = omega arith;
        bodies = omega arith;
        code = omega arith;
        operands = omega arith;
        arms = omega arith;
        in_code = subst (λ (k : ℕ). InCode k (block_records rs l)) (sym c) (subst (InCode (of 4)) (sym (blocks_are h)) all);
      }

-- the steps over a file that fits
module _ {rs : List Record} {l : Layout} (h : LaidOut rs l) (f : Fit rs l) (n : ℕ) (size : n ≡ 756) (ts : List Targets) {ws : List Writer}
    (e : ws ≡ entered (replicate n w.Nothing) (written (placed_from 0 (blocks_in rs l)))) (t : TargetsIn rs l ts) where
  few-blocks : length (procedure_of rs).blocks ≤ 160
  few-blocks = let i = ap length (the_blocks h) ∙ length-map (block_records rs l) (block_code rs l) ∙ blocks-length f in omega arith

  table_is : (r : ℕ) → r < length (procedure_of rs).registers → get_or ws r w.Nothing ≡ tally_entry w.Nothing (writers r (written (placed (procedure_of rs))))
  table_is r i =
      let k : r < n = let g = the_registers h in omega arith in
      ap (λ (u : List Writer). get_or u r w.Nothing) e
      ∙ tally-at (written (placed_from 0 (blocks_in rs l))) (replicate n w.Nothing) r (rw (length-replicate {A = Writer} n w.Nothing) k)
      ∙ ap (λ (m : Writer). tally_entry m (writers r (written (placed_from 0 (blocks_in rs l))))) (get_or-replicate {A = Writer} n r w.Nothing w.Nothing k)
      ∙ ap (λ (bs : List (List Code)). tally_entry w.Nothing (writers r (written (placed_from 0 bs)))) (sym (the_blocks h))

  abbrev edges : List (List ℕ)
  edges = edges_of (procedure_of rs)

  edges_few : length edges ≤ 160
  edges_few = rw (length-map (procedure_of rs).blocks (λ c. targets (end_of c))) few-blocks

  edges_are : (a : ℕ) → a < 160 → PairAt (get_or edges a []) ts a
  unfolding end_of
  edges_are a i =
      subst (λ (es : List ℕ). PairAt es ts a)
      (sym (ap (λ (bs : List (List Code)). get_or (map (λ c. targets (end_of c)) bs) a []) (the_blocks h)
      ∙ get_or-map (λ (c : List Code). targets (end_of c)) (blocks_in rs l) a []))
      (t.each a i)

  pub judge_is : {s : Option Reg} → s ≡ judged_in ts ws l None (reads_in rs l (placed_from 0 (blocks_in rs l))) → s ≡ lowest_of (offenders (procedure_of rs))
  judge_is i =
      let p = procedure_of rs in
      let same : (a t : ℕ) → t < length p.blocks → get_or (reached_from (edges_in ts) a) t false ≡ leads p a t =
      λ a x k. table-leads edges ts t.size edges_few edges_are a x (rw (length-map p.blocks (λ c. targets (end_of c))) k)
      in
      i
      ∙ ap (λ (m : ℕ). judged_all (edges_in ts) m ws None (reads_in rs l (placed_from 0 (blocks_in rs l)))) (sym (the_registers h))
      ∙ ap (λ (ops : List ℕ). judged_all (edges_in ts) (length p.registers) ws None (reads ops (placed_from 0 (blocks_in rs l))))
      (sym (the_operands h))
      ∙ ap (λ (bs : List (List Code)). judged_all (edges_in ts) (length p.registers) ws None (reads p.operands (placed_from 0 bs)))
      (sym (the_blocks h))
      ∙ answer-is p (edges_in ts) ws few-blocks same table_is

-- by the lowest offending register, if there is one
pub verdict-is : (rs : List ℕ) {x : Option Reg} → x ≡ lowest_of rs → tidiness_of (Ok x) ≡ verdict rs
verdict-is [] e = rw e refl
verdict-is (r ∷ rs) e = rw e refl

-- the answer by Read's number
module _ (b : List ℕ) {r : Reading} (e : r ≡ checked b) where
  pub refused_is : (r.number ≡ 0 → ⊥) → told r.number r.place 0 0 ≡ tidiness b
  unfolding tidiness
  refused_is h = ap (λ (x : Reading). told x.number x.place 0 0) e
      ∙ sym (rw (ne_eqb (checked b).number 0 (λ i. h (ap (λ (x : Reading). x.number) e ∙ i))))

  pub number_is : r.number ≡ 0 → (checked b).number ≡ 0
  number_is h = ap (λ (x : Reading). x.number) (sym e) ∙ h

  pub accepted_is : r.number ≡ 0 → {t : Tidiness} → t ≡ verdict (offenders (procedure_of (records_of b))) → t ≡ tidiness b
  unfolding tidiness
  accepted_is h i = i ∙ sym (rw (eq-eqb (checked b).number 0 (number_is h)))
