-- The records of a well-formed procedure: Read accepts them, and they hold the same procedure.
use Prim.Native.Nat.{ℕ, ◌+◌, ◌≤◌, ◌<◌, ◌^◌}
use native.Mathlib.Omega.{arith}
use mathlib.Core.Path.{◌≡◌, refl, sym, ap, ◌∙◌}
use mathlib.Core.Bool.{true}
use mathlib.Core.List.{List, [], ◌∷◌, ◌++◌, map, append-nil}
use Rattle.std.proofs.Common.{Option, None, Some}
use borrow.Author.Tests.{lt-ltb}
use lib.ListN.{length, get_or, length-map, length-append}
use Rattle.records.specs.declared.Record.{Record}
use Rattle.record_rules.specs.declared.exist.Counts.{Counts}
use Rattle.record_rules.specs.Exist.{names_exist}
use Rattle.layout.specs.Classes.{of_class}
use Rattle.layout.specs.Work.{right_of}
use Rattle.read.specs.Structure.{ends_well, code_of as recordsOfBlock}
use Rattle.read.specs.Reading.{counts_of}
use Rattle.put_record.specs.Store.{Fits}
use Rattle.inst.specs.declared.Code.{Code}
use Rattle.ops.specs.Ops.{reg_ty_of}
use Rattle.ops.proofs.Laws.{reg_ty_num_lem}
use Rattle.codec.specs.Codec.{code_of, record_of, reg_of, block_of}
use Rattle.codec.proofs.Laws.{written-right, written-class, written-fits}
use Rattle.items.specs.Items.{register_record, block_record, body_record, operand_record}
use Rattle.items.proofs.Laws.{register-right, register-fits, block-right, block-fits, body-right, body-fits, operand_right, operand_fits}
use Rattle.procedure.specs.Procedure.{Procedure, Arm, procedure_of, first_of}
use Rattle.procedure.specs.Lists.{joined}
use Rattle.steps.specs.Write.{block_records, body_records, table_records, case_record, default_record, records_for}
use Rattle.round_trips.specs.WellFormed.{All, Ends, Sound, BodyIn, counts_in, WellFormed}
use Rattle.round_trips.proofs.Lists.{all-turn, all_map, all_append, all_joined, map_back}
use Rattle.round_trips.proofs.Sections.{Sections, right_of_lem, section_of, sections_in_order}
use Rattle.round_trips.proofs.Blocks.{length-blocks, blocks_tile, parts-back, all-parts}
use Rattle.round_trips.proofs.Ends.{written-ends}
use Rattle.round_trips.proofs.Tables.{length-tables, length-arms, few-tables, tables-numbered, tables-read, all-arms, arms-right, arms-fit}
use Rattle.round_trips.proofs.Accepted.{Accepted}

-- blocks that are written end within the code
all_blocks : (P : Record → Type 0) (m : ℕ) → ((s e : ℕ) → s ≤ e → e ≤ m → P (block_record (record { start = s; end = e }))) →
    (due : ℕ) (cs : List (List Code)) → due + length (joined cs) ≤ m → All P (block_records due cs)
unfolding block_records
all_blocks P m f due [] h = tt
all_blocks P m f due (c ∷ cs) h =
    let e = length-append c (joined cs) in
    (f due (due + length c) (omega arith) (omega arith), all_blocks P m f (due + length c) cs (omega arith))

all-body : (P : Record → Type 0) (n : ℕ) → ((b : ℕ) → b < n → P (body_record (block_of b))) → (o : Option ℕ) → BodyIn n o → All P (body_records o)
all-body P n f None h = tt
all-body P n f (Some b) h = (f b h, tt)

body-read : (o : Option ℕ) → first_of (map (λ r. r.p1) (body_records o)) ≡ o
body-read None = refl
body-read (Some b) = refl

pub body-few : (o : Option ℕ) → length (body_records o) ≤ 1
body-few None = omega arith
body-few (Some b) = omega arith

some_code : (c : List Code) → Ends c → 1 ≤ length c
some_code [] h = absurd h
some_code (x ∷ c) h = omega arith

-- what the records of each class name
module _ (n : Counts) where
  no_register : (k : ℕ) → names_exist n (register_record (reg_ty_of k)) ≡ true
  unfolding names_exist
  no_register k = refl

  no_block : (s e : ℕ) → names_exist n (block_record (record { start = s; end = e })) ≡ true
  unfolding names_exist
  no_block s e = refl

  body_exists : (b : ℕ) → b < n.blocks → names_exist n (body_record (block_of b)) ≡ true
  unfolding names_exist
  body_exists b h = rw (lt-ltb b n.blocks h)

  operand_exists : (r : ℕ) → r < n.registers → names_exist n (operand_record (reg_of r)) ≡ true
  unfolding names_exist
  operand_exists r h = rw (lt-ltb r n.registers h)

  case_exists : (k : ℕ) (a : Arm) → a.target < n.blocks → names_exist n (case_record k a) ≡ true
  unfolding names_exist
  case_exists k a h = rw (lt-ltb a.target n.blocks h)

  default_exists : (k to : ℕ) → to < n.blocks → names_exist n (default_record k to) ≡ true
  unfolding names_exist
  default_exists k to h = rw (lt-ltb to n.blocks h)

module _ (p : Procedure) (w : WellFormed p) where
  abbrev R : List Record
  R = map (λ k. register_record (reg_ty_of k)) p.registers

  abbrev B : List Record
  B = block_records 0 p.blocks

  abbrev Y : List Record
  Y = body_records p.body

  abbrev C : List Record
  C = map record_of (joined p.blocks)

  abbrev O : List Record
  O = map (λ r. operand_record (reg_of r)) p.operands

  abbrev T : List Record
  T = table_records 0 p.tables

  abbrev six : List (List Record)
  six = R ∷ B ∷ Y ∷ C ∷ O ∷ T ∷ []

  six_joined : joined six ≡ records_for p
  unfolding records_for
  six_joined = ap (λ (l : List Record). R ++ (B ++ (Y ++ (C ++ (O ++ l))))) (append-nil T)

  all-code : All (Sound (counts_in p)) (joined p.blocks)
  all-code = all_joined (Sound (counts_in p)) p.blocks (all-turn (λ c h. h.each) p.blocks w.each-block)

  few-arms : length p.tables ≤ 2 ^ 32
  few-arms = let a = w.arms in let b = few-tables p.tables in omega arith

  pub few-blocks : length p.blocks ≤ 2 ^ 32
  few-blocks = let a = w.blocks in omega arith

  sections : Sections 1 six
  sections = (registers, (blocks, (bodies, (code, (operands, (arms, tt))))))
    where
      registers : All (λ r. right_of 1 r ≡ true) R
      registers =
          all_map (λ k. k < 5) (λ r. right_of 1 r ≡ true) (λ k. register_record (reg_ty_of k)) (λ k h. register-right (reg_ty_of k)) p.registers w.each-register

      blocks : All (λ r. right_of 2 r ≡ true) B
      blocks = all_blocks (λ r. right_of 2 r ≡ true) 756 (λ s e i j. block-right (record { start = s; end = e })) 0 p.blocks (let a = w.code in omega arith)

      bodies : All (λ r. right_of 3 r ≡ true) Y
      bodies = all-body (λ r. right_of 3 r ≡ true) (length p.blocks) (λ b h. body-right (block_of b)) p.body w.body

      code : All (λ r. right_of 4 r ≡ true) C
      code =
          all_map (Sound (counts_in p)) (λ r. right_of 4 r ≡ true) record_of
          (λ x h. right_of_lem 4 (record_of x) (written-class x.inst) (written-right x h.range)) (joined p.blocks) all-code

      operands : All (λ r. right_of 5 r ≡ true) O
      operands =
          all_map (λ r. r < length p.registers) (λ r. right_of 5 r ≡ true) (λ r. operand_record (reg_of r)) (λ r h. operand_right (reg_of r))
          p.operands w.each_operand

      arms : All (λ r. right_of 6 r ≡ true) T
      arms = arms-right (length p.blocks) few-blocks p.tables few-arms w.each-table

  pub class_of : (k : ℕ) → of_class (1 + k) (records_for p) ≡ get_or six k []
  class_of k = ap (of_class (1 + k)) (sym six_joined) ∙ section_of six 1 k sections

  -- something that holds of the records of each class
  module _ (P : Record → Type 0) (registers : All P R) (blocks : All P B) (bodies : All P Y) (code : All P C) (operands : All P O) (arms : All P T) where
    all_six : All P (records_for p)
    unfolding records_for
    all_six = all_append P R _ registers (all_append P B _ blocks (all_append P Y _ bodies (all_append P C _ code (all_append P O T operands arms))))

  pub records_fit : All Fits (records_for p)
  records_fit =
      let a = w.code in
      let b = w.blocks in
      let r = w.registers in
      all_six Fits
      (all_map (λ k. k < 5) Fits (λ k. register_record (reg_ty_of k)) (λ k h. register-fits (reg_ty_of k)) p.registers w.each-register)
      (all_blocks Fits 756 (λ s e i j. block-fits (record { start = s; end = e }) (omega arith) (omega arith)) 0 p.blocks (omega arith))
      (all-body Fits (length p.blocks) (λ b h. body-fits (block_of b) (omega arith)) p.body w.body)
      (all_map (Sound (counts_in p)) Fits record_of (λ x h. written-fits x h.range) (joined p.blocks) all-code)
      (all_map (λ r. r < length p.registers) Fits (λ r. operand_record (reg_of r)) (λ r h. operand_fits (reg_of r) (omega arith))
      p.operands w.each_operand)
      (arms-fit (length p.blocks) few-blocks p.tables few-arms w.each-table)

  records_named : All (λ r. names_exist (counts_in p) r ≡ true) (records_for p)
  records_named =
      let n = counts_in p in
      let a = few-tables p.tables in
      all_six (λ r. names_exist n r ≡ true)
      (all_map (λ k. k < 5) (λ r. names_exist n r ≡ true) (λ k. register_record (reg_ty_of k)) (λ k h. no_register n k) p.registers w.each-register)
      (all_blocks (λ r. names_exist n r ≡ true) 756 (λ s e i j. no_block n s e) 0 p.blocks (let a = w.code in omega arith))
      (all-body (λ r. names_exist n r ≡ true) (length p.blocks) (body_exists n) p.body w.body)
      (all_map (Sound n) (λ r. names_exist n r ≡ true) record_of (λ x h. h.names) (joined p.blocks) all-code)
      (all_map (λ r. r < length p.registers) (λ r. names_exist n r ≡ true) (λ r. operand_record (reg_of r)) (operand_exists n) p.operands w.each_operand)
      (all-arms (λ r. names_exist n r ≡ true) (length p.tables) (length p.blocks) (λ k a i j. case_exists n k a j.target)
      (λ k to i j. default_exists n k to j) 0 p.tables (omega arith) w.each-table)

  counts_same : counts_of (records_for p) ≡ counts_in p
  counts_same =
      rw (class_of 0, class_of 1, class_of 4, class_of 5, ← length-tables [] T, tables-read 0 p.tables, length-blocks 0 p.blocks)
      (rw (length-map p.registers (λ k. register_record (reg_ty_of k)), length-map p.operands (λ r. operand_record (reg_of r))))

  ends_well_lem : All (λ r. ends_well (recordsOfBlock C r) ≡ true) B
  ends_well_lem = all-parts C (λ c. ends_well c ≡ true) 0 p.blocks refl (all-turn (λ c h. written-ends c h.ends) p.blocks w.each-block)

  length-code : length C ≡ length (joined p.blocks)
  length-code = length-map (joined p.blocks) record_of

  pub records_accepted : Accepted (records_for p)
  records_accepted =
      let r = length-map p.registers (λ k. register_record (reg_ty_of k)) in
      let b = length-blocks 0 p.blocks in
      let y = body-few p.body in
      let c = length-code in
      let o = length-map p.operands (λ r. operand_record (reg_of r)) in
      let t = length-arms 0 p.tables in
      record {
        order = rw (← six_joined) (sections_in_order six 1 1 (omega arith) sections);
        within = rw (class_of 0, class_of 1, class_of 2, class_of 3, class_of 4, class_of 5) (record {
          registers = let i = w.registers in omega arith;
          blocks = let i = w.blocks in omega arith;
          some_block = let i = w.some_block in omega arith;
          bodies = y;
          code = let i = w.code in omega arith;
          operands = let i = w.operands in omega arith;
          arms = let i = w.arms in omega arith;
        });
        tile = rw (class_of 1, class_of 3)
            (blocks_tile (length C) 0 p.blocks (all-turn (λ c h. some_code c h.ends) p.blocks w.each-block) (omega arith));
        end = rw (class_of 1, class_of 3) ends_well_lem;
        number = rw (class_of 5) (tables-numbered 0 p.tables);
        name = rw counts_same records_named;
      }

  registers-read : map (λ r. r.kind) R ≡ p.registers
  registers-read = map_back {P = λ k. k < 5} (λ k. register_record (reg_ty_of k)) (λ r. r.kind) (λ k h. reg_ty_num_lem k h) p.registers w.each-register

  operands-read : map (λ r. r.p1) O ≡ p.operands
  operands-read = map_back {P = λ r. r < length p.registers} (λ r. operand_record (reg_of r)) (λ r. r.p1) (λ r h. refl) p.operands w.each_operand

  blocks-read : map (λ b. map code_of (recordsOfBlock C b)) B ≡ p.blocks
  blocks-read = parts-back C 0 p.blocks refl (all-turn (λ c h. all-turn (λ x i. i.range) c h.each) p.blocks w.each-block)

  pub procedure-same : procedure_of (records_for p) ≡ p
  unfolding procedure_of
  procedure-same =
      rw (class_of 0, class_of 1, class_of 2, class_of 3, class_of 4, class_of 5)
      (rw (registers-read, blocks-read, body-read p.body, operands-read, tables-read 0 p.tables))

  pub records_few : length (records_for p) ≤ 1929
  unfolding records_for
  records_few =
      let r = length-map p.registers (λ k. register_record (reg_ty_of k)) in
      let b = length-blocks 0 p.blocks in
      let y = body-few p.body in
      let c = length-code in
      let o = length-map p.operands (λ r. operand_record (reg_of r)) in
      let t = length-arms 0 p.tables in
      simp length-append (omega (arith, w.registers, w.blocks, w.code, w.operands, w.arms))
