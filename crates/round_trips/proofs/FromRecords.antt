-- The procedure of an accepted file's records: it writes the same records, and is well formed.
use Prim.Native.Nat.{ℕ, zero, suc, ◌-◌, ◌≤◌, ◌<◌}
use native.Mathlib.Omega.{arith}
use mathlib.Core.Path.{◌≡◌, refl, sym, ap, subst, ◌∙◌}
use mathlib.Core.Bool.{true}
use mathlib.Core.List.{List, [], ◌∷◌, ◌++◌, map, append-nil}
use borrow.Author.Tests.{ltb-true}
use lib.Dec.{ltb}
use lib.ListN.{length, drop, length-map}
use Rattle.general.proofs.Booleans.{and_first}
use Rattle.records.specs.declared.Record.{Record}
use Rattle.records.specs.Kinds.{right, fields, kind_count, arm_places}
use Rattle.record_rules.specs.declared.exist.Counts.{Counts}
use Rattle.record_rules.specs.Exist.{names_exist}
use Rattle.layout.specs.Classes.{of_class}
use Rattle.layout.specs.Work.{right_of}
use Rattle.layout.proofs.Order.{in-class}
use Rattle.read.specs.Structure.{ends_well, code_of as recordsOfBlock}
use Rattle.read.specs.Reading.{counts_of}
use Rattle.put_record.specs.Store.{Fits}
use Rattle.ops.specs.Ops.{reg_ty_of}
use Rattle.codec.specs.Codec.{code_of, record_of, reg_of}
use Rattle.codec.proofs.Laws.{write_back, read-range}
use Rattle.items.specs.Items.{register_record, operand_record}
use Rattle.items.proofs.Laws.{register_write_back, body_write_back, operand_write_back}
use Rattle.procedure.specs.Procedure.{procedure_of, first_of}
use Rattle.procedure.specs.Lists.{joined}
use Rattle.steps.specs.Write.{block_records, body_records, table_records, records_for}
use Rattle.round_trips.specs.WellFormed.{All, Sound, BlockIn, BodyIn, TableIn, arm_count, counts_in, WellFormed}
use Rattle.round_trips.proofs.Lists.{all-turn, all_both, all_map, all_take, all_drop, map_back}
use Rattle.round_trips.proofs.Sections.{is_right, right_of_lem, classes_joined, all_right, all_of, all-class}
use Rattle.round_trips.proofs.Blocks.{blocks-back, code-back, joined-map, Tiled}
use Rattle.round_trips.proofs.Ends.{Back, read-ends}
use Rattle.round_trips.proofs.Tables.{tables-back, length-tables, length-arms, tables-in}
use Rattle.round_trips.proofs.Accepted.{Accepted}

map-map : {A B C : Type 0} (f : B → C) (g : A → B) (xs : List A) → map (λ x. f (g x)) xs ≡ map f (map g xs)
map-map f g [] = refl
map-map f g (x ∷ xs) = ap (λ (l : List _). f (g x) ∷ l) (map-map f g xs)

body_back : (s : List Record) → length s ≤ 1 → All (λ r. right_of 3 r ≡ true) s → body_records (first_of (map (λ r. r.p1) s)) ≡ s
body_back [] h c = refl
body_back (r ∷ []) h c = ap (λ (x : Record). x ∷ []) (body_write_back r (is_right 3 r c.0) (in-class 3 r c.0))
body_back (r ∷ q ∷ s) h c = absurd (omega arith)

-- what a record names, by its class
kind_lt : (r : Record) → right r ≡ true → ltb r.kind (kind_count r.class) ≡ true
unfolding right
kind_lt r h = and_first (ltb r.kind (kind_count r.class)) _ h

register-kind : (r : Record) → right_of 1 r ≡ true → r.kind < 5
register-kind r h = let e = in-class 1 r h in ltb-true r.kind 5 (rw e at (kind_lt r (is_right 1 r h)))

body-names : (n : Counts) (r : Record) → r.class ≡ 3 → names_exist n r ≡ true → r.p1 < n.blocks
unfolding names_exist
body-names n r e h = ltb-true r.p1 n.blocks (and_first (ltb r.p1 n.blocks) true (rw e at h))

operand_names : (n : Counts) (r : Record) → r.class ≡ 5 → names_exist n r ≡ true → r.p1 < n.registers
unfolding names_exist
operand_names n r e h = ltb-true r.p1 n.registers (and_first (ltb r.p1 n.registers) true (rw e at h))

arm-names : (n : Counts) (r : Record) → right_of 6 r ≡ true → names_exist n r ≡ true → r.p6 < n.blocks
unfolding names_exist
arm-names n r c h =
    let e = in-class 6 r c in
    by r.kind (ltb-true r.kind 2 (rw e at (kind_lt r (is_right 6 r c)))) (rw e at h)
  where
    by : (k : ℕ) → k < 2 → Rattle.record_rules.specs.Exist.all_exist n (lib.ListN.get_or arm_places k []) (fields r) ≡ true → r.p6 < n.blocks
    by zero i h = ltb-true r.p6 n.blocks (and_first (ltb r.p6 n.blocks) true h)
    by (suc zero) i h = ltb-true r.p6 n.blocks (and_first (ltb r.p6 n.blocks) true h)
    by (suc (suc k)) i h = absurd (omega arith)

module _ (rs : List Record) (a : Accepted rs) (f : All Fits rs) where
  abbrev Right : ℕ → Type 0
  Right c = All (λ r. right_of c r ≡ true) (of_class c rs)

  of_class_lem : (c : ℕ) → Right c
  of_class_lem c =
      all-turn (λ r h. right_of_lem c r h.0 h.1) (of_class c rs)
      (all_both (λ r. r.class ≡ c) (λ r. right r ≡ true) (of_class c rs) (all-class c rs) (all_of (λ r. right r ≡ true) c rs (all_right 1 rs a.order)))

  fit-class : (c : ℕ) → All Fits (of_class c rs)
  fit-class c = all_of Fits c rs f

  named-class : (c : ℕ) → All (λ r. names_exist (counts_of rs) r ≡ true) (of_class c rs)
  named-class c = all_of (λ r. names_exist (counts_of rs) r ≡ true) c rs a.name

  abbrev C : List Record
  C = of_class 4 rs

  abbrev B : List Record
  B = of_class 2 rs

  codes_back : All Back C
  codes_back =
      all-turn (λ r h. write_back r (is_right 4 r h.0) (in-class 4 r h.0) h.1) C (all_both (λ r. right_of 4 r ≡ true) Fits C (of_class_lem 4) (fit-class 4))

  -- the code of all blocks is the file's
  parts-joined : (bs : List Record) → 1 ≤ length bs → Tiled (length C) 0 bs → joined (map (λ b. map code_of (recordsOfBlock C b)) bs) ≡ map code_of C
  parts-joined [] h t = absurd (omega arith)
  parts-joined (b ∷ bs) h t =
      ap joined (map-map (map code_of) (recordsOfBlock C) (b ∷ bs))
      ∙ joined-map code_of (map (recordsOfBlock C) (b ∷ bs))
      ∙ ap (map code_of) (code-back C 0 b bs t)

  code_is : joined (procedure_of rs).blocks ≡ map code_of C
  unfolding procedure_of
  code_is = parts-joined B a.within.some_block a.tile

  -- class by class, the records that the procedure is written as are those of the file
  pub registers-same : map (λ k. register_record (reg_ty_of k)) (procedure_of rs).registers ≡ of_class 1 rs
  unfolding procedure_of
  registers-same =
      map_back {P = λ r. right_of 1 r ≡ true} (λ r. r.kind) (λ k. register_record (reg_ty_of k))
      (λ r h. register_write_back r (is_right 1 r h) (in-class 1 r h)) (of_class 1 rs) (of_class_lem 1)

  pub blocks-same : block_records 0 (procedure_of rs).blocks ≡ B
  unfolding procedure_of
  blocks-same = blocks-back C 0 B a.tile (of_class_lem 2)

  pub body_same : body_records (procedure_of rs).body ≡ of_class 3 rs
  unfolding procedure_of
  body_same = body_back (of_class 3 rs) a.within.bodies (of_class_lem 3)

  pub code_same : map record_of (joined (procedure_of rs).blocks) ≡ C
  code_same = ap (map record_of) code_is ∙ map_back {P = Back} code_of record_of (λ r h. h) C codes_back

  pub operands_same : map (λ r. operand_record (reg_of r)) (procedure_of rs).operands ≡ of_class 5 rs
  unfolding procedure_of
  operands_same =
      map_back {P = λ r. right_of 5 r ≡ true} (λ r. r.p1) (λ r. operand_record (reg_of r))
      (λ r h. operand_write_back r (is_right 5 r h) (in-class 5 r h)) (of_class 5 rs) (of_class_lem 5)

  pub tables-same : table_records 0 (procedure_of rs).tables ≡ of_class 6 rs
  unfolding procedure_of
  tables-same = tables-back 0 [] (of_class 6 rs) a.number (of_class_lem 6) (fit-class 6) (λ e. refl)

  pub records_same : records_for (procedure_of rs) ≡ rs
  unfolding records_for
  records_same =
      rw (registers-same, blocks-same, body_same, code_same, operands_same, tables-same)
      (ap (λ (l : List Record). of_class 1 rs ++ (B ++ (of_class 3 rs ++ (C ++ (of_class 5 rs ++ l))))) (sym (append-nil (of_class 6 rs)))
      ∙ classes_joined rs a.order)

  -- what there is to name
  counts_same : counts_in (procedure_of rs) ≡ counts_of rs
  unfolding procedure_of
  counts_same =
      rw (length-map (of_class 1 rs) (λ r. r.kind), length-map B (λ b. map code_of (recordsOfBlock C b)))
      (rw (length-tables [] (of_class 6 rs), length-map (of_class 5 rs) (λ r. r.p1)))

  sound : All (λ r. Sound (counts_of rs) (code_of r)) C
  sound =
      all-turn
      (λ r h. record { range = read-range r h.0.1; names = ap (names_exist (counts_of rs)) h.0.0 ∙ h.1 })
      C
      (all_both (λ r. Back r × Fits r) (λ r. names_exist (counts_of rs) r ≡ true) C (all_both Back Fits C codes_back (fit-class 4)) (named-class 4))

  part_of : (P : Record → Type 0) (r : Record) → All P C → All P (recordsOfBlock C r)
  part_of P r h = all_take P (r.p2 - r.p1) (drop r.p1 C) (all_drop P r.p1 C h)

  block_in : (r : Record) → ends_well (recordsOfBlock C r) ≡ true → BlockIn (counts_of rs) (map code_of (recordsOfBlock C r))
  block_in r e = record {
    ends = read-ends (recordsOfBlock C r) (part_of Back r codes_back) e;
    each = all_map (λ r. Sound (counts_of rs) (code_of r)) (Sound (counts_of rs)) code_of (λ r h. h) (recordsOfBlock C r)
        (part_of (λ r. Sound (counts_of rs) (code_of r)) r sound);
  }

  blocks-in : All (BlockIn (counts_in (procedure_of rs))) (procedure_of rs).blocks
  unfolding procedure_of
  blocks-in =
      subst (λ (n : Counts). All (BlockIn n) (procedure_of rs).blocks) (sym counts_same)
      (all_map (λ r. ends_well (recordsOfBlock C r) ≡ true) (BlockIn (counts_of rs)) (λ b. map code_of (recordsOfBlock C b)) block_in B a.end)

  n-blocks : length (procedure_of rs).blocks ≡ length B
  n-blocks = ap (λ (n : Counts). n.blocks) counts_same

  pub n-registers : length (procedure_of rs).registers ≡ length (of_class 1 rs)
  n-registers = ap (λ (n : Counts). n.registers) counts_same

  body_first : (s : List Record) → All (λ r. r.class ≡ 3) s → All (λ r. names_exist (counts_of rs) r ≡ true) s → BodyIn (length B) (first_of (map (λ r. r.p1) s))
  body_first [] c h = tt
  body_first (r ∷ s) c h = body-names (counts_of rs) r c.0 h.0

  body-in : BodyIn (length (procedure_of rs).blocks) (procedure_of rs).body
  unfolding procedure_of
  body-in = rw n-blocks (body_first (of_class 3 rs) (all-class 3 rs) (named-class 3))

  operands-in : All (λ r. r < length (procedure_of rs).registers) (procedure_of rs).operands
  unfolding procedure_of
  operands-in =
      subst (λ (n : ℕ). All (λ r. r < n) (procedure_of rs).operands) (sym n-registers)
      (all_map (λ r. (r.class ≡ 5) × (names_exist (counts_of rs) r ≡ true)) (λ r. r < length (of_class 1 rs)) (λ r. r.p1)
      (λ r h. operand_names (counts_of rs) r h.0 h.1) (of_class 5 rs)
      (all_both (λ r. r.class ≡ 5) (λ r. names_exist (counts_of rs) r ≡ true) (of_class 5 rs) (all-class 5 rs) (named-class 5)))

  arms-in : All (TableIn (length (procedure_of rs).blocks)) (procedure_of rs).tables
  unfolding procedure_of
  arms-in =
      subst (λ (n : ℕ). All (TableIn n) (procedure_of rs).tables) (sym n-blocks)
      (tables-in (length B) [] (of_class 6 rs) (fit-class 6)
      (all-turn (λ r h. arm-names (counts_of rs) r h.0 h.1) (of_class 6 rs)
      (all_both (λ r. right_of 6 r ≡ true) (λ r. names_exist (counts_of rs) r ≡ true) (of_class 6 rs) (of_class_lem 6) (named-class 6)))
      tt)

  kinds-in : All (λ k. k < 5) (procedure_of rs).registers
  unfolding procedure_of
  kinds-in = all_map (λ r. right_of 1 r ≡ true) (λ k. k < 5) (λ r. r.kind) register-kind (of_class 1 rs) (of_class_lem 1)

  pub n-code : length (joined (procedure_of rs).blocks) ≡ length C
  n-code = ap length code_is ∙ length-map C code_of

  n-operands : length (procedure_of rs).operands ≡ length (of_class 5 rs)
  n-operands = ap (λ (n : Counts). n.operands) counts_same

  n-arms : arm_count (procedure_of rs).tables ≡ length (of_class 6 rs)
  n-arms = sym (length-arms 0 (procedure_of rs).tables) ∙ ap length tables-same

  pub well_formed : WellFormed (procedure_of rs)
  well_formed =
      let w = a.within in
      let i1 = n-registers in
      let i2 = n-blocks in
      let i4 = n-code in
      let i5 = n-operands in
      let i6 = n-arms in
      record {
        registers = omega arith;
        some_block = omega arith;
        blocks = omega arith;
        code = omega arith;
        operands = omega arith;
        arms = omega arith;
        each-register = kinds-in;
        each-block = blocks-in;
        body = body-in;
        each_operand = operands-in;
        each-table = arms-in;
      }
