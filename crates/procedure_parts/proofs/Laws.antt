-- A file is opened into its parts, which hold its procedure; code and block table exchanged, the parts hold another.
use Prim.Native.Nat.{ℕ, ◌*◌, ◌-◌, ◌/◌, ◌≤◌}
use native.Mathlib.Omega.{arith}
use mathlib.Core.Path.{◌≡◌, sym, ap, subst, ◌∙◌}
use mathlib.Core.Bool.{true}
use mathlib.Core.List.{List, [], ◌∷◌, ◌++◌, map, map-map, append-nil}
use Rattle.std.proofs.Common.{Option}
use lib.ListN.{length, drop, length-map, drop_of_length-le}
use Rattle.records.specs.declared.Record.{Record}
use Rattle.records.specs.Record.{records_of, blank}
use Rattle.records.specs.Kinds.{right}
use Rattle.records.proofs.Laws.{length_records}
use Rattle.layout.specs.declared.Layout.{Layout}
use Rattle.layout.specs.Classes.{of_class, before}
use Rattle.layout.proofs.Order.{before-none, sorted_of}
use Rattle.put_record.specs.Store.{Bytes, Fits}
use Rattle.read.specs.Reading.{checked}
use Rattle.read.specs.Structure.{numbered, code_of as recordsOfBlock}
use Rattle.read.specs.Work.{LaidOut}
use Rattle.read.proofs.Laid.{sizes, class-part}
use Rattle.ops.specs.Ops.{reg_ty_of}
use Rattle.codec.specs.Codec.{code_of, record_of, reg_of}
use Rattle.items.specs.Items.{register_record, operand_record}
use Rattle.procedure.specs.Procedure.{Procedure, Table, codes_of, procedure_of, first_of, tables_from}
use Rattle.procedure.specs.Lists.{joined}
use Rattle.blocks.specs.Blocks.{blocks_of, Canonical}
use Rattle.blocks.specs.Rewrite.{Tiled}
use Rattle.blocks.proofs.Canonical.{right-canonical}
use Rattle.steps.specs.Write.{block_records, body_records, table_records, records_for, bytes_of}
use Rattle.facts.specs.Storage.{kinds_of, operands_in}
use Rattle.round_trips.specs.WellFormed.{All, arm_count, WellFormed}
use Rattle.round_trips.proofs.Lists.{all-at, all_both}
use Rattle.round_trips.proofs.Accepted.{Accepted, read_accepted}
use Rattle.round_trips.proofs.Blocks.{Tiled as TiledFrom, code-back, joined-map, length-blocks}
use Rattle.round_trips.proofs.Bytes.{records_fit, bytes-length, records_back}
use Rattle.round_trips.proofs.Sections.{all_right, all_of, all-class}
use Rattle.round_trips.proofs.Tables.{length-arms}
use Rattle.round_trips.proofs.FromRecords as From
use Rattle.round_trips.proofs.ToRecords.{class_of, records_accepted, procedure-same, records_fit as fits-for}
use Rattle.step_laws.proofs.Shorten.{Within}
use Rattle.records.specs.Part.{part_of}
use Rattle.parts.specs.Parts.{starts_in}
use Rattle.parts.proofs.Laws.{starts_laid}
use Rattle.procedure_parts.specs.Opened.{Parts, parts_of, recoded, Coded, Holds, Parted, Opened, whole}
use Rattle.procedure_parts.proofs.Parts.{records_of_lem, bytes_of_lem, length_of, part_rest}

-- code and block table whose records are those of an accepted file
module _ (rs : List Record) (a : Accepted rs) (code heads : List ℕ) (c : records_of code ≡ of_class 4 rs) (h : records_of heads ≡ of_class 2 rs) where
  blocks_are : blocks_of code heads ≡ (procedure_of rs).blocks
  unfolding procedure_of
  blocks_are =
      map-map (map code_of) (recordsOfBlock (records_of code)) (records_of heads)
      ∙ ap (λ (c : List Record). map (λ r. map code_of (recordsOfBlock c r)) (records_of heads)) c
      ∙ ap (map (λ r. map code_of (recordsOfBlock (of_class 4 rs) r))) h

  tile : Tiled code heads
  tile = let n : length code / 32 ≡ length (of_class 4 rs) = sym (length_records code) ∙ ap length c in rw (n, h) a.tile

  canonical-is : Bytes code → Canonical code heads
  canonical-is b =
      let n = length_records code in
      let each = all_both (λ r. right r ≡ true) (λ r. r.class ≡ 4) (of_class 4 rs)
      (all_of (λ r. right r ≡ true) 4 rs (all_right 1 rs a.order)) (all-class 4 rs) in
      let all : All (λ r. (right r ≡ true) × (r.class ≡ 4)) (records_of code) = rw c each in
      right-canonical code heads b (λ k i. all-at (λ r. (right r ≡ true) × (r.class ≡ 4)) (records_of code) blank all k (omega arith))

-- the records of a well-formed procedure's code and block table
module _ (q : Procedure) (w : WellFormed q) where
  code-class : map record_of (joined q.blocks) ≡ of_class 4 (records_for q)
  code-class = sym (class_of q w 3)

  head_class : block_records 0 q.blocks ≡ of_class 2 (records_for q)
  head_class = sym (class_of q w 1)

  -- in bytes as they are written
  pub coded_by : (code heads : List ℕ) → Bytes code → Bytes heads
      → code ≡ bytes_of (map record_of (joined q.blocks)) → heads ≡ bytes_of (block_records 0 q.blocks) → Coded q.blocks code heads
  coded_by code heads bc bh c h =
      let C = map record_of (joined q.blocks) in
      let B = block_records 0 q.blocks in
      let fc : All Fits C = subst (All Fits) (sym code-class) (all_of Fits 4 (records_for q) (fits-for q w)) in
      let fb : All Fits B = subst (All Fits) (sym head_class) (all_of Fits 2 (records_for q) (fits-for q w)) in
      record {
        code-bytes = bc;
        heads-bytes = bh;
        code-length = ap length c ∙ bytes-length C ∙ ap (λ (n : ℕ). 32 * n) (length-map (joined q.blocks) record_of);
        heads-length = ap length h ∙ bytes-length B ∙ ap (λ (n : ℕ). 32 * n) (length-blocks 0 q.blocks);
        code_records_lem = ap records_of c ∙ records_back C fc;
        head_records = ap records_of h ∙ records_back B fb;
      }

-- what a step that changes code, block table or new registers owes: the parts then hold the procedure that it leaves
pub exchanged : {p : Procedure} {x : Parts} {kinds : List ℕ} → Holds p x kinds → (q : Procedure) {code heads kinds' : List ℕ} → WellFormed q
    → kinds_of x.registers ++ kinds' ≡ q.registers → p.body ≡ q.body → p.operands ≡ q.operands → p.tables ≡ q.tables
    → Coded q.blocks code heads → Holds q (recoded x code heads) kinds'
exchanged {x = x} h q {code} {heads} w r b o t c =
    let rs = records_for q in
    let a = records_accepted q w in
    let cs = c.code_records_lem ∙ code-class q w in
    let hs = c.head_records ∙ head_class q w in
    record {
      well_formed = w;
      coded = c;
      registers-length = h.registers-length;
      body-length = h.body-length ∙ ap (λ (b : Option ℕ). 32 * length (body_records b)) b;
      operands-length = h.operands-length ∙ ap (λ (o : List ℕ). 32 * length o) o;
      arms-length = h.arms-length ∙ ap (λ (t : List Table). 32 * arm_count t) t;
      registers = r;
      blocks = blocks_are rs a code heads cs hs ∙ ap (λ (q : Procedure). q.blocks) (procedure-same q w);
      tiled = tile rs a code heads cs hs;
      canonical = canonical-is rs a code heads cs hs c.code-bytes;
      body = h.body ∙ b;
      operands = h.operands ∙ o;
      tables = h.tables ∙ t;
      numbered-arms = h.numbered-arms;
      register_records = h.register_records;
      body_records_lem = h.body_records_lem ∙ ap body_records b;
      operand_records = h.operand_records ∙ ap (map (λ r. operand_record (reg_of r))) o;
      arm_records = h.arm_records ∙ ap (table_records 0) t;
    }

-- what tiles some records is all of them
pub tiles-all : (code bs : List Record) → TiledFrom (length code) 0 bs → 1 ≤ length bs → joined (map (recordsOfBlock code) bs) ≡ code
tiles-all code [] t h = absurd (omega arith)
tiles-all code (b ∷ bs) t h = code-back code 0 b bs t

-- the instructions of code and block table are those of the blocks
pub codes-held : {p : Procedure} {x : Parts} {kinds : List ℕ} → Holds p x kinds → codes_of x.code ≡ joined p.blocks
codes-held {x = x} h =
    let rs = records_of x.code in
    let n = length_records x.code in
    let m = length_records x.heads in
    let e = h.coded.heads-length in
    let s = h.well_formed.some_block in
    let t = subst (λ (n : ℕ). TiledFrom n 0 (records_of x.heads)) (sym n) h.tiled in
    ap (map code_of) (sym (tiles-all rs (records_of x.heads) t (omega arith)))
    ∙ sym (joined-map code_of (map (recordsOfBlock rs) (records_of x.heads)))
    ∙ ap joined h.blocks

-- of a file as sent: its registers are the procedure's
module _ {p : Procedure} {x : Parts} (h : Parted p x) where
  pub kinds-sent : kinds_of x.registers ≡ p.registers
  kinds-sent = sym (append-nil (kinds_of x.registers)) ∙ h.registers

  pub registers-sent : length x.registers ≡ 32 * length p.registers
  registers-sent = h.registers-length ∙ ap (λ (k : List ℕ). 32 * length k) kinds-sent

module _ (b : List ℕ) (h : Bytes b) (e : (checked b).number ≡ 0) where
  abbrev rs : List Record
  rs = records_of b

  abbrev l : Layout
  l = starts_in rs

  abbrev x : Parts
  x = parts_of b l

  abbrev p : Procedure
  p = procedure_of rs

  a : Accepted rs
  a = (read_accepted b e).2

  f : All Fits rs
  f = records_fit b h

  laid : LaidOut rs l
  laid = starts_laid rs a.order

  -- the records of each part are those of a class
  of_class_lem : (c first end : ℕ) → first ≡ before c rs → end - first ≡ length (of_class c rs) → records_of (part_of b first end) ≡ of_class c rs
  of_class_lem c first end d e = records_of_lem b first end ∙ class-part laid c d e

  pub registers_are : records_of x.registers ≡ of_class 1 rs
  registers_are = let z = sizes laid in of_class_lem 1 0 l.blocks (sym (before-none 1 1 rs (omega arith) (sorted_of rs a.order))) (omega arith)

  pub heads_are : records_of x.heads ≡ of_class 2 rs
  heads_are = let z = sizes laid in of_class_lem 2 l.blocks l.bodies laid.blocks (omega arith)

  body_is : records_of x.body ≡ of_class 3 rs
  body_is = let z = sizes laid in of_class_lem 3 l.bodies l.code laid.bodies (omega arith)

  pub code_is : records_of x.code ≡ of_class 4 rs
  code_is = let z = sizes laid in of_class_lem 4 l.code l.operands laid.code (omega arith)

  operands_are : records_of x.operands ≡ of_class 5 rs
  operands_are = let z = sizes laid in of_class_lem 5 l.operands l.arms laid.operands (omega arith)

  arms_are : records_of x.arms ≡ of_class 6 rs
  arms_are = let z = sizes laid in of_class_lem 6 l.arms l.end laid.arms (omega arith)

  -- and as many as the procedure has
  n-heads : length (records_of x.heads) ≡ length p.blocks
  unfolding procedure_of
  n-heads = ap length heads_are ∙ sym (length-map (of_class 2 rs) _)

  n-kinds : length (records_of x.registers) ≡ length (kinds_of x.registers)
  unfolding kinds_of
  n-kinds = sym (length-map (records_of x.registers) (λ r. r.kind))

  n-operands : length (records_of x.operands) ≡ length p.operands
  unfolding procedure_of
  n-operands = ap length operands_are ∙ sym (length-map (of_class 5 rs) (λ r. r.p1))

  -- what they hold
  kinds_are : kinds_of x.registers ≡ p.registers
  unfolding kinds_of procedure_of
  kinds_are = ap (map (λ r. r.kind)) registers_are

  first_body : first_of (map (λ r. r.p1) (records_of x.body)) ≡ p.body
  unfolding procedure_of
  first_body = ap (λ (s : List Record). first_of (map (λ r. r.p1) s)) body_is

  operands-in : operands_in x.operands ≡ p.operands
  unfolding operands_in procedure_of
  operands-in = ap (map (λ r. r.p1)) operands_are

  tables_are : tables_from [] (records_of x.arms) ≡ p.tables
  unfolding procedure_of
  tables_are = ap (tables_from []) arms_are

  all-numbered : numbered (records_of x.arms) ≡ length (records_of x.arms)
  all-numbered = rw arms_are a.number

  -- they hold its procedure
  pub parted : Parted p x
  parted =
      let registers-same = registers_are ∙ sym (From.registers-same rs a f) in
      let blocks-same = heads_are ∙ sym (From.blocks-same rs a f) in
      let body_same = body_is ∙ sym (From.body_same rs a f) in
      let code_same = code_is ∙ sym (From.code_same rs a f) in
      let operands_same = operands_are ∙ sym (From.operands_same rs a f) in
      let arms_same = arms_are ∙ sym (From.tables-same rs a f) in
      let code-bytes = bytes_of_lem b l.code l.operands h in
      record {
        well_formed = From.well_formed rs a f;
        coded = record {
          code-bytes = code-bytes;
          heads-bytes = bytes_of_lem b l.blocks l.bodies h;
          code-length = length_of b l.code l.operands ∙ ap (λ (n : ℕ). 32 * n) (ap length code_is ∙ sym (From.n-code rs a f));
          heads-length = length_of b l.blocks l.bodies ∙ ap (λ (n : ℕ). 32 * n) n-heads;
          code_records_lem = code_same;
          head_records = blocks-same;
        };
        registers-length = length_of b 0 l.blocks ∙ ap (λ (n : ℕ). 32 * n) n-kinds;
        body-length = length_of b l.bodies l.code ∙ ap (λ (s : List Record). 32 * length s) body_same;
        operands-length = length_of b l.operands l.arms ∙ ap (λ (n : ℕ). 32 * n) n-operands;
        arms-length = length_of b l.arms l.end ∙ ap (λ (n : ℕ). 32 * n) (ap length arms_same ∙ length-arms 0 p.tables);
        registers = append-nil (kinds_of x.registers) ∙ kinds_are;
        blocks = blocks_are rs a x.code x.heads code_is heads_are;
        tiled = tile rs a x.code x.heads code_is heads_are;
        canonical = canonical-is rs a x.code x.heads code_is heads_are code-bytes;
        body = first_body;
        operands = operands-in;
        tables = tables_are;
        numbered-arms = all-numbered;
        register_records = registers-same ∙ ap (map (λ k. register_record (reg_ty_of k))) (sym kinds_are);
        body_records_lem = body_same;
        operand_records = operands_same;
        arm_records = arms_same;
      }

  -- within the shortening limits it is a file opened
  pub opened : Within b → Opened p x
  opened w =
      let nr = From.n-registers rs a f in
      let nc = From.n-code rs a f in
      let i = w.registers in
      let j = w.code in
      record { parted = parted; few-registers = omega arith; few-code = omega arith }

  -- the parts one after the other are the file: a theorem, which no proof here needs
  pub whole_parts : whole x ≡ b
  whole_parts =
      let z = sizes laid in
      let n = length_records b in
      let m = (read_accepted b e).0 in
      let end : drop (32 * l.end) b ≡ [] = drop_of_length-le b {i = 32 * l.end} (omega arith) in
      let to_end_lem : part_of b l.arms l.end ≡ drop (32 * l.arms) b =
      sym (append-nil x.arms) ∙ ap (λ (t : List ℕ). x.arms ++ t) (sym end) ∙ part_rest b l.arms l.end (omega arith) (omega arith) in
      rw (to_end_lem, part_rest b l.operands l.arms (omega arith) (omega arith), part_rest b l.code l.operands (omega arith) (omega arith))
      (rw (part_rest b l.bodies l.code (omega arith) (omega arith), part_rest b l.blocks l.bodies (omega arith) (omega arith))
      (part_rest b 0 l.blocks (omega arith) (omega arith)))
