-- Document 01, "File": the procedure that the records of a file hold, as the steps and the machine see it.
use Rattle.std.specs.Prelude.{ℕ, List, [], ◌∷◌, ◌++◌, map, cond, get_or, Option, None, Some}
use Rattle.records.specs.declared.Record.{Record}
use Rattle.records.specs.Record.{records_of}
use Rattle.layout.specs.Classes.{of_class}
use Rattle.read.specs.Structure.{is_default, code_of as recordsOfBlock}
use Rattle.inst.specs.declared.Code.{Code}
use Rattle.codec.specs.Codec.{code_of, word_of}

-- "Arm: p1 table, p2-3 low, p4-5 high (signed, 64-bit), p6 target": low and high as words
pub record Arm : Type 0 where
  pub low : ℕ
  pub high : ℕ
  pub target : ℕ

-- "each any number of arms, then one default"
pub record Table : Type 0 where
  pub arms : List Arm
  pub default : ℕ

pub record Procedure : Type 0 where
  -- the kind of each register: 0 I64, 1 F64, 2 Ptr, 3 Sig, 4 Handle
  pub registers : List ℕ
  -- the instructions of each block with their statements, in order
  pub blocks : List (List Code)
  -- "Body: p1 a block"
  pub body : Option ℕ
  -- the register of each operand
  pub operands : List ℕ
  pub tables : List Table

-- the instructions of a part of the code: "Each block's records are a part of the code slice from start to end"
abbrev pub codes_of : List ℕ → List Code
codes_of b = map code_of (records_of b)

abbrev pub arm_of : Record → Arm
arm_of r = record { low = word_of r.p2 r.p3; high = word_of r.p4 r.p5; target = r.p6 }

-- the tables of some arms, after the arms so far of the table that isn't finished
unfoldable pub tables_from : List Arm → List Record → List Table
tables_from seen [] = []
tables_from seen (r ∷ rs) =
    cond (is_default r)
    (record { arms = seen; default = r.p6 } ∷ tables_from [] rs)
    (tables_from (seen ++ (arm_of r ∷ [])) rs)

abbrev pub first_of : List ℕ → Option ℕ
first_of [] = None
first_of (x ∷ xs) = Some x

-- table n; one that doesn't exist has default 0
abbrev pub table_at : List Table → ℕ → Table
table_at ts n = get_or ts n (record { arms = []; default = 0 })

-- the procedure of a file that Read accepts
unfoldable pub procedure_of : List Record → Procedure
procedure_of rs =
    record {
      registers = map (λ r. r.kind) (of_class 1 rs);
      blocks = map (λ b. map code_of (recordsOfBlock (of_class 4 rs) b)) (of_class 2 rs);
      body = first_of (map (λ r. r.p1) (of_class 3 rs));
      operands = map (λ r. r.p1) (of_class 5 rs);
      tables = tables_from [] (of_class 6 rs);
    }
