-- Document 01, "File": the records of a procedure, and their bytes.
use Rattle.std.specs.Prelude.{ℕ, suc, ◌+◌, List, [], ◌∷◌, ◌++◌, map, true, false, length, Option, None, Some}
use Rattle.records.specs.declared.Record.{Record}
use Rattle.put_record.specs.Store.{record_bytes}
use Rattle.inst.specs.declared.Code.{Code}
use Rattle.ops.specs.Ops.{reg_ty_of}
use Rattle.codec.specs.Codec.{record_of, reg_of, block_of}
use Rattle.items.specs.Items.{register_record, block_record, body_record, operand_record, arm_record}
use Rattle.procedure.specs.Procedure.{Procedure, Arm, Table}
use Rattle.procedure.specs.Lists.{joined}

-- blocks whose code starts at a place
unfoldable pub block_records : ℕ → List (List Code) → List Record
block_records start [] = []
block_records start (c ∷ cs) = block_record (record { start = start; end = start + length c }) ∷ block_records (start + length c) cs

abbrev pub body_records : Option ℕ → List Record
body_records None = []
body_records (Some b) = body_record (block_of b) ∷ []

-- an arm of table n
abbrev pub case_record : ℕ → Arm → Record
case_record n a = arm_record (record { table = n; low = a.low; high = a.high; to = block_of a.target; default = false })

-- "kind 1 is the default, low and high zero"
abbrev pub default_record : ℕ → ℕ → Record
default_record n to = arm_record (record { table = n; low = 0; high = 0; to = block_of to; default = true })

-- "Tables count from 0, each any number of arms, then one default.": tables from number n on
unfoldable pub table_records : ℕ → List Table → List Record
table_records n [] = []
table_records n (t ∷ ts) = map (case_record n) t.arms ++ (default_record n t.default ∷ table_records (suc n) ts)

-- "Classes ascend."
unfoldable pub records_for : Procedure → List Record
records_for p =
    map (λ k. register_record (reg_ty_of k)) p.registers
    ++ (block_records 0 p.blocks
    ++ (body_records p.body
    ++ (map record_of (joined p.blocks)
    ++ (map (λ r. operand_record (reg_of r)) p.operands
    ++ table_records 0 p.tables))))

-- "bytes of 32-byte records, no header, little-endian"
unfoldable pub bytes_of : List Record → List ℕ
bytes_of [] = []
bytes_of (r ∷ rs) = record_bytes r ++ bytes_of rs
