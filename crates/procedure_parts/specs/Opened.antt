-- Storage, not the paper's: a procedure in parts of bytes, from a file or as a step leaves them, and what is known of them.
use Rattle.std.specs.Prelude.{ℕ, ◌*◌, ◌≤◌, ◌≡◌, List, [], ◌++◌, map, length}
use Rattle.records.specs.Record.{records_of}
use Rattle.put_record.specs.Store.{Bytes}
use Rattle.read.specs.Structure.{numbered}
use Rattle.inst.specs.declared.Code.{Code}
use Rattle.ops.specs.Ops.{reg_ty_of}
use Rattle.codec.specs.Codec.{record_of, reg_of}
use Rattle.items.specs.Items.{register_record, operand_record}
use Rattle.procedure.specs.Procedure.{Procedure, first_of, tables_from}
use Rattle.procedure.specs.Lists.{joined}
use Rattle.blocks.specs.Blocks.{blocks_of, Canonical}
use Rattle.blocks.specs.Rewrite.{Tiled}
use Rattle.steps.specs.Write.{block_records, body_records, table_records}
use Rattle.facts.specs.Storage.{kinds_of, operands_in}
use Rattle.round_trips.specs.WellFormed.{WellFormed, arm_count}
pub use Rattle.parts.specs.Parts.{Parts, parts_of}

-- the same with another code and another block table
abbrev pub recoded : Parts → List ℕ → List ℕ → Parts
recoded x code heads =
    record { registers = x.registers; heads = heads; body = x.body; code = code; operands = x.operands; arms = x.arms }

-- blocks in bytes, in whole records, as code and block table are written
pub record Coded (P : List (List Code)) (code heads : List ℕ) : Type 0 where
  pub code-bytes : Bytes code
  pub heads-bytes : Bytes heads
  pub code-length : length code ≡ 32 * length (joined P)
  pub heads-length : length heads ≡ 32 * length P
  pub code_records_lem : records_of code ≡ map record_of (joined P)
  pub head_records : records_of heads ≡ block_records 0 P

-- a procedure held by parts of bytes, with the kinds of new registers after the register records
pub record Holds (p : Procedure) (x : Parts) (kinds : List ℕ) : Type 0 where
  pub well_formed : WellFormed p
  pub coded : Coded p.blocks x.code x.heads
  -- whole records
  pub registers-length : length x.registers ≡ 32 * length (kinds_of x.registers)
  pub body-length : length x.body ≡ 32 * length (body_records p.body)
  pub operands-length : length x.operands ≡ 32 * length p.operands
  pub arms-length : length x.arms ≡ 32 * arm_count p.tables
  -- what they hold
  pub registers : kinds_of x.registers ++ kinds ≡ p.registers
  pub blocks : blocks_of x.code x.heads ≡ p.blocks
  pub tiled : Tiled x.code x.heads
  pub canonical : Canonical x.code x.heads
  pub body : first_of (map (λ r. r.p1) (records_of x.body)) ≡ p.body
  pub operands : operands_in x.operands ≡ p.operands
  pub tables : tables_from [] (records_of x.arms) ≡ p.tables
  pub numbered-arms : numbered (records_of x.arms) ≡ length (records_of x.arms)
  -- the records that represent them
  pub register_records : records_of x.registers ≡ map (λ k. register_record (reg_ty_of k)) (kinds_of x.registers)
  pub body_records_lem : records_of x.body ≡ body_records p.body
  pub operand_records : records_of x.operands ≡ map (λ r. operand_record (reg_of r)) p.operands
  pub arm_records : records_of x.arms ≡ table_records 0 p.tables

-- a procedure held by the parts of a file
abbrev pub Parted : Procedure → Parts → Type 0
Parted p x = Holds p x []

-- and within the shortening limits
pub record Opened (p : Procedure) (x : Parts) : Type 0 where
  pub parted : Parted p x
  pub few-registers : length p.registers ≤ 480
  pub few-code : length (joined p.blocks) ≤ 480

-- the parts in their order
abbrev pub whole : Parts → List ℕ
whole x = x.registers ++ (x.heads ++ (x.body ++ (x.code ++ (x.operands ++ x.arms))))

-- how many bytes the parts have, for a caller that lends storage: 480 registers, 1 to 160 blocks, 1 body, 480 instructions, 128 operands, 128 arms
pub record Few (x : Parts) : Type 0 where
  pub registers : length x.registers ≤ 15360
  pub some_head : 32 ≤ length x.heads
  pub heads : length x.heads ≤ 5120
  pub body : length x.body ≤ 32
  pub code : length x.code ≤ 15360
  pub operands : length x.operands ≤ 4096
  pub arms : length x.arms ≤ 4096
