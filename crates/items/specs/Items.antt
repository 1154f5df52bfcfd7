-- Document 01, "File": what the records of the classes 1, 2, 3, 5 and 6 hold.
use Rattle.std.specs.Prelude.{ℕ, ◌<◌, ◌^◌, ◌≡◌, Bool, true, cond, eqb}
use Rattle.records.specs.declared.Record.{Record}
use Rattle.inst.specs.declared.Reg.{Reg}
use Rattle.inst.specs.declared.RegTy.{RegTy}
use Rattle.inst.specs.declared.BlockId.{BlockId}
use Rattle.inst.specs.declared.Block.{Block}
use Rattle.inst.specs.declared.ArmEntry.{ArmEntry}
use Rattle.ops.specs.Ops.{reg_ty_of, reg_ty_num}
use Rattle.codec.specs.Codec.{word_of, low_of, high_of}

-- "Unused places are zero; only instructions have a statement."
abbrev pub row_of : ℕ → ℕ → ℕ → ℕ → ℕ → ℕ → ℕ → ℕ → Record
row_of class kind p1 p2 p3 p4 p5 p6 = record {
  class = class;
  kind = kind;
  op = 0;
  zero = 0;
  stmt = 0;
  p1 = p1;
  p2 = p2;
  p3 = p3;
  p4 = p4;
  p5 = p5;
  p6 = p6;
}

-- "Class 1, register": "Kind: 0 I64, 1 F64, 2 Ptr, 3 Sig, 4 Handle."
abbrev pub register_of : Record → RegTy
register_of r = reg_ty_of r.kind

abbrev pub register_record : RegTy → Record
register_record x = row_of 1 (reg_ty_num x) 0 0 0 0 0 0

-- "Block: p1 start, p2 end (exclusive)"
abbrev pub block_of : Record → Block
block_of r = record { start = r.p1; end = r.p2 }

abbrev pub block_record : Block → Record
block_record x = row_of 2 0 x.start x.end 0 0 0 0

-- "Body: p1 a block"
abbrev pub body_of : Record → BlockId
body_of r = record { 0 = r.p1 }

abbrev pub body_record : BlockId → Record
body_record x = row_of 3 0 x.0 0 0 0 0 0

-- "Class 5, operand": "p1 register."
abbrev pub operand_of : Record → Reg
operand_of r = record { 0 = r.p1 }

abbrev pub operand_record : Reg → Record
operand_record x = row_of 5 0 x.0 0 0 0 0 0

-- "Arm: p1 table, p2-3 low, p4-5 high (signed, 64-bit), p6 target; kind 1 is the default"
abbrev pub arm_of : Record → ArmEntry
arm_of r = record {
  table = r.p1;
  low = word_of r.p2 r.p3;
  high = word_of r.p4 r.p5;
  to = record { 0 = r.p6 };
  default = eqb r.kind 1;
}

abbrev pub arm_kind : Bool → ℕ
arm_kind default = cond default 1 0

abbrev pub arm_record : ArmEntry → Record
arm_record x =
    row_of 6 (arm_kind x.default) x.table (low_of x.low) (high_of x.low) (low_of x.high) (high_of x.high) x.to.0

-- the ranges of an arm's words, and "the default, low and high zero"
pub record ArmInRange (x : ArmEntry) : Type 0 where
  pub table : x.table < 2 ^ 32
  pub low : x.low < 2 ^ 64
  pub high : x.high < 2 ^ 64
  pub to : x.to.0 < 2 ^ 32
  pub low-zero : x.default ≡ true → x.low ≡ 0
  pub high_zero : x.default ≡ true → x.high ≡ 0
