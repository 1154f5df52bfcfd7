-- Document 01, "File" and "Read": a procedure that a file which Read accepts can hold.
use Rattle.std.specs.Prelude.{ℕ, suc, ◌+◌, ◌≤◌, ◌<◌, ◌^◌, ◌≡◌, true, false, List, [], ◌∷◌, length, Option, None, Some}
use Rattle.record_rules.specs.declared.exist.Counts.{Counts}
use Rattle.record_rules.specs.Exist.{names_exist}
use Rattle.ends.specs.Ends.{terminator_of}
use Rattle.inst.specs.declared.Code.{Code}
use Rattle.codec.specs.Codec.{record_of, InRange}
use Rattle.procedure.specs.Procedure.{Procedure, Arm, Table}
use Rattle.procedure.specs.Lists.{joined}

-- something holds for each element of a list
abbrev pub All : {A : Type 0} → (A → Type 0) → List A → Type 0
All P [] = Unit {0}
All P (x ∷ xs) = P x × All P xs

-- "each ending in its only terminator", "none empty"
abbrev pub Ends : List Code → Type 0
Ends [] = ⊥
Ends (x ∷ []) = terminator_of x.inst ≡ true
Ends (x ∷ y ∷ c) = (terminator_of x.inst ≡ false) × Ends (y ∷ c)

-- an instruction that fits its record, and everything that it names exists
pub record Sound (n : Counts) (x : Code) : Type 0 where
  pub range : InRange x
  pub names : names_exist n (record_of x) ≡ true

pub record BlockIn (n : Counts) (c : List Code) : Type 0 where
  pub ends : Ends c
  pub each : All (Sound n) c

-- "Body: p1 a block"
abbrev pub BodyIn : ℕ → Option ℕ → Type 0
BodyIn blocks None = Unit {0}
BodyIn blocks (Some b) = b < blocks

-- "p2-3 low, p4-5 high (signed, 64-bit), p6 target"
pub record ArmIn (blocks : ℕ) (a : Arm) : Type 0 where
  pub low : a.low < 2 ^ 64
  pub high : a.high < 2 ^ 64
  pub target : a.target < blocks

pub record TableIn (blocks : ℕ) (t : Table) : Type 0 where
  pub each : All (ArmIn blocks) t.arms
  pub default : t.default < blocks

-- "each any number of arms, then one default"
abbrev pub arm_count : List Table → ℕ
arm_count [] = 0
arm_count (t ∷ ts) = suc (length t.arms) + arm_count ts

-- how many there are of the things that an instruction can name
abbrev pub counts_in : Procedure → Counts
counts_in p = record {
  registers = length p.registers;
  blocks = length p.blocks;
  tables = length p.tables;
  operands = length p.operands;
}

-- "Reading limits: 756 registers, 1 to 160 blocks, 1 body, 756 instructions, 128 operands, 128 arms."
pub record WellFormed (p : Procedure) : Type 0 where
  pub registers : length p.registers ≤ 756
  pub some_block : 1 ≤ length p.blocks
  pub blocks : length p.blocks ≤ 160
  pub code : length (joined p.blocks) ≤ 756
  pub operands : length p.operands ≤ 128
  pub arms : arm_count p.tables ≤ 128
  -- "Kind: 0 I64, 1 F64, 2 Ptr, 3 Sig, 4 Handle."
  pub each-register : All (λ k. k < 5) p.registers
  pub each-block : All (BlockIn (counts_in p)) p.blocks
  pub body : BodyIn (length p.blocks) p.body
  pub each_operand : All (λ r. r < length p.registers) p.operands
  pub each-table : All (TableIn (length p.blocks)) p.tables
