-- The parts of a file that Read has accepted.
use Rattle.std.specs.Prelude.{ℕ, ◌+◌, ◌-◌, ◌≤◌, ◌<◌, ◌≡◌, List, map, length, get_or}
use Rattle.records.specs.declared.Record.{Record}
use Rattle.records.specs.Record.{blank}
use Rattle.layout.specs.declared.Layout.{Layout}
use Rattle.read.specs.Structure.{code_of as recordsOfBlock}
use Rattle.read.specs.Work.{part, InCode}
use Rattle.inst.specs.declared.Code.{Code}
use Rattle.codec.specs.Codec.{inst_of, code_of}
use Rattle.tidy.specs.Tidy.{Placed}

abbrev pub block_records : List Record → Layout → List Record
block_records rs l = part l.blocks (l.bodies - l.blocks) rs

abbrev pub code_records : List Record → Layout → List Record
code_records rs l = part l.code (l.operands - l.code) rs

abbrev pub operands_in : List Record → Layout → List ℕ
operands_in rs l = map (λ r. r.p1) (part l.operands (l.arms - l.operands) rs)

abbrev pub block_code : List Record → Layout → Record → List Code
block_code rs l b = map code_of (recordsOfBlock (code_records rs l) b)

abbrev pub blocks_in : List Record → Layout → List (List Code)
blocks_in rs l = map (block_code rs l) (block_records rs l)

-- the instruction of a record, in its block
abbrev pub placed_at : ℕ → ℕ → Record → Placed
placed_at b k r = record { block = b; place = k; inst = inst_of r }

-- what Read has made sure of
pub record Fit (rs : List Record) (l : Layout) : Type 0 where
  pub few : length rs ≤ 2048
  pub registers : l.blocks ≤ 756
  pub blocks : (l.blocks ≤ l.bodies) × (l.bodies ≤ l.blocks + 160)
  pub bodies : l.bodies ≤ l.code
  pub code : l.code ≤ l.operands
  pub operands : l.operands ≤ l.arms
  pub arms : l.arms ≤ length rs
  pub in_code : InCode (l.operands - l.code) (block_records rs l)

-- the instructions of block k are some records of the file
pub record BlockPart (rs : List Record) (l : Layout) (k first count : ℕ) : Type 0 where
  pub some : 0 < count
  pub few : count ≤ 2048
  pub within : first + count ≤ length rs
  pub code : map code_of (part first count rs) ≡ block_code rs l (get_or (block_records rs l) k blank)
