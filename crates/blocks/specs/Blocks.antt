-- Document 01, "Class 2, block": "Each block's records are a part of the code slice from start to end", over the bytes of code and block table.
use Rattle.std.specs.Prelude.{ℕ, min, ◌≡◌, List, map}
use Rattle.records.specs.declared.Record.{Record}
use Rattle.records.specs.Record.{records_of, record_at}
use Rattle.records.specs.Part.{part_of}
use Rattle.inst.specs.declared.Code.{Code}
use Rattle.codec.specs.Codec.{code_of, record_of}
use Rattle.read.specs.Structure.{code_of as recordsOfBlock}
use Rattle.blocks.specs.declared.Blocks.{Blocks}

-- the records of each block of a table
abbrev pub block_records_in : List ℕ → List ℕ → List (List Record)
block_records_in code table = map (recordsOfBlock (records_of code)) (records_of table)

-- the instructions of each
abbrev pub blocks_of : List ℕ → List ℕ → List (List Code)
blocks_of code table = map (map code_of) (block_records_in code table)

-- those of lent code and table
abbrev pub blocks_in : Blocks → List (List Code)
blocks_in b = blocks_of b.code.now b.table.now

-- the blocks hold exactly the records of their instructions
abbrev pub Canonical : List ℕ → List ℕ → Type 0
Canonical code table = block_records_in code table ≡ map (map record_of) (blocks_of code table)

-- "p1 start, p2 end (exclusive)", kept within n records of code
abbrev pub end_in : ℕ → ℕ → ℕ
end_in n end = min end n

abbrev pub start_in : ℕ → ℕ → ℕ → ℕ
start_in n start end = min start (end_in n end)

-- the bytes of a block, given its record
abbrev pub bytes_of_block : List ℕ → Record → List ℕ
bytes_of_block code r = part_of code r.p1 r.p2

-- the bytes of block k; none past the last block
abbrev pub block_bytes : List ℕ → List ℕ → ℕ → List ℕ
block_bytes code table k = bytes_of_block code (record_at table k)
