-- Storage: "the block table is lent as a slice of blocks". A list of Block structs represents the blocks of some code.
use Rattle.std.specs.Prelude.{ℕ, List, map, get_or}
use Rattle.inst.specs.declared.Block.{Block}
use Rattle.inst.specs.declared.Code.{Code}
use Rattle.procedure.specs.Procedure.{codes_of}
use Rattle.records.specs.Part.{part_of}

-- the bytes of a block, from its start to its end
abbrev pub bytes_of_lent : List ℕ → Block → List ℕ
bytes_of_lent code b = part_of code b.start b.end

-- the block past the last
abbrev pub none : Block
none = record { start = 0; end = 0 }

-- the bytes of block k; none past the last block
abbrev pub lent_bytes : List ℕ → List Block → ℕ → List ℕ
lent_bytes code blocks k = bytes_of_lent code (get_or blocks k none)

-- the instructions of each block
abbrev pub lent_blocks : List ℕ → List Block → List (List Code)
lent_blocks code blocks = map (λ b. codes_of (bytes_of_lent code b)) blocks
