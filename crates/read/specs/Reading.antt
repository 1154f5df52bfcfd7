-- Document 01, "Operations", Read: the seven conditions in their order.
use Rattle.std.specs.Prelude.{ℕ, ◌+◌, ◌%◌, List, Bool, ◌||◌, not, cond, eqb, ltb, length}
use Rattle.records.specs.declared.Record.{Record}
use Rattle.records.specs.Record.{records_of}
use Rattle.record_rules.specs.declared.exist.Counts.{Counts}
use Rattle.record_rules.specs.Exist.{names_exist}
use Rattle.layout.specs.Walk.{lead}
use Rattle.layout.specs.Classes.{ordered, of_class, before}
use Rattle.read.specs.Structure.{tiled, ended, numbered, tables}

-- 1 "length not a multiple of 32 or above 65,536"
abbrev pub wrong_length : List ℕ → Bool
wrong_length b = not (eqb (length b % 32) 0) || ltb 65536 (length b)

-- 2 "a record wrong in itself or its class order": `ordered` of `layout`

-- 3 "a class beyond limit, or no block": "756 registers, 1 to 160 blocks, 1 body, 756 instructions, 128 operands, 128 arms"
abbrev pub beyond : ℕ → ℕ → ℕ → ℕ → ℕ → ℕ → Bool
beyond registers blocks bodies code operands arms =
    ltb 756 registers
    || (ltb 160 blocks
    || (eqb blocks 0
    || (ltb 1 bodies
    || (ltb 756 code
    || (ltb 128 operands
    || ltb 128 arms)))))

abbrev pub beyond_limit : List Record → Bool
beyond_limit rs =
    beyond (length (of_class 1 rs)) (length (of_class 2 rs)) (length (of_class 3 rs))
    (length (of_class 4 rs)) (length (of_class 5 rs)) (length (of_class 6 rs))

-- 4 "blocks don't tile", 5 "terminator missing or early", 6 "tables misnumbered or undefaulted": `tiled`, `ended`, `numbered` of Structure

-- 7 "a register, block, table or list that doesn't exist"
abbrev pub counts_of : List Record → Counts
counts_of rs = record {
  registers = length (of_class 1 rs);
  blocks = length (of_class 2 rs);
  tables = tables (of_class 6 rs);
  operands = length (of_class 5 rs);
}

-- how many records come before the first that names something that doesn't exist
abbrev pub named : List Record → ℕ
named rs = lead (names_exist (counts_of rs)) rs

-- Read's answer: 0 and 0 if accepted, else number and record
pub record Reading : Type 0 where
  pub number : ℕ
  pub place : ℕ

-- "number and first offending record, counted from 0 in file order"
abbrev pub answer : ℕ → ℕ → Reading
answer number place = record { number = number; place = place }

-- of n records from a place on, k are fine: if that isn't all, the next is the offending one
unfoldable pub unless : ℕ → ℕ → ℕ → ℕ → Reading → Reading
unless number first k n otherwise = cond (ltb k n) (answer number (first + k)) otherwise

-- 4 to 7, for records that are valid, in order and within the limits
unfoldable pub read_tables : List Record → Reading
read_tables rs =
    unless 6 (before 6 rs) (numbered (of_class 6 rs)) (length (of_class 6 rs))
    (unless 7 0 (named rs) (length rs)
    (answer 0 0))

unfoldable pub read_blocks : List Record → Reading
read_blocks rs =
    unless 4 (before 2 rs) (tiled (length (of_class 4 rs)) (of_class 2 rs)) (length (of_class 2 rs))
    (unless 5 (before 2 rs) (ended (of_class 4 rs) (of_class 2 rs)) (length (of_class 2 rs))
    (read_tables rs))

unfoldable pub read_records : List Record → Reading
read_records rs = unless 2 0 (ordered rs) (length rs) (cond (beyond_limit rs) (answer 3 0) (read_blocks rs))

-- "In order: 1 .. 7": the seven conditions of a file
unfoldable pub checked : List ℕ → Reading
checked b = cond (wrong_length b) (answer 1 0) (read_records (records_of b))

-- Read. "Result: 0 and 0 if accepted, else number and first offending record"
abbrev pub reading : List ℕ → Reading
reading b = checked b
