-- Document 01, "File": the classes of records, by their numbers.
use Rattle.std.specs.Prelude.{ℕ, [], ◌∷◌, Result, Ok, Err, get_or}
use Rattle.records.specs.declared.Class.{Class}
use Rattle.records.specs.declared.Class.TheVariants.{Register, Block, Body, Instruction, Operand, Arm}
use Rattle.records.specs.declared.NoClass.{NoClass}
use Rattle.records.specs.declared.Record.{Record}

-- Class 1 is a register, 2 a block, 3 a body, 4 an instruction, 5 an operand, 6 an arm.
abbrev pub class_number : Class → ℕ
class_number Register = 1
class_number Block = 2
class_number Body = 3
class_number Instruction = 4
class_number Operand = 5
class_number Arm = 6

-- the class of a number, or the number where no class has it
abbrev pub class_at : ℕ → Result Class NoClass
class_at n =
    get_or
    (Err (record { 0 = n })
    ∷ Ok Register
    ∷ Ok Block
    ∷ Ok Body
    ∷ Ok Instruction
    ∷ Ok Operand
    ∷ Ok Arm
    ∷ [])
    n
    (Err (record { 0 = n }))

-- a record of a class and a kind, with nothing in its places
abbrev pub empty_record : ℕ → ℕ → Record
empty_record class kind = record {
  class = class;
  kind = kind;
  op = 0;
  zero = 0;
  stmt = 0;
  p1 = 0;
  p2 = 0;
  p3 = 0;
  p4 = 0;
  p5 = 0;
  p6 = 0;
}
