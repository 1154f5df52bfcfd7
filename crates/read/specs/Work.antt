-- Work definitions, only for contracts between functions: a part of a file's records, and what is known of a file in order.
use Rattle.std.specs.Prelude.{ℕ, ◌-◌, ◌≤◌, ◌<◌, List, Bool, ◌≡◌, length, take, drop, get_or}
use Rattle.records.specs.declared.Record.{Record}
use Rattle.records.specs.Record.{blank}
use Rattle.layout.specs.declared.Layout.{Layout}
use Rattle.layout.specs.Classes.{ordered, before}
use Rattle.read.specs.declared.Refusal.{Refusal}
use Rattle.read.specs.Structure.{terminator}
use Rattle.read.specs.Reading.{Reading, answer}
use Rattle.read.specs.Refusal.{number_of}

-- what a refusal tells
abbrev pub told : Refusal → Reading
told e = answer (number_of e.reason) e.place

-- the records from a place on, count of them
abbrev pub part : ℕ → ℕ → List Record → List Record
part first count rs = take count (drop first rs)

-- each block holds code and ends within n instructions of code
abbrev pub InCode : ℕ → List Record → Type 0
InCode n blocks = (k : ℕ) → k < length blocks → ((get_or blocks k blank).p1 < (get_or blocks k blank).p2) × ((get_or blocks k blank).p2 ≤ n)

-- whether the last instruction of a block is a terminator
abbrev pub closes : List Record → Record → Bool
closes code r = terminator (get_or code (r.p2 - 1) blank)

-- the layout of records that are all valid and in order
pub record LaidOut (rs : List Record) (l : Layout) : Type 0 where
  pub sorted : ordered rs ≡ length rs
  pub blocks : l.blocks ≡ before 2 rs
  pub bodies : l.bodies ≡ before 3 rs
  pub code : l.code ≡ before 4 rs
  pub operands : l.operands ≡ before 5 rs
  pub arms : l.arms ≡ before 6 rs
  pub end : l.end ≡ length rs
