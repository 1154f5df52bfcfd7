-- What a refusal says: the number of its reason in document 01, "Operations", and the offending record.
use Rattle.std.specs.Prelude.{ℕ, Result, Ok, Err}
use Rattle.read.specs.declared.Reason.{Reason}
use Rattle.read.specs.declared.Reason.TheVariants.{Length, Record, Limit, Tiling, Terminator, Table, Name, ShorteningLimit, Output, Ceiling}
use Rattle.read.specs.declared.Refusal.{Refusal}
use Rattle.read.specs.Reading.{Reading, answer}

abbrev pub number_of : Reason → ℕ
number_of Length = 1
number_of Record = 2
number_of Limit = 3
number_of Tiling = 4
number_of Terminator = 5
number_of Table = 6
number_of Name = 7
number_of ShorteningLimit = 8
number_of Output = 9
number_of Ceiling = 10

-- the answer that a result tells
abbrev pub reading_of : Result (Unit {0}) Refusal → Reading
reading_of (Ok _) = answer 0 0
reading_of (Err e) = answer (number_of e.reason) e.place
