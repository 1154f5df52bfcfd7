-- Document 01, "A printed procedure": the examples that Read decides.
use mathlib.Core.Path.{◌≡◌, refl}
use mathlib.Core.List.{List, []}
use Prim.Native.Nat.{ℕ}
use lib.ListN.{length}
use Rattle.records.specs.Record.{records_of, first_records}
use Rattle.layout.specs.Walk.{walk}
use Rattle.layout.specs.Classes.{of_class, before}
use Rattle.read.specs.Reading.{checked, read_records, unless, answer}

-- "Empty: 3 (P7)"
pub P7 : checked [] ≡ answer 3 0
unfolding checked read_records unless records_of first_records walk of_class before
P7 = refl

-- "33 bytes: 1 (P8)", whatever they are
pub P8 : (b : List ℕ) → length b ≡ 33 → checked b ≡ answer 1 0
unfolding checked
P8 b e = rw e
