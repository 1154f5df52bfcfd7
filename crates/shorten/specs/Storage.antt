-- Storage, not the paper's: storage of some size for a file, and shortening over it.
use Rattle.std.specs.Prelude.{ℕ, ◌+◌, ◌*◌, ◌/◌, ◌≤◌, ◌≡◌, List, length, Result}
use Rattle.records.specs.Record.{records_of}
use Rattle.put_record.specs.Store.{Bytes}
use Rattle.read.specs.declared.Refusal.{Refusal}
use Rattle.read.specs.Reading.{reading}
use Rattle.procedure.specs.Procedure.{Procedure}
use Rattle.steps.specs.declared.Shortening.{Shortening}
use Rattle.steps.specs.Run.{run}
use Rattle.steps.specs.Shorten.{shortened}
use Rattle.steps.specs.Told.{told}
use Rattle.parts.specs.declared.File.{File}
use Rattle.parts.specs.Parts.{starts_in}
use Rattle.procedure_parts.specs.Opened.{Parts, Opened}
use Rattle.output.specs.Filed.{outcome}

-- the lengths of storage that is enough for a number of registers and instructions, and of blocks; block tables are as long as one another,
-- and so are the words of known values and copies
pub record Room (most blocks work table kinds words facts staged : ℕ) : Type 0 where
  pub few : most ≤ 480
  pub few-blocks : blocks ≤ 160
  pub all-work : work ≡ 32 * (2 * most + (3 * most / 8 + 27))
  pub all-heads : table ≡ 32 * blocks
  pub all_kinds : kinds ≡ most / 2 + 40
  pub all_words : words ≡ 2 * (most + 15)
  pub all-facts : facts ≡ 5 * most
  pub all_staged : staged ≡ 32 * (most + most / 2 + 36)

-- at most a number of registers and instructions, and of blocks
pub record Fits (most blocks : ℕ) (x : Parts) : Type 0 where
  pub registers : length x.registers ≤ 32 * most
  pub heads : length x.heads ≤ 32 * blocks
  pub code : length x.code ≤ 32 * most

-- the answer and the output buffer at exit are those of the procedure that the parts hold
abbrev pub Done : Parts → Result Shortening Refusal → List ℕ → List ℕ → Type 0
Done x r out out' = (p : Procedure) → Opened p x → outcome (told r) out' ≡ shortened (run p) out

-- a file that Read has accepted, and that is opened where its classes start
pub record Accepted (f : File) : Type 0 where
  pub bytes : Bytes f.bytes.now
  pub number : (reading f.bytes.now).number ≡ 0
  pub layout : f.layout ≡ starts_in (records_of f.bytes.now)
