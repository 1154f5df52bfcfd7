-- The reads, checked one by one by the table of writers; the lowest register so far.
use Rattle.std.specs.Prelude.{ℕ, min, List, [], ◌∷◌, map, Bool, false, not, ◌&&◌, cond, ltb, Option, Some, None, get_or}
use Rattle.records.specs.declared.Record.{Record}
use Rattle.records.specs.Record.{records_of}
use Rattle.layout.specs.declared.Layout.{Layout}
use Rattle.inst.specs.declared.Reg.{Reg}
use Rattle.inst.specs.Kinds.{number_of}
use Rattle.tidy.specs.declared.targets.Targets.{Targets}
use Rattle.tidy.specs.declared.writers.Writer.{Writer}
use Rattle.tidy.specs.declared.writers.Writer.TheVariants as w
use Rattle.read.specs.Work.{part}
use Rattle.codec.specs.Codec.{code_of}
use Rattle.tidy.specs.Tidy.{Placed, Field, placed_in, placed_from, reads, too_early, later, wrong, lowest}
use Rattle.tidy.specs.Work.Parts.{operands_in, blocks_in}
use Rattle.tidy.specs.Work.Writers.{WrittenBy, Nothing, One, More}
use Rattle.tidy.specs.Work.Marks.{edges_in, Leading, leading}

-- a read at place k of a block, checked by what writes its register
abbrev pub judged : Leading → WrittenBy → ℕ → Bool
judged s Nothing k = false
judged s (One kind x y) k = wrong (λ a t. get_or s.marks t false) (number_of kind) x y s.block k
judged s More k = false

-- the same by the table's entry
abbrev pub judged_entry : Leading → Writer → ℕ → Bool
judged_entry s w.Nothing k = false
judged_entry s w.Free k = false
judged_entry s (w.Address x y) k = too_early (λ a t. get_or s.marks t false) x y s.block k
judged_entry s (w.Other x y) k = not (later x y s.block k)

unfoldable pub offence : Leading → ℕ → List Writer → ℕ → ℕ → Bool
offence s n ws r k = ltb r n && judged_entry s (get_or ws r w.Nothing) k

-- the lowest register, after one more
unfoldable pub lower : Option Reg → ℕ → ℕ
lower None r = r
lower (Some s) r = min s.0 r

-- the lowest of some registers, if there are any
abbrev pub lowest_of : List ℕ → Option Reg
lowest_of [] = None
lowest_of (r ∷ rs) = Some (record { 0 = lowest r rs })

unfoldable pub lowered : Option Reg → List ℕ → Option Reg
lowered s [] = s
lowered s (r ∷ rs) = lowered (Some (record { 0 = lower s r })) rs

-- one more read: the block, n registers and the table; the place of the read; the lowest so far; the register
unfoldable pub step : Leading → ℕ → List Writer → ℕ → Option Reg → ℕ → Option Reg
step s n ws k low r = cond (offence s n ws r k) (Some (record { 0 = lower low r })) low

unfoldable pub judged_all : List (List ℕ) → ℕ → List Writer → Option Reg → List Field → Option Reg
judged_all es n ws low [] = low
judged_all es n ws low (f ∷ fs) = judged_all es n ws (step (leading es f.at.block) n ws f.at.place low f.reg) fs

-- the reads of some instructions of a file
abbrev pub reads_in : List Record → Layout → List Placed → List Field
reads_in rs l xs = reads (operands_in rs l) xs

-- the reads of a block's records, and of a whole file
abbrev pub part_reads : List ℕ → Layout → ℕ → ℕ → ℕ → List Field
part_reads b l block first count = reads_in (records_of b) l (placed_in block 0 (map code_of (part first count (records_of b))))

abbrev pub file_reads : List ℕ → Layout → List Field
file_reads b l = reads_in (records_of b) l (placed_from 0 (blocks_in (records_of b) l))

-- by a table of targets and a table of writers
abbrev pub judged_in : List Targets → List Writer → Layout → Option Reg → List Field → Option Reg
judged_in ts ws l low fs = judged_all (edges_in ts) l.blocks ws low fs
