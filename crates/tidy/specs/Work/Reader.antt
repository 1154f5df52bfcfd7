-- The reads of one block, one by one.
use Rattle.std.specs.Prelude.{ℕ, List, [], ◌∷◌, Option}
use Rattle.records.specs.Record.{records_of, record_at}
use Rattle.codec.specs.Codec.{inst_of}
use Rattle.roles.specs.Roles.{reads_of}
use Rattle.inst.specs.declared.Reg.{Reg}
use Rattle.tidy.specs.declared.reads.Reads.{Reads}
use Rattle.tidy.specs.declared.reader.Reader.{Reader}
use Rattle.tidy.specs.Work.Parts.{operands_in}
use Rattle.tidy.specs.Work.Reads.{step}

-- with another lowest register
abbrev pub lowest_now : Reader → Option Reg → Reader
lowest_now s low = record { reads = s.reads; lead = s.lead; place = s.place; lowest = low }

-- after one read
unfoldable pub read : Reader → ℕ → Reader
read s r = lowest_now s (step s.lead.now s.reads.f.l.blocks s.reads.ws.now s.place s.lowest r)

-- and after some
unfoldable pub read_all : Reader → List ℕ → Reader
read_all s [] = s
read_all s (r ∷ rs) = read_all (read s r) rs

-- the registers that an instruction of the file reads
abbrev pub reads_at : Reads → ℕ → List ℕ
reads_at s k = reads_of (operands_in (records_of s.f.b.now) s.f.l) (inst_of (record_at s.f.b.now k))
