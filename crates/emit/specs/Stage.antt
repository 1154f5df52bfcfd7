-- Storage, not the paper's: what Emit is lent, and what it leaves in it.
use Rattle.std.specs.Prelude.{ℕ, ◌*◌, ◌/◌, ◌≤◌, ◌≡◌, List, [], length, take}
use Rattle.records.specs.Record.{records_of}
use Rattle.read.specs.Structure.{numbered}
use Rattle.procedure.specs.Procedure.{Procedure, tables_from}
use Rattle.procedure.specs.Lists.{joined}
use Rattle.blocks.specs.Blocks.{blocks_of, Canonical}
use Rattle.steps.specs.Thread.{Work}
use Rattle.steps.specs.Run.{Shortened}
use Rattle.round_trips.specs.WellFormed.{WellFormed}
use Rattle.procedure_parts.specs.Opened.{Coded}
use Rattle.emit.specs.declared.Staged.{Staged}

-- blocks in code and block table, the tables of a procedure, and room for what Emit leaves of them, which is well formed
pub record Ready (z : Shortened) (p : Procedure) (w : Work) (work table arms : List ℕ) (code heads : ℕ) : Type 0 where
  pub well_formed : WellFormed z.procedure
  pub blocks : blocks_of work table ≡ w.blocks
  pub canonical : Canonical work table
  pub few : length table / 32 ≤ 160
  pub tables : tables_from [] (records_of arms) ≡ p.tables
  pub numbered-arms : numbered (records_of arms) ≡ length (records_of arms)
  pub code-room : length (joined z.procedure.blocks) ≤ code / 32
  pub heads-room : heads ≡ 32 * length z.procedure.blocks

-- what a stage of `run` leaves, in code and block table
pub record Emitted (z : Shortened) (r : Staged) (code heads : List ℕ) : Type 0 where
  pub coded : Coded z.procedure.blocks (take (32 * r.n) code) heads
  pub rescued : r.rescued ≡ z.rescued
