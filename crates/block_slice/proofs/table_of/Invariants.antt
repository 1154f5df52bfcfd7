use Rattle.std.proofs.Common.{◌≡◌, ℕ, ◌<◌, get_or, length}
use Rattle.records.specs.Record.{record_at}
use Rattle.items.specs.Items.{block_of}
use Rattle.block_slice.specs.Lent.{none}
use Rattle.block_slice.proofs.table_of.Given as goal

abbrev pub invariant-loop-k : goal.invariant-loop-k
invariant-loop-k l = (length l.blocks ≡ 160) × ((i : ℕ) → i < l.k → get_or l.blocks i none ≡ block_of (record_at l.records i))
