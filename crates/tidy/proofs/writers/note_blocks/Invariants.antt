use mathlib.Core.Path.{◌≡◌}
use lib.ListN.{length, drop}
use Rattle.records.specs.Record.{records_of}
use Rattle.tidy.specs.Tidy.{written, placed_from}
use Rattle.tidy.specs.Work.Parts.{blocks_in}
use Rattle.tidy.specs.Work.Writers.{entered}
use Rattle.tidy.proofs.writers.note_blocks.Given as goal

abbrev pub invariant-loop-k : goal.invariant-loop-k
invariant-loop-k l =
    let bs = blocks_in (records_of l.f.b.now) l.f.l in
    (length l.ws ≡ length l.initial.ws)
    × (entered l.ws (written (placed_from l.k (drop l.k bs))) ≡ entered l.initial.ws (written (placed_from 0 bs)))
