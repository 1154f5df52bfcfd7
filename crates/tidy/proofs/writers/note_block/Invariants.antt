use mathlib.Core.Path.{◌≡◌}
use mathlib.Core.List.{map}
use lib.ListN.{length, drop}
use Rattle.records.specs.Record.{records_of}
use Rattle.read.specs.Work.{part}
use Rattle.codec.specs.Codec.{code_of}
use Rattle.tidy.specs.Tidy.{written, placed_in}
use Rattle.tidy.specs.Work.Writers.{entered}
use Rattle.tidy.proofs.writers.note_block.Given as goal

abbrev pub invariant-loop-k : goal.invariant-loop-k
invariant-loop-k l =
    let cs = map code_of (part l.p.first l.p.count (records_of l.b)) in
    (length l.ws ≡ length l.initial.ws)
    × (entered l.ws (written (placed_in l.p.block.0 l.k (drop l.k cs))) ≡ entered l.initial.ws (written (placed_in l.p.block.0 0 cs)))
