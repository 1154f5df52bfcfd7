use Prim.Native.Nat.{◌+◌, ◌/◌, ◌≤◌, min}
use lib.ListN.{length, drop}
use Rattle.procedure.specs.Lists.{joined}
use Rattle.blocks.specs.Blocks.{block_records_in}
use Rattle.emit_records.specs.Emitted.{marks_in, place, puts, empty_in, heads_from}
use Rattle.emit_records.proofs.Writing.{Writing}
use Rattle.emit_records.proofs.Heads.{Heading}
use Rattle.emit_records.proofs.Left.put_blocks.Given as goal

abbrev pub invariant-loop-b : goal.invariant-loop-b
invariant-loop-b l =
    let m = marks_in l.self.seen.now in
    let R = block_records_in l.self.blocks.code.now l.self.blocks.table.now in
    Writing l.fn.to (joined (empty_in 0 m R)) l.to (joined (empty_in l.b (drop l.b m) (drop l.b R)))
    × (l.fn.to.at + length (joined (empty_in 0 m R)) ≤ length l.fn.to.out.now / 32
    → length l.self.blocks.table.now / 32 ≤ length l.initial.heads / 32
    → Heading m R l.b l.to l.heads l.start (puts (heads_from 0 (min l.fn.to.at 4294967295) (empty_in 0 m R)) (place l.initial.heads 0)))
