use Rattle.std.proofs.Common.{◌≡◌, length}
use Rattle.records.specs.Record.{records_of}
use Rattle.tidy.proofs.Ending.{Noted}
use Rattle.tidy.proofs.targets.note_targets.Given as goal

abbrev pub invariant-loop-k : goal.invariant-loop-k
invariant-loop-k l = (length l.targets ≡ 160) × Noted (records_of l.f.b.now) l.f.l l.k l.targets
