use Prim.Native.Nat.{◌+◌}
use mathlib.Core.Path.{◌≡◌}
use lib.ListN.{take, drop}
use Rattle.std.specs.List.{count_by}
use Rattle.records.specs.Record.{records_of}
use Rattle.read.specs.Structure.{terminator}
use Rattle.read.specs.Spans.{spanned}
use Rattle.read.proofs.blocks.terminators.Given as goal

abbrev pub invariant-loop-k : goal.invariant-loop-k
invariant-loop-k l = l.n + count_by terminator (drop l.k (take l.end (records_of l.code.b.now))) ≡ count_by terminator (spanned l.code)
