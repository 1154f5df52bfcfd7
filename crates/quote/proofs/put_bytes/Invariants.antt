use Rattle.std.proofs.Common.{take}
use Rattle.quote.specs.Quote.{Quoted}
use Rattle.quote.proofs.put_bytes.Given as goal

abbrev pub invariant-loop-b : goal.invariant-loop-b
invariant-loop-b l = Quoted l.fn.line (take l.b-index l.bytes) l.line
