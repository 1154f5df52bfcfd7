use Rattle.std.proofs.Common.{take}
use Rattle.line.specs.Line.{Put}
use Rattle.line.proofs.Line.put.Given as goal

abbrev pub invariant-loop-b : goal.invariant-loop-b
invariant-loop-b l = Put l.fn.self (take l.b-index l.text) l.self
