use native.Mathlib.Omega.{arith}
use Rattle.read.proofs.Laid.{sizes, class-part}
use Rattle.read.proofs.file.File.arms.Goals as goal

pub overflow_sub-result : goal.overflow_sub-result
overflow_sub-result c = let z = sizes c.args.self.laid in omega arith

pub invariant_of-result : goal.invariant_of-result
invariant_of-result c = let f = c.args.self in let z = sizes f.laid in record { within = omega arith; few = f.few }

pub returns : goal.returns
returns c =
    let h = c.args.self.laid in
    let z = sizes h in
    record { first = omega arith; count = omega arith; spanned = class-part h 6 (omega arith) (omega arith) }
