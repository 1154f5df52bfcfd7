use Rattle.std.proofs.Common.{arith}
use Rattle.record_rules.proofs.Held.{held_all}
use Rattle.record_rules.proofs.fit.instruction_fits.Goals as goal

pub returns : goal.returns
returns c =
    let r = c.args.r in
    rw c.row.ensures.value
    (held_all r r.op r.kind c.requires (omega arith) (omega arith) (omega arith) (omega arith) (omega arith) (omega arith))
