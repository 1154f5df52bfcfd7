use Rattle.std.proofs.Common.{arith, rules}
use lib.ListN.{drop, length-drop}
use Rattle.records.specs.Record.{records_of}
use Rattle.records.specs.Class.{class_number}
use Rattle.layout.specs.Work.{right_of}
use Rattle.layout.proofs.Walks.{lead_le}
use Rattle.layout.proofs.span.Goals as goal

pub returns : goal.returns
returns c =
    let p = right_of (class_number c.args.class) in
    let rest = drop c.args.first (records_of c.args.b.now) in
    let value = c.run_end.ensures p (λ r t q. search rules) in
    record { value = value; within = omega (arith, value, lead_le p rest, length-drop c.args.first (records_of c.args.b.now)) }
