use native.Mathlib.Omega.{arith}
use mathlib.Core.Path.{sym, ap}
use lib.ListN.{drop_of_length-le}
use Rattle.procedure.specs.Procedure.{codes_of}
use Rattle.ends.proofs.Laws.{length_codes}
use Rattle.kc.specs.Storage.{with_code}
use Rattle.kc.proofs.Laws.{with-last}
use Rattle.kc.proofs.fill.Goals as goal

pub loop-k-init : goal.loop-k-init
unfolding with_code
loop-k-init c =
    let b = c.args.code.now in
    (sym (ap (with_code c.args.table.now) (drop_of_length-le (codes_of b) (omega (arith, length_codes b)))), omega arith)

pub loop-k-preserved : goal.loop-k-preserved
loop-k-preserved c =
    let l = c.loop-k in
    (with-last c.args.code.now c.args.table.now l.table l.k l.invariant.1 c.loop-k-test.true l.invariant.0 c.write_record.ensures, omega arith)
