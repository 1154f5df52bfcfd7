use Prim.Native.Nat.{◌<◌}
use mathlib.Core.Path.{refl, ap, ◌∙◌}
use lib.ListN.{length}
use Rattle.records.specs.Record.{blank}
use Rattle.codec.specs.Codec.{code_of}
use Rattle.procedure.specs.Procedure.{codes_of}
use Rattle.facts.specs.Storage.{operands_in}
use Rattle.ends.proofs.Laws.{length_codes}
use Rattle.facts.proofs.Codes.{inst-at}
use Rattle.count_facts.specs.Filling.{fact_step, fact_code}
use Rattle.count_facts.proofs.Laws.{over_again, over_done}
use borrow.Author.Rules.{rules}
use Rattle.count_facts.proofs.count.count.Goals as goal

pub loop-k-init : goal.loop-k-init
loop-k-init c = (refl, refl)

pub loop-k-preserved : goal.loop-k-preserved
loop-k-preserved c =
    let a = c.args in
    let b = a.code.now in
    let ops = operands_in a.operands.now in
    let at = inst-at b c.loop-k.k refl refl in
    let one = c.count_record.ensures ∙ ap (fact_step ops c.loop-k.table) at in
    let more : c.loop-k.k < length (codes_of b) = rw (length_codes b) c.loop-k-test.true in
    (over_again (fact_code ops) (codes_of b) c.loop-k.k (code_of blank) more one c.loop-k.invariant.0, search rules)

pub returns : goal.returns
returns c =
    let a = c.args in
    let b = a.code.now in
    over_done (fact_code (operands_in a.operands.now)) (codes_of b) c.loop-k.k (rw (length_codes b) c.loop-k-test.false) c.loop-k.invariant.0
