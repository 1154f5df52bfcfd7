use Prim.Native.Nat.{◌/◌}
use mathlib.Core.Path.{ap, ◌∙◌}
use mathlib.Core.List.{◌++◌}
use lib.ListN.{length}
use Rattle.procedure.specs.Procedure.{codes_of}
use Rattle.facts.specs.Storage.{operands_in, kinds_of}
use Rattle.count_facts.specs.Filling.{over, fact_code}
use Rattle.count_facts.proofs.Filled.{filled}
use Rattle.count_facts.proofs.fill.Goals as goal

pub returns : goal.returns
returns c =
    let a = c.args in
    let ops = operands_in a.operands.now in
    let codes = codes_of a.code.now in
    c.count.ensures
    ∙ ap (λ t. over (fact_code ops) t codes) c.start.ensures
    ∙ filled (kinds_of a.registers.now ++ a.kinds.now) ops codes (length a.table.now / 5)
