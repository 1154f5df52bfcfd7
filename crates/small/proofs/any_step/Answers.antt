use Rattle.std.proofs.Common.{rules}
use native.Mathlib.Omega.{arith}
use mathlib.Core.Path.{◌∙◌}
use borrow.Author.Tests.{tests}
use Prim.Native.Nat.{ℕ}
use lib.ListN.{length}
use Rattle.std.proofs.lemmas.Iterator.{YieldsList-from_range}
use Rattle.std.proofs.lemmas.Iterator.Search.{any_from_yields_List}
use Rattle.records.specs.Record.{blank}
use Rattle.inst.specs.declared.Code.{Code}
use Rattle.codec.specs.Codec.{code_of}
use Rattle.procedure.specs.Procedure.{codes_of}
use Rattle.ends.specs.Ends.{code_at}
use Rattle.ends.proofs.Laws.{length_codes}
use Rattle.steps.specs.Small.{step_by}
use Rattle.small.proofs.Places.{any_places}
use Rattle.small.proofs.any_step.Goals as goal

pub returns : goal.returns
returns c =
    let a = c.args in
    let n = length (codes_of a.code.now) in
    any_from_yields_List (λ (k : ℕ). step_by a.wide (code_at (codes_of a.code.now) k).inst) _ _ c.any.result c.any.ensures.ran
    (YieldsList-from_range 0 n n (rw (length_codes a.code.now)) (omega arith)) (λ x r q k. search (rules, tests))
    ∙ any_places (code_of blank) (λ (x : Code). step_by a.wide x.inst) (codes_of a.code.now)
