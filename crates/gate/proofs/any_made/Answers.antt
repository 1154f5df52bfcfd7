use Rattle.std.proofs.Common.{rules}
use native.Mathlib.Omega.{arith}
use mathlib.Core.Path.{◌∙◌}
use borrow.Author.Tests.{tests}
use Prim.Native.Nat.{ℕ}
use lib.ListN.{length}
use Rattle.std.proofs.lemmas.Iterator.{YieldsList-from_range}
use Rattle.std.proofs.lemmas.Iterator.Search.{any_from_yields_List}
use Rattle.records.specs.Record.{blank}
use Rattle.inst.specs.declared.Code.{Code}
use Rattle.codec.specs.Codec.{code_of}
use Rattle.procedure.specs.Procedure.{codes_of}
use Rattle.ends.specs.Ends.{code_at}
use Rattle.ends.proofs.Laws.{length_codes, inst-there}
use Rattle.steps.specs.Slice.{measure_of, is_made}
use Rattle.small.proofs.Places.{any_places}
use Rattle.gate.proofs.any_made.Goals as goal

pub returns : goal.returns
returns c =
    let b = c.args.code.now in
    let n = length (codes_of b) in
    any_from_yields_List (λ (k : ℕ). is_made (measure_of (code_at (codes_of b) k).inst)) _ _ c.any.result c.any.ensures.ran
    (YieldsList-from_range 0 n n (rw (length_codes b)) (omega arith)) (λ x r q k. search (rules, tests, inst-there b x))
    ∙ any_places (code_of blank) (λ (x : Code). is_made (measure_of x.inst)) (codes_of b)
