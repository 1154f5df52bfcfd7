use Rattle.std.proofs.Common.{rules, ℕ, Bool, List, ◌++◌, ◌∙◌, length, arith}
use borrow.Author.Tests.{tests}
use Rattle.std.proofs.lemmas.Iterator.{YieldsList-from_range}
use Rattle.std.proofs.lemmas.Iterator.Search.{any_from_yields_List}
use Rattle.records.specs.Record.{blank}
use Rattle.inst.specs.declared.Code.{Code}
use Rattle.roles.specs.Roles.{defs_of, uses_of}
use Rattle.codec.specs.Codec.{code_of}
use Rattle.procedure.specs.Lists.{any_of}
use Rattle.procedure.specs.Procedure.{codes_of}
use Rattle.ends.specs.Ends.{code_at}
use Rattle.ends.proofs.Laws.{length_codes}
use Rattle.steps.specs.Small.{reads_konst}
use Rattle.facts.specs.Storage.{konst_at}
use Rattle.small.proofs.Places.{any_places}
use Rattle.reads_konst.proofs.reads_konst.Goals as goal

-- whether an instruction names one
abbrev names : List ℕ → Code → Bool
names facts x = any_of (konst_at facts) (defs_of x.inst ++ uses_of x.inst)

pub returns : goal.returns
unfolding reads_konst
returns c =
    let a = c.args in
    let m = codes_of a.code.now in
    any_from_yields_List (λ (k : ℕ). names a.facts.now (code_at m k)) _ _ c.any.result c.any.ensures.ran
    (YieldsList-from_range 0 (length m) (length m) (rw (length_codes a.code.now)) (omega arith)) (λ x r q k. search (rules, tests))
    ∙ any_places (code_of blank) (names a.facts.now) m
