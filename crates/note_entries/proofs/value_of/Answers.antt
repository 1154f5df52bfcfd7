use Rattle.std.proofs.Common.{sym, ap, take, ◌∙◌}
use Rattle.procedure.specs.Lists.{or_else}
use Rattle.facts.specs.Storage.{const_at}
use Rattle.note_entries.specs.Storage.{pairs}
use Rattle.note_entries.proofs.Pairs.{first_found}
use Rattle.note_entries.proofs.value_of.Goals as goal

pub returns-in-Some : goal.returns-in-Some
returns-in-Some c =
    let a = c.args in
    let f = sym (c.find-f.ensures ∙ first_found a.r.0 (take a.n (pairs a.values.now))) ∙ c.in-Some.is in
    sym (ap (λ o. or_else o (const_at a.facts.now a.r.0)) f)

pub returns-in-None : goal.returns-in-None
returns-in-None c =
    let a = c.args in
    let f = sym (c.find-f.ensures ∙ first_found a.r.0 (take a.n (pairs a.values.now))) ∙ c.in-None.is in
    c.const_of.ensures ∙ sym (ap (λ o. or_else o (const_at a.facts.now a.r.0)) f)
