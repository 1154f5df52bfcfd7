use Rattle.std.proofs.Common.{◌++◌, ap, ◌∙◌}
use Rattle.procedure.specs.Lists.{any_of}
use Rattle.facts.specs.Storage.{konst_at}
use Rattle.reads_konst.proofs.Laws.{any_numbers}
use Rattle.reads_konst.proofs.names_konst.Goals as goal

pub returns : goal.returns
returns c =
    let p = konst_at c.args.facts.now in
    c.any_konst.ensures
    ∙ any_numbers p c.fields.result.now
    ∙ ap (any_of p) (c.fields.ensures ∙ ap (λ q. q.written ++ q.read) c.roles_of.ensures)
