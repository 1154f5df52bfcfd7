use Rattle.std.proofs.Common.{ap, take, ◌∙◌}
use Rattle.procedure.specs.Lists.{value_or}
use Rattle.note_entries.specs.Storage.{pairs}
use Rattle.note_entries.proofs.Pairs.{first_found, unwrapped}
use Rattle.note_entries.proofs.source_of.Goals as goal

pub returns : goal.returns
returns c =
    let r = c.args.r.0 in
    c.unwrap_or.ensures
    ∙ unwrapped r c.find.result
    ∙ ap (value_or r) (c.find.ensures ∙ first_found r (take c.args.n (pairs c.args.copies.now)))
