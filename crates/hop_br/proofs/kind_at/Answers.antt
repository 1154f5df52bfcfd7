use Rattle.std.proofs.Common.{◌∙◌, ap, unwrap_or}
use Rattle.std.proofs.lemmas.Option.{unwrap_or-slice_get}
use Rattle.facts.specs.Storage.{kinds_in}
use Rattle.hop_br.proofs.kind_at.Goals as goal

pub returns : goal.returns
returns c =
    let a = c.args in
    c.unwrap_or.ensures ∙ ap (λ o. unwrap_or o 0) c.kind_of.ensures ∙ unwrap_or-slice_get (kinds_in a.facts.now) a.r.0 0
