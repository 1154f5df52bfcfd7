use mathlib.Core.Path.{sym, ◌∙◌}
use Rattle.parts.specs.Parts.{parts_in}
use Rattle.shorten.proofs.Tiers.{enough, staging}
use Rattle.shorten.proofs.shorten_over.Goals as goal

pub returns : goal.returns
returns g c fits told p o =
    let x = parts_in c.args.file.now in
    c.shorten_in.ensures.is p o (λ e. sym told ∙ e)
    (enough x c.requires c.heads.ensures c.min-nb.ensures c.registers.ensures c.min-nr.ensures fits p o)
    (staging x c.requires c.heads.ensures c.min-nb.ensures c.registers.ensures c.min-nr.ensures fits p o)
