use mathlib.Core.Path.{sym, ap, ◌∙◌}
use Rattle.steps.specs.Run.{Shortened}
use Rattle.steps.specs.Shorten.{shortened}
use Rattle.parts.specs.Parts.{parts_in}
use Rattle.shortening.proofs.Shortened.{sent-run}
use Rattle.shorten.proofs.shorten_read.Goals as goal

pub returns-in-None : goal.returns-in-None
returns-in-None c p o =
    let a = c.args in
    c.put_sent.ensures p o.parted
    ∙ sym (ap (λ (z : Shortened). shortened z a.out.now) (sent-run p (parts_in a.file.now) o c.in-None.ensures.none))
