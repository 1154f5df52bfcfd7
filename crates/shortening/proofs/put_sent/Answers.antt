use mathlib.Core.Path.{refl}
use Rattle.steps.specs.Run.{unchanged}
use Rattle.shortening.proofs.Shortened.{sent-held}
use Rattle.shortening.proofs.put_sent.Goals as goal

pub returns : goal.returns
returns c p h =
    c.put.ensures (unchanged p) (sent-held c.args.file.now.bytes.now c.args.file.now.layout c.code.ensures c.heads.ensures p h)
    (record { is-moved = refl; is-grown = refl; is-fresh = refl; is-rescued = refl })
