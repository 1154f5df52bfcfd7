use Rattle.shortening.proofs.Fronts.{no_body, first_body}
use Rattle.shortening.proofs.pause_of.Goals as goal

pub returns-then-body-eq0 : goal.returns-then-body-eq0
returns-then-body-eq0 c = no_body c.args.body.now c.if-body-eq0.true

pub returns : goal.returns
returns c = first_body c.args.body.now c.if-body-eq0.false c.record_at-r.ensures
