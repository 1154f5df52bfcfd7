use Rattle.std.proofs.Common.{ap, ◌∙◌, is_some}
use Rattle.lengths.specs.Storage.{listed}
use Rattle.lengths.proofs.Rows.{made_is}
use Rattle.lengths.proofs.Lengths.is_made.Goals as goal

pub returns : goal.returns
returns c = c.is_some.ensures ∙ ap is_some c.find.ensures ∙ made_is (listed c.args.self.now) c.args.at.0
