use Rattle.std.proofs.Common.{◌∙◌, ap, ◌++◌}
use Rattle.roles.specs.Roles.{Named}
use Rattle.roles.proofs.Laws.{fields_of}
use Rattle.roles.proofs.Roles.fields.Goals as goal

pub returns : goal.returns
returns c = fields_of c.self.inside.reg c.self.invariant.first ∙ ap (λ (n : Named). n.written ++ n.read) c.self.view_is
