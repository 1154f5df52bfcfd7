use Rattle.steps.specs.Run.{sliced_form}
use Rattle.shortening.proofs.shorten_in.Goals as goal

pub returns-clause-is : goal.returns-clause-is
unfolding sliced_form
returns-clause-is c p o w e g = c.write.ensures.is p (c.run_in-r.ensures.ran p o w e) g
