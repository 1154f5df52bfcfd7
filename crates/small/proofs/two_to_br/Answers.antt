use mathlib.Core.Path.{refl, ◌∙◌}
use borrow.Author.Tests.{eq-eqb, ne_eqb}
use Rattle.general.proofs.Booleans.{both, neither}
use Rattle.small.proofs.two_to_br.Goals as goal

pub returns-then-n-eq2 : goal.returns-then-n-eq2
returns-then-n-eq2 c = both refl (eq-eqb _ _ c.if-n-eq2.true) c.is_br.ensures

pub returns-else-n-eq2 : goal.returns-else-n-eq2
returns-else-n-eq2 c = ne_eqb _ _ c.if-n-eq2.false ∙ neither _ refl (ne_eqb _ _ c.if-n-eq2.false)
