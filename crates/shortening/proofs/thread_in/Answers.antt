use mathlib.Core.Path.{sym}
use mathlib.Core.Bool.{true≢false}
use Rattle.shortening.proofs.thread_in.Goals as goal

pub returns-clause-is : goal.returns-clause-is
returns-clause-is c p o e g = c.write.ensures.is p (c.run_in-r.ensures.ran p o (λ f. absurd (true≢false (sym f))) e) g
