use Rattle.std.proofs.Common.{ap, ◌∙◌, arith}
use Rattle.steps.specs.Copy.{own_uses}
use Rattle.facts.specs.Storage.{facts_in}
use Rattle.copy.proofs.Hows.{how-none, how_some}
use Rattle.copy.proofs.Target.how_of.Goals as goal

pub returns-in-empty : goal.returns-in-empty
returns-in-empty c =
    let a = c.args in
    λ body budget.
    how-none (facts_in a.self.facts.now body budget) (own_uses a.self.code.now) a.i c.written.result.now
    (c.written.ensures ∙ ap (λ q. q.written) c.roles_of-q.ensures) (omega arith)

pub returns-in-len1-up : goal.returns-in-len1-up
returns-in-len1-up c =
    let a = c.args in
    λ body budget.
    c.how_written.ensures body budget
    ∙ how_some (facts_in a.self.facts.now body budget) (own_uses a.self.code.now) a.i c.written.result.now
    (c.written.ensures ∙ ap (λ q. q.written) c.roles_of-q.ensures) (omega arith)
