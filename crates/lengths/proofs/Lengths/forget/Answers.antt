use Rattle.std.proofs.Common.{sym, ap, ◌∙◌, rules}
use Rattle.lengths.specs.Storage.{lengths_of, listed, stays}
use Rattle.lengths.proofs.Rows.{forgotten}
use Rattle.lengths.proofs.Lengths.forget.Goals as goal

pub returns-then-not-all_stay-clause-known : goal.returns-then-not-all_stay-clause-known
returns-then-not-all_stay-clause-known c =
    let d = c.args.d.0 in
    ap lengths_of (c.retain.ensures.kept (stays d) (λ x b p. search rules)) ∙ forgotten (listed c.args.self.now) d

pub returns-else-not-all_stay-clause-known : goal.returns-else-not-all_stay-clause-known
returns-else-not-all_stay-clause-known c =
    let same = c.all_stay.ensures c.if-not-all_stay.false in
    sym (ap lengths_of same) ∙ forgotten (listed c.args.self.now) c.args.d.0
