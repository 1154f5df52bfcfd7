use Rattle.std.proofs.Common.{rules, eqb, not, ◌∙◌}
use Rattle.note_entries.specs.Storage.{listed}
use Rattle.note_entries.proofs.Pairs.{without-values, without-copies, stays, known_eq}
use Rattle.note_entries.proofs.Known.forget.Goals as goal

pub returns-clause-known : goal.returns-clause-known
returns-clause-known c =
    let d = c.args.d.0 in
    let s = c.args.self.now in
    known_eq
    (c.retain.ensures.kept (λ x. not (eqb x.0 d)) (λ r v b p. search rules) ∙ without-values d (listed s.values))
    (c.retain-2.ensures.kept (stays d) (λ r v b p. search rules) ∙ without-copies d (listed s.copies))
