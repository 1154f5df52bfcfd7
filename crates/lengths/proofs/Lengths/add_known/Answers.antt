use Rattle.std.proofs.Common.{◌++◌, ◌∷◌, [], ap, ◌∙◌, append-nil}
use Rattle.lengths.specs.declared.Row.{Row}
use Rattle.lengths.specs.Storage.{lengths_of, listed}
use Rattle.lengths.proofs.Rows.{pushed}
use Rattle.lengths.proofs.Lengths.add_known.Goals as goal

pub returns-clause-known : goal.returns-clause-known
returns-clause-known c = λ h.
    let xs = listed c.args.self.now in
    ap lengths_of (c.push.ensures.one h ∙ ap (λ (x : Row). xs ++ x ∷ []) c.new.ensures) ∙ pushed xs _ ∙ simp append-nil
