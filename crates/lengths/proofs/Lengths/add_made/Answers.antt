use Rattle.std.proofs.Common.{List, ap, ◌∙◌, ◌&&◌, ◌++◌, ◌∷◌, [], not, eqb, rules, arith}
use Rattle.lengths.specs.declared.What.TheVariants.{Made}
use Rattle.lengths.specs.declared.Row.{Row}
use Rattle.lengths.specs.Storage.{row_of, lengths_of, listed, same}
use Rattle.lengths.proofs.Rows.{remade}
use Rattle.lengths.proofs.Lengths.add_made.Goals as goal

pub returns-clause-made : goal.returns-clause-made
returns-clause-made c = λ h.
    let a = c.args in
    let k = c.retain.ensures.keeps in
    let left = c.retain.ensures.kept (λ x. not (same x.what Made && eqb x.key.0 a.at.0)) (λ x b p. search rules) in
    let row = row_of Made a.at a.b in
    let more = c.push.ensures.one (omega (arith, k.count, k.long)) ∙ ap (λ (x : Row). listed c.retain.new.self ++ x ∷ []) c.new.ensures in
    ap lengths_of (more ∙ ap (λ (l : List Row). l ++ row ∷ []) left)
    ∙ remade (listed a.self.now) a.at a.b
