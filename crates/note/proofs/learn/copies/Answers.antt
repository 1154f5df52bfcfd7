use Rattle.std.proofs.Common.{sym, ◌∙◌}
use Rattle.note.proofs.Laws.{alike_by}
use Rattle.note.proofs.learn.copies.Goals as goal

pub returns-else-eq-2 : goal.returns-else-eq-2
returns-else-eq-2 c =
    let a = c.args in
    let same = sym c.eq.ensures ∙ c.if-eq.true in
    let other = sym c.eq-then-eq.ensures ∙ c.if-eq-2.false in
    c.eq-else-eq-2.ensures ∙ sym (alike_by a.facts.now a.d.0 a.s.0 c.kind_of-kind.ensures c.kind_of.ensures ∙ rw (same, other))

pub returns-else-eq : goal.returns-else-eq
returns-else-eq c =
    let a = c.args in
    let differ = sym c.eq.ensures ∙ c.if-eq.false in
    c.if-eq.false ∙ sym (alike_by a.facts.now a.d.0 a.s.0 c.kind_of-kind.ensures c.kind_of.ensures ∙ rw (differ))
