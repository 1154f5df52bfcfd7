use Rattle.std.proofs.Common.{sym, ap, arith, ◌∙◌}
use Rattle.note_entries.specs.Storage.{first_with}
use Rattle.note_entries.proofs.Pairs.{pairs-clipped, first_here, first_later, first_none}
use Rattle.note_entries.proofs.find.find.Goals as goal

pub loop-k-init : goal.loop-k-init
loop-k-init g c =
    let a = c.args in
    rw c.min-m.ensures (ap (first_with g.W.PartialEq.eq a.r) (pairs-clipped a.words.now a.n))

pub returns-then-eq : goal.returns-then-eq
returns-then-eq g c =
    let a = c.args in
    let x = c.index-words-k in
    let y = c.index-words-k-then-eq in
    sym (first_here g.W.PartialEq.eq a.r a.words.now c.min-m.result c.loop-k.k (omega (arith, c.min-m.ensures)) c.loop-k-test.true x.result x.is y.result y.is
    (sym c.eq.ensures ∙ c.if-eq.true)) ∙ c.loop-k.invariant

pub loop-k-preserved : goal.loop-k-preserved
loop-k-preserved g c =
    let a = c.args in
    let x = c.index-words-k in
    first_later g.W.PartialEq.eq a.r a.words.now c.min-m.result c.loop-k.k (omega (arith, c.min-m.ensures)) c.loop-k-test.true x.result x.is
    (sym c.eq.ensures ∙ c.if-eq.false) ∙ c.loop-k.invariant

pub returns : goal.returns
returns g c =
    let a = c.args in
    sym (first_none g.W.PartialEq.eq a.r a.words.now c.min-m.result c.loop-k.k (omega (arith, c.min-m.ensures)) c.loop-k-test.false) ∙ c.loop-k.invariant
