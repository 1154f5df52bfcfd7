use Rattle.std.proofs.Common.{Some, ap, sym, ◌∙◌}
use Rattle.lengths.proofs.Rows.{found_here, found_later, found_none}
use Rattle.lengths.proofs.Lengths.find.Goals as goal

pub returns-then-is : goal.returns-then-is
returns-then-is c =
    let a = c.args in
    let s = a.self.now in
    ap Some c.bounds.ensures
    ∙ found_here a.what a.r.0 s.n s.rows.now s.fits c.loop-k.k c.loop-k-test.true _ (sym c.is.ensures ∙ c.if-is.true)
    ∙ c.loop-k.invariant

pub loop-k-preserved : goal.loop-k-preserved
loop-k-preserved c =
    let a = c.args in
    let s = a.self.now in
    found_later a.what a.r.0 s.n s.rows.now s.fits c.loop-k.k c.loop-k-test.true _ (sym c.is.ensures ∙ c.if-is.false) ∙ c.loop-k.invariant

pub returns : goal.returns
returns c =
    let a = c.args in
    let s = a.self.now in
    found_none a.what a.r.0 s.n s.rows.now s.fits c.loop-k.k c.loop-k-test.false ∙ c.loop-k.invariant
