use Rattle.record_rules.proofs.Laws.{six_zeros}
use Rattle.record_rules.proofs.fit.all_zero.Goals as goal

pub returns : goal.returns
returns c =
    let a = c.args in
    rw (c.from-6.ensures, c.from-5.ensures, c.from-4.ensures, c.from-3.ensures, c.from-2.ensures, c.from.ensures)
    (six_zeros a.a a.b a.c a.d a.e a.f)
