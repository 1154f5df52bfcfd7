use Rattle.std.proofs.Common.{refl, arith}
use Rattle.copy.proofs.Laws.{one-more}
use Rattle.copy.proofs.Copying.{placed-left, placed-new, placed-kept}
use Rattle.copy.proofs.copied.Copied.place.Goals as goal

pub returns-in-LeftOut : goal.returns-in-LeftOut
returns-in-LeftOut c =
    let a = c.args in
    rw c.in-LeftOut.is (placed-left a.self.now a.x a.m.0 refl refl)

pub returns-in-Renumbered : goal.returns-in-Renumbered
returns-in-Renumbered c =
    let a = c.args in
    let s = a.self.now in
    rw c.in-Renumbered.is
    (placed-new s a.x a.m.0 _ a.m refl c.renumbered-y.ensures (one-more s.n s.code c.renumbered-y.result (omega arith)) (one-more s.fresh s.given _ (omega arith)))

pub returns-in-Kept : goal.returns-in-Kept
returns-in-Kept c =
    let a = c.args in
    let s = a.self.now in
    rw c.in-Kept.is (placed-kept s a.x a.m.0 c.kept-y.ensures (one-more s.n s.code c.kept-y.result (omega arith)) refl)
