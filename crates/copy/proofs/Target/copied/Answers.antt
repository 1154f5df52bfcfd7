use Rattle.std.proofs.Common.{ℕ, get_or, arith, subst, refl}
use Rattle.copy.specs.Storage.{how_in, Placed}
use Rattle.copy.proofs.Laws.{zero_code}
use Rattle.copy.proofs.Copying.{left-start, left-done, left_step}
use Rattle.copy.proofs.Target.copied.Goals as goal

pub loop-x-init : goal.loop-x-init
loop-x-init c =
    let a = c.args in
    let e = c.empty-s.ensures in
    (omega (arith, e.0), left-start a.self.facts.now a.self.code.now a.m.0 c.empty-s.result e.0 e.1)

pub loop-x-preserved : goal.loop-x-preserved
loop-x-preserved c =
    let a = c.args in
    let l = c.loop-x in
    let p = c.place.ensures in
    let x = get_or a.self.code.now l.x-index zero_code in
    let here = subst (λ (n : ℕ). Placed l.s (how_in c.how_of-how.result) x n c.place.new.self) c.next-k.ensures p in (
      omega (arith, p.n_le),
      left_step a.self.facts.now a.self.code.now a.m.0 l.s l.x-index l.invariant.1 c.place.new.self (how_in c.how_of-how.result) x zero_code
          c.loop-x-test.true refl c.how_of-how.ensures here,
    )

pub returns : goal.returns
returns c =
    let a = c.args in
    let l = c.loop-x in
    left-done a.self.facts.now a.self.code.now a.m.0 l.s l.x-index l.invariant.1 c.loop-x-test.false (omega arith) l.s.each_writes
