use mathlib.Core.Path.{◌≡◌, refl}
use mathlib.Core.Bool.{true}
use lib.ListN.{length}
use Rattle.pause.specs.Storage.{body_in}
use Rattle.run.specs.Ran.{opens_in}
use Rattle.shortening.specs.Storage.{lent}
use Rattle.shortening.proofs.Shortened.{left_of, opens-still}
use Rattle.shortening.proofs.run_in.Goals as goal

pub returns-clause-ran : goal.returns-clause-ran
returns-clause-ran c p o w e =
    let a = c.args in
    let s = lent a.s.now.work.now a.s.now.table.now a.s.now.kinds.now a.s.now.facts.now (length a.s.now.known.now) (length a.s.now.copy.now) in
    let gate : a.is_open ≡ true → opens_in (body_in c.pause_of.result) c.put_front.new.b c.put_front-2.new.b ≡ true =
    λ i. opens-still a.file.now.bytes.now a.file.now.layout s c.code-code.ensures c.put_front.ensures.is c.heads.ensures
    c.put_front-2.ensures.is c.body.ensures c.pause_of.ensures c.put_front.ensures.bytes p o e (w i) in
    left_of a.file.now.bytes.now a.file.now.layout s c.code-code.ensures c.put_front.ensures.is c.heads.ensures c.put_front-2.ensures.is c.body.ensures
    c.pause_of.ensures c.registers.ensures c.operands.ensures refl (c.run.ensures gate) c.put_front.ensures.bytes p o e
