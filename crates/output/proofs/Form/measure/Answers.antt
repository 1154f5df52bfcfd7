use mathlib.Core.Path.{sym}
use Rattle.output.proofs.Laws.{form-length}
use Rattle.output.proofs.Form.measure.Goals as goal

pub returns : goal.returns
returns c =
    let a = c.args.self.now in
    sym (form-length a.registers.now a.kinds.now a.heads.now a.body.now a.code.now a.operands.now a.arms.now)
