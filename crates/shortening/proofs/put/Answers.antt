use mathlib.Core.Path.{refl}
use Rattle.parts.specs.Parts.{parts_in}
use Rattle.procedure_parts.specs.Opened.{recoded}
use Rattle.output.specs.declared.Form.{Form}
use Rattle.shortening.proofs.Written.{held-written}
use Rattle.shortening.proofs.put.Goals as goal

pub returns : goal.returns
returns c s h t =
    let a = c.args in
    let form : Form = record {
      registers = c.registers.result;
      kinds = a.kinds;
      heads = a.heads;
      body = c.body.result;
      code = a.code;
      operands = c.operands.result;
      arms = c.arms.result;
    } in
    held-written (recoded (parts_in a.file.now) a.code.now a.heads.now) form a.out.now
    (rw (c.registers.ensures, c.body.ensures, c.operands.ensures, c.arms.ensures) refl) c.put_form.ensures s h t
