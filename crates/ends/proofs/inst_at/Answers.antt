use mathlib.Core.Path.{sym, ap, ◌∙◌}
use Rattle.ends.proofs.Laws.{code-at}
use Rattle.inst.specs.declared.Code.{Code}
use Rattle.codec.specs.Codec.{inst_of}
use Rattle.ends.proofs.inst_at.Goals as goal

pub returns : goal.returns
returns c =
    let a = c.args in
    c.inst_of.ensures ∙ ap inst_of c.record_at.ensures ∙ sym (ap (λ (x : Code). x.inst) (code-at a.code.now a.k))
