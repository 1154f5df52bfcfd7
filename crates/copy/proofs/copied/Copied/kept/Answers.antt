use Prim.Native.Nat.{ℕ}
use mathlib.Core.Path.{ap, ◌∙◌}
use Rattle.inst.specs.declared.Inst.{Inst}
use Rattle.codec.specs.Codec.{with_inst}
use Rattle.copy.specs.Storage.{local_in}
use Rattle.copy.proofs.Laws.{exchanged-found}
use Rattle.copy.proofs.copied.Copied.kept.Goals as goal

pub returns : goal.returns
returns c =
    let a = c.args in
    ap (λ (i : Inst). with_inst i a.x) ((rw c.given.ensures.value at c.renamed.ensures) ∙ exchanged-found (local_in a.self.now) (λ (r : ℕ). r) a.x.inst)
