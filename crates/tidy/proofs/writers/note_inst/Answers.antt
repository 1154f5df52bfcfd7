use Rattle.std.proofs.Common.{ap, ◌∙◌}
use Rattle.records.specs.Record.{record_at}
use Rattle.inst.specs.declared.Code.{Code}
use Rattle.codec.specs.Codec.{inst_of}
use Rattle.ends.proofs.Laws.{code-at}
use Rattle.roles.specs.Roles.{defs_of}
use Rattle.tidy.specs.Work.Parts.{placed_at}
use Rattle.tidy.proofs.Tables.{notes-noted}
use Rattle.tidy.proofs.writers.note_inst.Goals as goal

pub returns : goal.returns
returns c =
    let a = c.args in
    let r = record_at a.b.now a.k in
    let is = c.inst_at-i.ensures ∙ ap (λ (x : Code). x.inst) (code-at a.b.now a.k) in
    rw (c.note_defs.ensures, c.written.ensures, c.roles_of.ensures, c.kind.ensures, is)
    (notes-noted a.ws.now (placed_at a.at.block.0 a.at.place r) (defs_of (inst_of r)))
