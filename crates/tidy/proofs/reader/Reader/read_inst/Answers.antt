use Rattle.std.proofs.Common.{refl, ap, ◌∙◌}
use Rattle.records.specs.Record.{records_of, record_at}
use Rattle.inst.specs.declared.Code.{Code}
use Rattle.codec.specs.Codec.{inst_of}
use Rattle.ends.proofs.Laws.{code-at}
use Rattle.roles.specs.Roles.{uses_of, list_of, operands_of}
use Rattle.tidy.specs.declared.reads.Reads.{Reads}
use Rattle.tidy.specs.Work.Parts.{operands_in}
use Rattle.tidy.proofs.Verdicts.{read_both}
use Rattle.tidy.proofs.reader.Reader.read_inst.Goals as goal

pub returns : goal.returns
returns c =
    let s = c.args.self.now in
    let i = inst_of (record_at s.reads.f.b.now c.args.k) in
    let is = c.inst_at.ensures ∙ ap (λ (y : Code). y.inst) (code-at s.reads.f.b.now c.args.k) in
    read_both s (uses_of i) (λ (r : Reads). operands_of (operands_in (records_of r.f.b.now) r.f.l) (list_of i))
    (c.read_fields.ensures ∙ rw (c.read.ensures, c.roles_of-roles.ensures, is) refl)
    (c.read_list.ensures ∙ rw (c.list.ensures, c.roles_of-roles.ensures, is) refl)
