use Rattle.codec.proofs.Table.{inst_by_kind}
use Rattle.ends.specs.Forms.{form_of}
use Rattle.count_facts.specs.Filling.{over, class_step}
use Rattle.count_facts.proofs.count.count_record.Goals as goal

pub returns-in-AddrOf : goal.returns-in-AddrOf
unfolding over class_step form_of
returns-in-AddrOf c =
    rw (c.put_address.ensures, c.of_two.ensures, c.count_fields-in-AddrOf.ensures)
    (rw (← c.record_at-r.ensures, inst_by_kind c.record_at-r.result, ← c.from.ensures, c.in-AddrOf.is))
