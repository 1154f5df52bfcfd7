use Rattle.std.proofs.Common.{sym, ap, ◌∙◌}
use Rattle.roles.proofs.Laws.{numbers-length, number_at}
use Rattle.roles.specs.Roles.{numbers_of}
use Rattle.tidy.specs.Work.Reader.{read}
use Rattle.tidy.proofs.Verdicts.{read_more, read_end}
use Rattle.tidy.proofs.reader.Reader.read_fields.Goals as goal

pub loop-r-preserved : goal.loop-r-preserved
loop-r-preserved c =
    let l = c.loop-r in
    let rs = c.args.fields.now in
    read_more l.self (numbers_of rs) l.r-index (rw (numbers-length rs) c.loop-r-test.true)
    (c.read_one.ensures ∙ ap (read l.self) (sym (number_at rs l.r-index 0))) l.invariant

pub returns : goal.returns
returns c =
    let l = c.loop-r in
    let rs = c.args.fields.now in
    read_end l.self (numbers_of rs) l.r-index (rw (numbers-length rs) c.loop-r-test.false) l.invariant
