use Rattle.std.proofs.Common.{◌∙◌}
use Rattle.inst.specs.Kinds.{number_of}
use Rattle.roles.specs.Roles.{numbers_of}
use Rattle.roles.proofs.Laws.{numbers-length}
use Rattle.tidy.specs.Work.Writers.{one_at}
use Rattle.tidy.proofs.Tables.{notes-more, notes-end}
use Rattle.tidy.proofs.writers.note_defs.Goals as goal

pub loop-r-preserved : goal.loop-r-preserved
loop-r-preserved c =
    let l = c.loop-r in
    let one = one_at (number_of c.args.kind) c.args.at.block.0 c.args.at.place in
    let m = notes-more l.ws one c.args.written.now l.r-index c.loop-r-test.true c.note_write.ensures in
    (m.0 ∙ l.invariant.0, m.1 ∙ l.invariant.1)

pub returns : goal.returns
returns c =
    let l = c.loop-r in
    let one = one_at (number_of c.args.kind) c.args.at.block.0 c.args.at.place in
    let rs = c.args.written.now in
    notes-end l.ws one (numbers_of rs) l.r-index (rw (numbers-length rs) c.loop-r-test.false) ∙ l.invariant.1
