use Rattle.record_rules.proofs.Asked.{named}
use Rattle.record_rules.proofs.exist.instruction_exist.Goals as goal

pub returns : goal.returns
returns c =
    rw (
      c.keeps-6.ensures,
      c.keeps-5.ensures,
      c.keeps-4.ensures,
      c.keeps-3.ensures,
      c.keeps-2.ensures,
      c.keeps.ensures,
      c.from-7.ensures,
      c.from-6.ensures,
      c.from-5.ensures,
      c.from-4.ensures,
      c.from-3.ensures,
      c.from-2.ensures,
      c.from.ensures,
    ) (named c.args.l.now.counts c.args.r c.args.r.kind c.if-r-ge24.false)
