use Rattle.std.proofs.Common.{sym, ap, ◌∙◌}
use Rattle.tidy.specs.Work.Reader.{lowest_now, read}
use Rattle.tidy.proofs.Verdicts.{step_past, step_right, step_wrong}
use Rattle.tidy.proofs.reader.Reader.read_one.Goals as goal

pub returns-then-self-k : goal.returns-then-self-k
unfolding read
returns-then-self-k c =
    let s = c.args.self.now in
    let r = s.reads in
    ap (lowest_now s) (step_past s.lead.now r.f.l.blocks r.ws.now s.place s.lowest c.args.r.0 c.if-self-k.true)

pub returns-then-wrong : goal.returns-then-wrong
unfolding read
returns-then-wrong c =
    let s = c.args.self.now in
    let r = s.reads in
    let e = c.wrong.ensures.kept in
    rw e
    (ap (lowest_now s)
    (step_wrong s.lead.now r.f.l.blocks r.ws.now s.place s.lowest c.args.r.0 c.if-self-k.false r.registers _
    (sym c.wrong.ensures.value ∙ c.if-wrong.true) (rw e at c.lower.ensures)))

pub returns-else-wrong : goal.returns-else-wrong
unfolding read
returns-else-wrong c =
    let s = c.args.self.now in
    let r = s.reads in
    c.wrong.ensures.kept
    ∙ ap (lowest_now s)
    (step_right s.lead.now r.f.l.blocks r.ws.now s.place s.lowest c.args.r.0 c.if-self-k.false r.registers _
    (sym c.wrong.ensures.value ∙ c.if-wrong.false))
