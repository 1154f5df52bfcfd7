use Rattle.std.proofs.Common.{◌≡◌, ◌-◌, ◌+◌, ap, ◌∙◌, arith}
use Rattle.records.specs.declared.Record.{Record}
use Rattle.records.specs.Record.{records_of}
use Rattle.roles.specs.Roles.{operands_of}
use Rattle.tidy.specs.Work.Parts.{operands_in}
use Rattle.tidy.specs.Work.Reader.{read}
use Rattle.tidy.proofs.Verdicts.{read_more, read_end, listed-length, listed-at}
use Rattle.tidy.proofs.reader.Reader.read_list.Goals as goal

pub loop-k-preserved : goal.loop-k-preserved
loop-k-preserved c =
    let a = c.args in
    let f = a.self.now.reads.f in
    let l = c.loop-k in
    let j = l.k - (f.l.operands + a.list.start) in
    let rs = operands_of (operands_in (records_of f.b.now) f.l) a.list in
    let n = listed-length f.fit a.list in
    let end = c.min-end.ensures in
    let i = c.loop-k-test.true in
    let at = ap (λ (r : Record). r.p1) c.record_at.ensures ∙ listed-at f.fit a.list j (omega arith) (omega arith) (omega arith) in
    let next : l.k + 1 - (f.l.operands + a.list.start) ≡ j + 1 = omega arith in
    rw next (read_more l.self rs j (omega arith) (c.read_one.ensures ∙ ap (read l.self) at) l.invariant)

pub returns : goal.returns
returns c =
    let a = c.args in
    let f = a.self.now.reads.f in
    let l = c.loop-k in
    let rs = operands_of (operands_in (records_of f.b.now) f.l) a.list in
    let n = listed-length f.fit a.list in
    let end = c.min-end.ensures in
    let i = c.loop-k-test.false in
    read_end l.self rs (l.k - (f.l.operands + a.list.start)) (omega arith) l.invariant
