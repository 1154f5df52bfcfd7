use Rattle.std.proofs.Common.{◌+◌, refl, ap, ◌∙◌, arith}
use Rattle.records.specs.Record.{records_of, record_at}
use Rattle.read.specs.Work.{part}
use Rattle.read.proofs.Laws.{part_length}
use Rattle.tidy.specs.declared.reader.Reader.{Reader}
use Rattle.tidy.specs.Work.Parts.{operands_in, placed_at}
use Rattle.tidy.specs.Work.Marks.{edges_in}
use Rattle.tidy.proofs.Verdicts.{read-fields, judged-next, judged-end}
use Rattle.tidy.proofs.reader.Reader.read_part.Goals as goal

pub overflow_cast-self : goal.overflow_cast-self
overflow_cast-self c = let f = c.args.self.now.reads.f.fit in let e = c.requires.within in omega arith

pub overflow_add-p : goal.overflow_add-p
overflow_add-p c = let f = c.args.self.now.reads.f.fit in let e = c.requires.within in omega arith

pub loop-k-preserved : goal.loop-k-preserved
loop-k-preserved c =
    let a = c.args in
    let f = a.self.now.reads.f in
    let rs = records_of f.b.now in
    let l = c.loop-k in
    let s : Reader = record { reads = l.self.reads; lead = l.self.lead; place = l.k; lowest = l.self.lowest } in
    let at = placed_at a.self.now.lead.now.block l.k (record_at f.b.now (a.p.first + l.k)) in
    let e = c.read_inst.ensures ∙ read-fields at s (edges_in a.self.now.reads.targets.now) _ l.invariant.lead refl in
    let next = judged-next (edges_in a.self.now.reads.targets.now) f.l.blocks a.self.now.reads.ws.now (operands_in rs f.l) rs a.p.first a.p.count c.requires.within a.self.now.lead.now.block l.k l.self.lowest in
    record {
      reads = ap (λ (t : Reader). t.reads) e ∙ l.invariant.reads;
      lead = ap (λ (t : Reader). t.lead.now) e ∙ l.invariant.lead;
      lowest = next c.loop-k-test.true (rw l.invariant.reads at (ap (λ (t : Reader). t.lowest) e)) ∙ l.invariant.lowest;
    }

pub returns : goal.returns
returns c =
    let a = c.args in
    let f = a.self.now.reads.f in
    let rs = records_of f.b.now in
    let l = c.loop-k in
    judged-end (edges_in a.self.now.reads.targets.now) f.l.blocks a.self.now.reads.ws.now (operands_in rs f.l) (part a.p.first a.p.count rs) a.self.now.lead.now.block l.k l.self.lowest
    (rw (part_length rs a.p.first a.p.count c.requires.within) c.loop-k-test.false)
    ∙ l.invariant.lowest
