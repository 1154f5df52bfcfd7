use Rattle.std.proofs.Common.{◌≡◌, map, drop}
use Rattle.records.specs.Record.{records_of}
use Rattle.read.specs.Work.{part}
use Rattle.codec.specs.Codec.{code_of}
use Rattle.tidy.specs.Tidy.{placed_in}
use Rattle.tidy.specs.Work.Marks.{edges_in, leading}
use Rattle.tidy.specs.Work.Reads.{judged_in, reads_in}
use Rattle.tidy.proofs.reader.Reader.read_part.Given as goal

abbrev pub invariant-loop-k : goal.invariant-loop-k
invariant-loop-k l =
    let r = l.initial.self.reads in
    let block = l.initial.self.lead.now.block in
    let rs = records_of r.f.b.now in
    let cs = map code_of (part l.p.first l.p.count rs) in
    let all = judged_in r.targets.now r.ws.now r.f.l in
    record {
      reads : l.self.reads ≡ r;
      lead : l.self.lead.now ≡ leading (edges_in r.targets.now) block;
      lowest : all l.self.lowest (reads_in rs r.f.l (placed_in block l.k (drop l.k cs))) ≡ all l.initial.self.lowest (reads_in rs r.f.l (placed_in block 0 cs));
    }
