use Rattle.std.proofs.Common.{◌≡◌, drop, None}
use Rattle.records.specs.Record.{records_of}
use Rattle.tidy.specs.Tidy.{placed_from}
use Rattle.tidy.specs.Work.Parts.{blocks_in}
use Rattle.tidy.specs.Work.Reads.{judged_in, reads_in}
use Rattle.tidy.proofs.reads.Reads.read_blocks.Given as goal

abbrev pub invariant-loop-k : goal.invariant-loop-k
invariant-loop-k l =
    let r = l.self in
    let rs = records_of r.f.b.now in
    let bs = blocks_in rs r.f.l in
    let all = judged_in r.targets.now r.ws.now r.f.l in
    all l.t (reads_in rs r.f.l (placed_from l.k (drop l.k bs))) ≡ all None (reads_in rs r.f.l (placed_from 0 bs))
