use Rattle.std.proofs.Common.{◌+◌, ◌-◌, ◌<◌, List, drop, refl, ap, ◌∙◌, Option}
use Rattle.inst.specs.declared.Reg.{Reg}
use Rattle.records.specs.Record.{records_of}
use Rattle.inst.specs.declared.Code.{Code}
use Rattle.tidy.specs.Tidy.{placed_in, placed_from}
use Rattle.tidy.specs.Work.Parts.{operands_in, blocks_in, block_code, block_records}
use Rattle.tidy.specs.Work.Marks.{edges_in}
use Rattle.tidy.specs.Work.Reads.{judged_in, reads_in}
use Rattle.tidy.proofs.Tables.{blocks-length}
use Rattle.tidy.proofs.Verdicts.{judged-block, judged-blocks}
use Rattle.tidy.proofs.reads.Reads.read_blocks.Goals as goal

pub loop-k-init : goal.loop-k-init
loop-k-init c = refl

pub part-requires : goal.part-requires
part-requires c = rw (← c.blocks-k-end.ensures) c.loop-k-test.true

pub read_block-t-requires : goal.read_block-t-requires
read_block-t-requires c = c.part.ensures.part.within

pub loop-k-preserved : goal.loop-k-preserved
loop-k-preserved c =
    let r = c.args.self in
    let l = c.loop-k in
    let rs = records_of r.f.b.now in
    let i : l.k < r.f.l.bodies - r.f.l.blocks = rw (← c.blocks-k-end.ensures) c.loop-k-test.true in
    let all = judged_in r.targets.now r.ws.now r.f.l in
    let p = c.part.ensures in
    let e = rw (← p.number) c.read_block-t.ensures ∙ ap (λ (cs : List Code). all l.t (reads_in rs r.f.l (placed_in l.k 0 cs))) p.part.code in
    let more = ap (λ (u : Option Reg). all u (reads_in rs r.f.l (placed_from (l.k + 1) (drop (l.k + 1) (blocks_in rs r.f.l))))) e in
    let step = judged-block (edges_in r.targets.now) r.f.l.blocks r.ws.now (operands_in rs r.f.l) (block_code rs r.f.l) in
    more ∙ step (block_records rs r.f.l) l.k l.t (rw (blocks-length r.f.fit) i) ∙ l.invariant

pub returns : goal.returns
returns c =
    let r = c.args.self in
    let l = c.loop-k in
    let rs = records_of r.f.b.now in
    let end = judged-blocks (edges_in r.targets.now) r.f.l.blocks r.ws.now (operands_in rs r.f.l) (block_code rs r.f.l) in
    end (block_records rs r.f.l) l.k l.t (rw (blocks-length r.f.fit, ← c.blocks-k-end.ensures) c.loop-k-test.false) ∙ l.invariant
