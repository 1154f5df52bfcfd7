use Rattle.std.proofs.Common.{◌+◌, ◌-◌, ◌<◌, List, length, drop, refl, sym, ap, ◌∙◌}
use Rattle.records.specs.Record.{records_of}
use Rattle.inst.specs.declared.Code.{Code}
use Rattle.tidy.specs.declared.writers.Writer.{Writer}
use Rattle.tidy.specs.Tidy.{written, placed_in, placed_from}
use Rattle.tidy.specs.Work.Parts.{blocks_in, block_code, block_records}
use Rattle.tidy.specs.Work.Writers.{entered}
use Rattle.tidy.proofs.Tables.{blocks-length, noted-block, noted-blocks, length-noted}
use Rattle.tidy.proofs.Held.{held-noted}
use Rattle.tidy.proofs.writers.note_blocks.Goals as goal

pub loop-k-init : goal.loop-k-init
loop-k-init c = (refl, refl)

pub part-requires : goal.part-requires
part-requires c = rw (← c.blocks-k-end.ensures) c.loop-k-test.true

pub note_block-requires : goal.note_block-requires
note_block-requires c = c.part.ensures.part.within

pub loop-k-preserved : goal.loop-k-preserved
loop-k-preserved c =
    let f = c.args.f in
    let l = c.loop-k in
    let rs = records_of f.b.now in
    let i : l.k < f.l.bodies - f.l.blocks = rw (← c.blocks-k-end.ensures) c.loop-k-test.true in
    let p = c.part.ensures in
    let e = rw (← p.number) c.note_block.ensures ∙ ap (λ (cs : List Code). entered l.ws (written (placed_in l.k 0 cs))) p.part.code in
    let more = ap (λ (u : List Writer). entered u (written (placed_from (l.k + 1) (drop (l.k + 1) (blocks_in rs f.l))))) e in
    let step = noted-block l.ws (block_code rs f.l) (block_records rs f.l) l.k (rw (blocks-length f.fit) i) in
    (ap length e ∙ length-noted _ l.ws ∙ l.invariant.0, more ∙ step ∙ l.invariant.1)

pub returns-clause-table : goal.returns-clause-table
returns-clause-table c =
    let f = c.args.f in
    let l = c.loop-k in
    let rs = records_of f.b.now in
    noted-blocks l.ws (block_code rs f.l) (block_records rs f.l) l.k (rw (blocks-length f.fit, ← c.blocks-k-end.ensures) c.loop-k-test.false)
    ∙ l.invariant.1

pub returns-clause-writers : goal.returns-clause-writers
returns-clause-writers c us e =
    let fs = written (placed_from 0 (blocks_in (records_of c.args.f.b.now) c.args.f.l)) in
    returns-clause-table c ∙ ap (λ (ws : List Writer). entered ws fs) e ∙ sym (held-noted us fs)
