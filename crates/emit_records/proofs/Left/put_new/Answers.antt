use native.Mathlib.Numerals.{add-one}
use native.Mathlib.Omega.{arith}
use mathlib.Core.Path.{sym, ap, ◌∙◌}
use lib.ListN.{length-take}
use Rattle.records.specs.Record.{records_of}
use Rattle.blocks.specs.Blocks.{blocks_of}
use Rattle.blocks.proofs.Parts.{block_records_lem}
use Rattle.emit_records.specs.Emitted.{marks_in}
use Rattle.emit_records.proofs.Passes.{has_mark}
use Rattle.emit_records.proofs.Left.put_new.Goals as goal

pub returns-then-keeps : goal.returns-then-keeps
returns-then-keeps c =
    let l = c.args.self.now in
    let e = ap records_of c.code_at-code.ensures ∙ block_records_lem l.blocks.code.now l.blocks.table.now c.args.b in
    rw (← c.keeps.ensures, c.if-keeps.true, ← e) c.put_block.ensures

pub overflow_add-b : goal.overflow_add-b
overflow_add-b c =
    let l = c.args.self.now in
    let n = length-take 160 l.seen.now in
    let h = has_mark (marks_in l.seen.now) (blocks_of l.blocks.code.now l.blocks.table.now) c.args.b (sym c.keeps.ensures ∙ c.if-keeps.false) in
    omega (arith, h, n)

pub overflow_cast-b : goal.overflow_cast-b
overflow_cast-b c =
    let l = c.args.self.now in
    let n = length-take 160 l.seen.now in
    let h = has_mark (marks_in l.seen.now) (blocks_of l.blocks.code.now l.blocks.table.now) c.args.b (sym c.keeps.ensures ∙ c.if-keeps.false) in
    omega (arith, h, n)

pub returns-else-keeps : goal.returns-else-keeps
returns-else-keeps c =
    let l = c.args.self.now in
    let e = ap records_of c.code_at-code.ensures ∙ block_records_lem l.blocks.code.now l.blocks.table.now c.args.b in
    rw (← c.keeps.ensures, c.if-keeps.false, ← e, ← add-one c.args.b) c.put_emptied.ensures
