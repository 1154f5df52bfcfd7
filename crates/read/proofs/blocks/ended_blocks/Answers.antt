use native.Mathlib.Omega.{arith}
use mathlib.Core.Path.{refl, sym, ◌≡◌, ◌∙◌}
use borrow.Author.Tests.{eqb-true}
use lib.ListN.{length}
use Rattle.layout.specs.Walk.{walk}
use Rattle.layout.proofs.Walks.{walk_le}
use Rattle.read.specs.Structure.{tiles, next_block}
use Rattle.read.proofs.Laws.{part_length}
use Rattle.records.specs.Record.{records_of}
use Rattle.read.specs.Spans.{spanned}
use Rattle.read.proofs.Laid.{tiled-in, pass_on}
use Rattle.read.proofs.Ends.{ends_from}
use Rattle.read.proofs.blocks.ended_blocks.Goals as goal

pub each_ends-requires : goal.each_ends-requires
each_ends-requires c = tiled-in c.args.blocks _ c.requires

pub first_wrong_end-requires : goal.first_wrong_end-requires
first_wrong_end-requires c = tiled-in c.args.blocks _ c.requires

pub returns-then-each_ends : goal.returns-then-each_ends
returns-then-each_ends c =
    let a = c.args.blocks in
    let s = c.args.code in
    let m = part_length (records_of a.b.now) a.first a.count a.within in
    let n = part_length (records_of s.b.now) s.first s.count s.within in
    let t = walk_le (tiles s.count) next_block (0, length (spanned a)) (spanned a) in
    let tiled : walk (tiles s.count) next_block (0, length (spanned a)) (spanned a) ≡ length (spanned a) = let r = c.requires in omega arith in
    let closed = eqb-true _ _ (sym c.if-each_ends.ensures) ∙ sym m in
    let from = ends_from (spanned s) (0, length (spanned a)) (spanned a) (rw n tiled) closed in
    let few = c.terminators.ensures in
    let all = from.1 (omega arith) in
    pass_on 5 a.first _ a.count (omega arith) refl
