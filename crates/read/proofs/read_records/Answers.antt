use mathlib.Core.Path.{sym, ◌∙◌}
use native.Mathlib.Omega.{arith}
use Rattle.records.specs.Record.{records_of}
use Rattle.records.proofs.Laws.{length_records}
use Rattle.read.specs.Reading.{read_records}
use Rattle.read.proofs.Laid.{sizes, laid_of, end_is, beyond-is, refuse_at, pass_on}
use native.Mathlib.Nat.{zero-add}
use Rattle.read.proofs.read_records.Goals as goal

pub refused-requires : goal.refused-requires
refused-requires c = omega (arith, length_records c.args.b.now)

pub returns-then-l-b : goal.returns-then-l-b
unfolding read_records
returns-then-l-b c =
    let b = c.args.b.now in
    let e = end_is (records_of b) c.layout_of-l.ensures in
    refuse_at 2 0 _ _ _ c.refused.ensures (e ∙ sym (zero-add _)) (rw (← e, length_records b) c.if-l-b.true)

pub beyond-requires : goal.beyond-requires
beyond-requires c =
    let b = c.args.b.now in
    let z = sizes (laid_of (records_of b) c.layout_of-l.ensures (rw (length_records b) c.if-l-b.false)) in
    (omega arith, omega arith, omega arith, omega arith, omega arith)

pub returns-then-beyond : goal.returns-then-beyond
unfolding read_records
returns-then-beyond c =
    let p = (let b = c.args.b.now in
    laid_of (records_of b) c.layout_of-l.ensures (rw (length_records b) c.if-l-b.false)) in
    let y = sym (beyond-is p) ∙ sym c.beyond.ensures ∙ c.if-beyond.true in
    pass_on 2 0 _ _ (rw p.sorted (omega arith)) (c.refused-then-beyond.ensures ∙ sym (rw y))

pub invariant_of-read_blocks : goal.invariant_of-read_blocks
invariant_of-read_blocks c =
    let b = c.args.b.now in
    record { laid = laid_of (records_of b) c.layout_of-l.ensures (rw (length_records b) c.if-l-b.false); few = c.requires }

pub returns : goal.returns
unfolding read_records
returns c =
    let p = (let b = c.args.b.now in
    laid_of (records_of b) c.layout_of-l.ensures (rw (length_records b) c.if-l-b.false)) in
    let y = sym (beyond-is p) ∙ sym c.beyond.ensures ∙ c.if-beyond.false in
    pass_on 2 0 _ _ (rw p.sorted (omega arith)) (c.read_blocks.ensures ∙ sym (rw y))
