use native.Mathlib.Omega.{arith}
use lib.ListN.{length}
use Rattle.records.specs.Record.{records_of}
use Rattle.layout.specs.Classes.{of_class}
use Rattle.read.specs.Structure.{tiled, ended}
use Rattle.read.specs.Reading.{read_blocks}
use Rattle.std.proofs.lemmas.Result.{err_from_is_err_and}
use Rattle.read.proofs.Reasons.{no_zero}
use Rattle.read.proofs.Laid.{of-class, stands, all_fine, pass_on}
use Rattle.read.proofs.read_blocks.Goals as goal

pub overflow_cast-code : goal.overflow_cast-code
overflow_cast-code c = let s = c.code-code.result in omega (arith, s.within, s.few)

pub returns-in_err-tiled_blocks : goal.returns-in_err-tiled_blocks
unfolding read_blocks
returns-in_err-tiled_blocks c =
    let q = err_from_is_err_and c.from_residual.result c.from_residual.ensures.1 in
    let n = length (of_class 4 (records_of c.args.f.b.now)) in
    rw (q.1, q.2)
    (stands 4 _ _ _ _ _ (no_zero _) (of-class c.heads-heads.ensures 4 (tiled n) (rw (← c.code-code.ensures.count) c.in_err-tiled_blocks.ensures)))

pub ended_blocks-requires : goal.ended_blocks-requires
ended_blocks-requires c = all_fine 4 _ _ _ (omega arith) c.in_ok-tiled_blocks.ensures

pub returns-in_err-ended_blocks : goal.returns-in_err-ended_blocks
unfolding read_blocks
returns-in_err-ended_blocks c =
    let q = err_from_is_err_and c.from_residual-in_err-ended_blocks.result c.from_residual-in_err-ended_blocks.ensures.1 in
    let h = c.heads-heads.ensures in
    let k = c.code-code.ensures in
    let is = of_class 4 (records_of c.args.f.b.now) in
    pass_on 4 _ _ _ (all_fine 4 _ _ _ (omega arith) (of-class h 4 (tiled (length is)) (rw (← k.count) c.in_ok-tiled_blocks.ensures)))
    (rw (q.1, q.2) (stands 5 _ _ _ _ _ (no_zero _) (of-class h 5 (ended is) (rw (← k.spanned) c.in_err-ended_blocks.ensures))))

pub returns : goal.returns
unfolding read_blocks
returns c =
    let h = c.heads-heads.ensures in
    let k = c.code-code.ensures in
    let is = of_class 4 (records_of c.args.f.b.now) in
    pass_on 4 _ _ _ (all_fine 4 _ _ _ (omega arith) (of-class h 4 (tiled (length is)) (rw (← k.count) c.in_ok-tiled_blocks.ensures)))
    (pass_on 5 _ _ _ (all_fine 5 _ _ _ (omega arith) (of-class h 5 (ended is) (rw (← k.spanned) c.in_ok-ended_blocks.ensures))) c.read_tables.ensures)
