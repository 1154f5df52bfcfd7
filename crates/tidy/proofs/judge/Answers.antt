use Rattle.std.proofs.Common.{refl, ap, ◌∙◌, arith}
use lib.ListN.{length, replicate, length-replicate}
use Rattle.tidy.specs.declared.writers.Writer.{Writer}
use Rattle.tidy.specs.declared.writers.Writer.TheVariants as w
use Rattle.tidy.proofs.Tables.{length-noted}
use Rattle.tidy.proofs.Accepted.{judge_is}
use Rattle.tidy.proofs.judge.Goals as goal

pub invariant_of-r : goal.invariant_of-r
invariant_of-r c =
    let f = c.args.f.fit in
    let n = ap length c.note_blocks.ensures.table ∙ length-noted _ (replicate 756 w.Nothing) ∙ length-replicate {A = Writer} 756 w.Nothing in
    record { registers = omega arith; sized = c.note_targets.ensures.size }

pub returns : goal.returns
returns c =
    judge_is c.args.f.laid c.args.f.fit 756 refl _ c.note_blocks.ensures.table
    c.note_targets.ensures c.read_blocks.ensures
