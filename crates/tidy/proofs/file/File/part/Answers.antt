use Rattle.std.proofs.Common.{refl, arith}
use Rattle.tidy.proofs.Tables.{block_in, block_part}
use Rattle.tidy.proofs.file.File.part.Goals as goal

pub overflow_sub-result : goal.overflow_sub-result
overflow_sub-result c = let z = block_in c.args.self.fit c.args.k c.requires c.record_at-r.ensures in omega arith

pub invariant_of-result : goal.invariant_of-result
invariant_of-result c =
    let f = c.args.self.fit in
    let i = c.requires in
    let p = block_part f c.args.k i c.record_at-r.ensures in
    record { low = omega arith; few = p.few }

pub returns : goal.returns
returns c = record {
  number = refl;
  part = block_part c.args.self.fit c.args.k c.requires c.record_at-r.ensures;
}
