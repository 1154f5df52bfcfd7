use Rattle.std.proofs.Common.{rules}
use native.Mathlib.Omega.{arith}
use mathlib.Core.Path.{refl, ◌∙◌}
use lib.Seq.{take_all}
use Rattle.emit.proofs.Laws.{emitted}
use Rattle.emit.proofs.emit.Goals as goal

pub returns : goal.returns
returns c =
    let a = c.args in
    record {
      size = omega arith;
      emitted = λ p w body budget ready.
          emitted a.blocks.code.now a.blocks.table.now a.arms.now a.facts.now a.code.now a.heads.now p w body budget ready
          (take_all 160 c.reached-seen.result (omega arith) ∙ c.reached-seen.ensures) refl refl c.put_keep.ensures
          (grind (arith, c.unwrap_or-rescued.ensures, c.try_from.ensures)) c.put_blocks.ensures.heads c.put_blocks.ensures.code c.min-n.ensures (search rules)
          (λ i. omega (arith, c.type_inv.code i)) (λ i. omega (arith, c.type_inv.heads i));
    }
