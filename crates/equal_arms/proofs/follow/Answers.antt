use Prim.Native.Nat.{ℕ, suc, ◌+◌, ◌-◌}
use mathlib.Core.Path.{◌≡◌, sym, ap, ◌∙◌}
use native.Mathlib.Omega.{arith}
use Rattle.inst.specs.declared.BlockId.{BlockId}
use Rattle.blocks.specs.Blocks.{blocks_in}
use Rattle.blocks.proofs.Ends.{codes_in}
use Rattle.steps.specs.EqualArms.{follow}
use Rattle.equal_arms.proofs.Laws.{follow_step, past_is}
use Rattle.equal_arms.proofs.follow.Goals as goal

pub loop-k-preserved : goal.loop-k-preserved
loop-k-preserved c =
    let p = blocks_in c.args.blocks in
    let b = c.loop-k.at.0 in
    let t = past_is p b (codes_in c.args.blocks b c.block.ensures) c.lone_of.ensures c.past-next.ensures in
    let n : 4 - c.loop-k.k ≡ suc (4 - (c.loop-k.k + 1)) = omega arith in
    ap (λ (x : BlockId). follow (4 - (c.loop-k.k + 1)) p x.0) t
    ∙ sym (follow_step p (4 - (c.loop-k.k + 1)) b)
    ∙ ap (λ (m : ℕ). follow m p b) (sym n)
    ∙ c.loop-k.invariant
