use Prim.Native.Nat.{ℕ, min}
use mathlib.Core.Path.{ap, ◌∙◌}
use Rattle.steps.specs.Shorten.{shorten_within}
use Rattle.shorten.proofs.shorten_within.Goals as goal

pub returns : goal.returns
returns c =
    let b = c.args.bytes.now in
    let o = c.args.out.now in
    let e = c.shorten_below.ensures in
    record {
      is = e.is
          ∙ ap (λ (k : ℕ). shorten_within k c.min-2.result b o) c.min.ensures
          ∙ ap (λ (k : ℕ). shorten_within (min c.args.registers 480) k b o) c.min-2.ensures;
      accepted = e.accepted;
      room = e.room;
      unmoved = e.unmoved;
      bound = e.bound;
      demand3 = e.demand3;
      unsliced = e.unsliced;
    }
