use Prim.Native.Nat.{ℕ}
use mathlib.Core.Path.{sym, ◌∙◌}
use Rattle.ends.specs.Forms.{fixed_of}
use Rattle.steps.specs.Copy.{own_uses}
use Rattle.facts.specs.Storage.{uses_in}
use Rattle.copy.proofs.Hows.{one_left, one-new, one_kept}
use Rattle.copy.proofs.Target.how_single.Goals as goal

pub returns-then-is_const : goal.returns-then-is_const
returns-then-is_const c =
    let a = c.args in
    let d : ℕ = a.d.0 in
    one_left (uses_in a.self.facts.now d) (own_uses (a.self.code.now) d) d (fixed_of a.i) (sym c.is_const.ensures ∙ c.if-is_const.true)

pub returns-then-uses_of-own_uses : goal.returns-then-uses_of-own_uses
returns-then-uses_of-own_uses c =
    let a = c.args in
    let d : ℕ = a.d.0 in
    one-new (uses_in a.self.facts.now d) (own_uses (a.self.code.now) d) d (fixed_of a.i) (sym c.is_const.ensures ∙ c.if-is_const.false)
    (sym c.uses_of.ensures ∙ c.if-uses_of-own_uses.true ∙ c.own_uses.ensures)

pub returns-else-uses_of-own_uses : goal.returns-else-uses_of-own_uses
returns-else-uses_of-own_uses c =
    let a = c.args in
    let d : ℕ = a.d.0 in
    one_kept (uses_in a.self.facts.now d) (own_uses (a.self.code.now) d) d (fixed_of a.i) (sym c.is_const.ensures ∙ c.if-is_const.false)
    (λ q. c.if-uses_of-own_uses.false (c.uses_of.ensures ∙ q ∙ sym c.own_uses.ensures))
