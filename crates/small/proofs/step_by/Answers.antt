use borrow.Enum.Refused.{opened}
use mathlib.Core.Path.{refl, sym, ap, ◌∙◌}
use mathlib.Core.Bool.{false}
use mathlib.Core.List.{List, [], ◌∷◌}
use Prim.Native.Nat.{ℕ}
use Rattle.general.proofs.Booleans.{both, neither}
use Rattle.inst.proofs.Tags.{by_kind}
use Rattle.ends.specs.Forms.{form_of}
use Rattle.steps.specs.Small.{step_by}
use Rattle.small.proofs.Laws.{bin_kind, no_step}
use Rattle.small.proofs.step_by.Goals as goal

pub returns-in-Bin : goal.returns-in-Bin
unfolding step_by form_of
returns-in-Bin c =
    c.add_or_sub.ensures ∙ sym (ap (step_by c.args.wide) c.in-Bin.is)

pub returns-then-wide : goal.returns-then-wide
unfolding step_by form_of
returns-then-wide c =
    both refl c.if-wide.true c.add_or_sub-then-wide.ensures ∙ sym (ap (step_by c.args.wide) c.in-BinRange.is)

pub returns-else-wide : goal.returns-else-wide
unfolding step_by form_of
returns-else-wide c =
    c.if-wide.false ∙ neither _ refl c.if-wide.false ∙ sym (ap (step_by c.args.wide) c.in-BinRange.is)

pub returns-in_default : goal.returns-in_default
returns-in_default c =
    let a = c.args in
    let others : List ℕ =
    0 ∷ 1 ∷ 2 ∷ 3 ∷ 4 ∷ 5 ∷ 6 ∷ 9 ∷ 10 ∷ 11 ∷ 12 ∷ 13 ∷ 14 ∷ 15 ∷ 16 ∷ 17 ∷ 18 ∷ 19 ∷ 20 ∷ 21 ∷ 22 ∷ 23 ∷ [] in
    sym (no_step a.wide a.i (sym (by_kind bin_kind false others a.i tt (opened c.in_default.in_default-own.keys3))))
