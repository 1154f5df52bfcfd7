use Prim.Native.Nat.{ℕ, ◌*◌}
use native.Mathlib.Omega.{arith}
use mathlib.Core.Path.{refl, ap, ◌∙◌}
use mathlib.Core.List.{[], ◌++◌, append-nil}
use lib.ListN.{take, length-take}
use Rattle.procedure.specs.Procedure.{codes_of}
use Rattle.facts.specs.Storage.{operands_in, kinds_of, table_of}
use Rattle.run.proofs.counted.Goals as goal

pub slice_bounds-facts-end : goal.slice_bounds-facts-end
slice_bounds-facts-end c =
    let e = c.min-m.ensures in
    simp length-take (omega arith)

pub returns : goal.returns
returns c =
    let a = c.args in
    c.facts.ensures
    ∙ ap (λ (c : ℕ). table_of a.facts.now (kinds_of a.registers.now ++ []) (operands_in a.operands.now)
    (codes_of (take (32 * c) a.work.now))) c.min-m.ensures
    ∙ rw append-nil refl
