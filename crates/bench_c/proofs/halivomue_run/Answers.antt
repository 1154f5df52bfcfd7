use Prim.Native.Nat.{ℕ}
use mathlib.Core.Path.{sym, ap, ◌∙◌}
use mathlib.Core.Bool.{true≢false}
use Rattle.std.proofs.Common.{Option}
use lib.ListN.{length}
use Rattle.run.specs.Ran.{ran_in}
use Rattle.bench_c.proofs.halivomue_run.Goals as goal

pub returns : goal.returns
returns c =
    let a = c.args in
    c.run-r.ensures (λ e. absurd (true≢false (sym e)))
    ∙ ap
    (λ (b : Option ℕ).
    ran_in b (length a.known.now) (length a.copy.now) a.operands.now a.registers.now a.n a.work.now a.table.now
    a.kinds.now a.facts.now)
    c.pause_of.ensures
