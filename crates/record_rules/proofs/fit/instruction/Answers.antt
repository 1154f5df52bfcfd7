use Prim.Native.Nat.{ℕ, ◌≤◌, ◌<◌}
use mathlib.Core.Path.{subst}
use Rattle.record_rules.proofs.Laws.{kind-listed, op-past, zero-set, head_right}
use Rattle.record_rules.proofs.fit.instruction.Goals as goal

pub returns-then-ops-r : goal.returns-then-ops-r
returns-then-ops-r c =
    let r = c.args.r in
    op-past r c.requires (subst (λ (n : ℕ). n ≤ r.op) c.ops.ensures c.if-ops-r.true)

pub returns-then-r-ne0 : goal.returns-then-r-ne0
returns-then-r-ne0 c =
    let r = c.args.r in
    let op = subst (λ (n : ℕ). r.op < n) c.ops.ensures c.if-ops-r.false in
    zero-set r c.requires (kind-listed r.kind r.op op) op c.if-r-ne0.true

pub instruction_fits-requires : goal.instruction_fits-requires
instruction_fits-requires c =
    let r = c.args.r in
    kind-listed r.kind r.op (subst (λ (n : ℕ). r.op < n) c.ops.ensures c.if-ops-r.false)

pub returns : goal.returns
returns c =
    let r = c.args.r in
    let op = subst (λ (n : ℕ). r.op < n) c.ops.ensures c.if-ops-r.false in
    head_right r c.requires (kind-listed r.kind r.op op) op c.if-r-ne0.false c.instruction_fits.ensures
