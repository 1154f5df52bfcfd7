use native.Mathlib.Omega.{arith}
use Prim.Native.Nat.{◌+◌}
use mathlib.Core.Path.{refl, sym, ap, ◌∙◌}
use lib.ListN.{take, drop}
use Rattle.inst.specs.declared.Reg.{Reg}
use Rattle.items.specs.Items.{operand_of}
use Rattle.facts.specs.Storage.{operands_in}
use Rattle.count_facts.specs.Filling.{counted}
use Rattle.count_facts.proofs.Laws.{over_again, over_done, operands-length, operand_at, part_at, part_in, part-short, part-over}
use borrow.Author.Rules.{rules}
use Rattle.count_facts.proofs.count.Column.bump_list.Goals as goal

pub loop-k-init : goal.loop-k-init
loop-k-init c = (refl, (search rules, (search rules, refl)))

pub returns-then-operands-start : goal.returns-then-operands-start
returns-then-operands-start c =
    let a = c.args in
    let ops = operands_in a.operands.now in
    let part = take a.list.len (drop a.list.start ops) in
    let short = part-short ops a.list.start a.list.len c.loop-k.k (rw (operands-length a.operands.now) c.if-operands-start.true) in
    over_done (counted a.self.at a.self.most) part c.loop-k.k short c.loop-k.invariant.0

pub loop-k-preserved : goal.loop-k-preserved
loop-k-preserved c =
    let a = c.args in
    let b = a.operands.now in
    let ops = operands_in b in
    let part = take a.list.len (drop a.list.start ops) in
    let step = counted a.self.at a.self.most in
    let at = part_at ops a.list.start a.list.len c.loop-k.k c.loop-k-test.true in
    let read = ap (λ (x : Reg). x.0) (c.operand_of-r.ensures ∙ ap operand_of c.record_at.ensures) in
    let there = read ∙ sym (operand_at b (a.list.start + c.loop-k.k)) ∙ sym at in
    let in-part = part_in ops a.list.start a.list.len c.loop-k.k c.loop-k-test.true (rw (operands-length b) (omega arith)) in (
      over_again step part c.loop-k.k 0 in-part (c.bump.ensures ∙ ap (step c.loop-k.table) there) c.loop-k.invariant.0,
      (c.loop-k.invariant.1.0, (c.loop-k.invariant.1.1.0, search rules)),
    )

pub returns : goal.returns
returns c =
    let a = c.args in
    let ops = operands_in a.operands.now in
    let part = take a.list.len (drop a.list.start ops) in
    let past = part-over ops a.list.start a.list.len c.loop-k.k c.loop-k-test.false in
    over_done (counted a.self.at a.self.most) part c.loop-k.k past c.loop-k.invariant.0
