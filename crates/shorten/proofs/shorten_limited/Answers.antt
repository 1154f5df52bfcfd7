use Prim.Native.Nat.{◌/◌, ◌≤◌, ◌<◌}
use mathlib.Core.Path.{refl, sym, subst, ◌∙◌}
use borrow.Author.Tests.{ltb-true, ltb-false}
use borrow.Author.Rules.{rules}
use Rattle.shorten.specs.Storage.{Done}
use Rattle.shorten.proofs.Answers.{many-registers, much-code, shortened-is, parts-open, by_part}
use Rattle.shorten.proofs.shorten_limited.Goals as goal
use Rattle.shorten.proofs.shorten_limited.Goals.{then-registers, else-registers}

pub returns-then-code : goal.returns-then-code
returns-then-code c read few less =
    let file = c.args.file.now in
    let b = file.bytes.now in
    let o = c.args.out.now in
    let m = c.args.registers in
    let n = c.args.code in
    let x = parts-open b file refl read.layout in
    elim c.if-registers.branch [
      | then-registers w ↦
          many-registers m n b o read.bytes read.number (by_part (λ x. x.registers) x c.registers.ensures (λ k. m < k / 32) w.if-registers.true)
      | else-registers w ↦
          much-code m n b o read.bytes read.number
          (by_part (λ x. x.registers) x c.registers.ensures (λ k. k / 32 ≤ m) w.if-registers.false)
          (by_part (λ x. x.code) x w.code.ensures (λ k. n < k / 32) (ltb-true _ _ (sym w.value-is ∙ c.if-code.true)))
    ]

pub returns-else-code : goal.returns-else-code
returns-else-code c read few less =
    let file = c.args.file.now in
    let b = file.bytes.now in
    let o = c.args.out.now in
    let m = c.args.registers in
    let n = c.args.code in
    let x = parts-open b file refl read.layout in
    elim c.if-registers.branch [
      | then-registers w ↦ absurd (let t = sym w.value-is ∙ c.if-code.false in search rules)
      | else-registers w ↦
          shortened-is m n b o read.bytes read.number c.shorten_read.result few less
          (by_part (λ x. x.registers) x c.registers.ensures (λ k. k / 32 ≤ m) w.if-registers.false)
          (by_part (λ x. x.code) x w.code.ensures (λ k. k / 32 ≤ n) (ltb-false _ _ (sym w.value-is ∙ c.if-code.false)))
          (subst (λ z. Done z c.shorten_read.result o c.shorten_read.new.out) x c.shorten_read.ensures)
    ]
