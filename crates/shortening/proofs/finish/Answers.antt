use Prim.Native.Nat.{ℕ}
use native.Mathlib.Omega.{arith}
use mathlib.Core.Path.{refl, sym, ap, ◌∙◌}
use mathlib.Core.Bool.{Bool, true}
use mathlib.Core.List.{List}
use lib.ListN.{length, length-append}
use Rattle.facts.specs.Storage.{kinds_of}
use Rattle.parts.specs.Parts.{parts_in}
use Rattle.steps.specs.Run.{slice_if}
use Rattle.steps.specs.Shorten.{shortened}
use Rattle.shortening.proofs.finish.Goals as goal

pub returns-then-not-slices : goal.returns-then-not-slices
returns-then-not-slices c s h t =
    c.put.ensures s h t ∙ ap (λ (b : Bool). shortened (slice_if b s).form c.args.out.now) (sym c.if-not-slices.true)

pub returns : goal.returns
returns c s h t =
    let x = parts_in c.args.file.now in
    let n = h.registers-length in
    let e = ap length h.registers in
    let l = length-append (kinds_of x.registers) c.args.kinds.now in
    let r = ap (λ (y : List ℕ). length y) c.registers.ensures in
    let d = c.slice-any.ensures s.procedure x c.args.kinds.now h c.operands.ensures (omega arith) in
    c.put-2.ensures (slice_if true s).form d.holds
    (record { is-moved = rw (t.is-moved, d.any) refl; is-grown = t.is-grown; is-fresh = t.is-fresh; is-rescued = t.is-rescued })
    ∙ ap (λ (b : Bool). shortened (slice_if b s).form c.args.out.now) (sym c.if-not-slices.false)
