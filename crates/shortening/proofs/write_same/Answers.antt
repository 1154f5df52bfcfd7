use Prim.Native.Nat.{ℕ, ◌*◌, ◌/◌, min}
use native.Mathlib.Omega.{arith}
use mathlib.Core.Path.{sym, ap, subst, ◌∙◌}
use mathlib.Core.Bool.{Bool, ◌&&◌, not}
use mathlib.Core.List.{List, []}
use lib.Dec.{ltb}
use lib.ListN.{length, take, length-take}
use Rattle.steps.specs.Run.{Shortened, threaded_form}
use Rattle.steps.specs.Shorten.{shortened}
use Rattle.procedure_parts.specs.Opened.{parts_of, recoded, Holds}
use Rattle.run.specs.Ran.{slices_in}
use Rattle.shortening.proofs.Left.{formed, same-held, same-tells, same-slices}
use Rattle.shortening.proofs.write_same.Goals as goal

pub slice_bounds-finish-end-2 : goal.slice_bounds-finish-end-2
slice_bounds-finish-end-2 c =
    let e = c.min-m.ensures in
    simp length-take (omega arith)

pub returns-clause-is : goal.returns-clause-is
returns-clause-is c p h off =
    let a = c.args in
    let x = parts_of a.file.now.bytes.now a.file.now.layout in
    let work = a.s.now.work.now in
    let n = c.min-m.ensures ∙ ap (λ (y : List ℕ). min (length y / 32) (length work / 32)) c.code.ensures in
    let gate = c.slices-to_slice.ensures
    ∙ ap
    (λ (y : List ℕ). a.with_slices && (not (ltb (length y / 32) 6) && slices_in (take (32 * min (length y / 32) (length work / 32)) work) a.s.now.table.now))
    c.code.ensures
    ∙ ap (λ (b : Bool). a.with_slices && b) (same-slices p x h off) in
    c.finish.ensures (threaded_form p)
    (subst (λ (n : ℕ). Holds (threaded_form p).procedure (recoded x (take (32 * n) work) a.s.now.table.now) []) (sym n) (same-held p x h off))
    (same-tells p x h off)
    ∙ ap (λ (s : Shortened). shortened s a.out.now) (formed p x h a.with_slices gate)
