use Prim.Native.Nat.{◌+◌, ◌/◌}
use native.Mathlib.Omega.{arith}
use mathlib.Core.Path.{ap, ◌∙◌}
use mathlib.Core.Bool.{Bool, ◌&&◌}
use lib.ListN.{length}
use Rattle.procedure.specs.Lists.{joined}
use Rattle.steps.specs.Run.{Shortened, arms_joined, threaded_form}
use Rattle.steps.specs.Shorten.{shortened}
use Rattle.procedure_parts.specs.Opened.{parts_of}
use Rattle.thread.specs.Storage.{store}
use Rattle.thread.proofs.Refined.{work_of}
use Rattle.shortening.proofs.Left.{ready, formed, emitted-held, emitted-tells, emitted-slices}
use Rattle.shortening.proofs.write_emitted.Goals as goal

pub returns-clause-is : goal.returns-clause-is
returns-clause-is c p h g on =
    let a = c.args in
    let x = parts_of a.file.now.bytes.now a.file.now.layout in
    let w = c.emit-e.ensures.emitted (arms_joined p).procedure (work_of (store a.s.now.work.now a.s.now.table.now a.s.now.kinds.now a.r.at)) p.body
    (length (joined p.blocks) / 2 + 32) (ready p x h on (length a.stage.now.code.now) (length a.stage.now.heads.now) c.arms.ensures g) in
    c.finish.ensures (threaded_form p) (emitted-held p x h on w c.min-m.ensures)
    (emitted-tells p x h on w c.min-m.ensures (grind (arith, c.unwrap_or.ensures, c.try_from.ensures)))
    ∙ ap (λ (s : Shortened). shortened s a.out.now)
    (formed p x h a.with_slices (ap (λ (b : Bool). a.with_slices && b) (c.has_lengths.ensures ∙ emitted-slices p x h on w c.min-m.ensures)))
