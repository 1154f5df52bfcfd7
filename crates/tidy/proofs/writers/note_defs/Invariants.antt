use Rattle.std.proofs.Common.{◌≡◌, length, drop}
use Rattle.inst.specs.Kinds.{number_of}
use Rattle.roles.specs.Roles.{numbers_of}
use Rattle.tidy.specs.Work.Writers.{one_at, enter_all}
use Rattle.tidy.proofs.writers.note_defs.Given as goal

abbrev pub invariant-loop-r : goal.invariant-loop-r
invariant-loop-r l =
    let one = one_at (number_of l.kind) l.at.block.0 l.at.place in
    (length l.ws ≡ length l.initial.ws)
    × (enter_all l.ws one (drop l.r-index (numbers_of l.written)) ≡ enter_all l.initial.ws one (numbers_of l.written))
