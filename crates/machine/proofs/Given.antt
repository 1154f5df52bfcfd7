-- The two pairs of Holds are what the steps give, so demand 3 is proved of them as Shorten has them.
use mathlib.Core.Path.{◌≡◌, refl}
use mathlib.Core.Bool.{true}
use Rattle.procedure.specs.Procedure.{Procedure}
use Rattle.procedure.specs.Lists.{any_of, times, found}
use Rattle.ends.specs.Forms.{form_of, fixed_of}
use Rattle.ends.specs.Ends.{view_of, end_of, front, with_end}
use Rattle.steps.specs.Small.{copyable, small, step_by, step_block, latch, reads_konst}
use Rattle.procedure.specs.Counts.{writes_in, use_count}
use Rattle.steps.specs.Facts.{const_in, const_of, konst_of, facts_of}
use Rattle.steps.specs.Note.{values_without, copies_without, forget_all, learn, notes}
use Rattle.steps.specs.EqualArms.{follow, join_arms, join_from}
use Rattle.steps.specs.Gate.{back_edge_from, copied, may_thread_from}
use Rattle.roles.specs.Exchange.{exchanged}
use Rattle.steps.specs.Copy.{how_of, own_uses, copy_from, kinds_given}
use Rattle.steps.specs.Thread.{arm_of, hop_cond_br, stops, hop_br, hop, hops, thread_from}
use Rattle.paths.specs.Paths.{total, walk, reached_from}
use Rattle.steps.specs.Emit.{reached, stays, empty_from, rescued_of, rescues}
use Rattle.steps.specs.Slice.{measure_of, has_lengths}
use Rattle.steps.specs.Run.{emit, threaded_form, sliced_form, run}
use Rattle.machine.specs.Demand.{Demand3}
use Rattle.machine.proofs.Printed.{printed, printed'}
use Rattle.machine.proofs.Refuted.{looping, looping'}
use Rattle.machine.proofs.Holds.{printed_holds, looping_holds}

-- demand 3 about a procedure and what the steps make of it
abbrev pub Kept : Procedure → Type 0
Kept p = Demand3 p (run p).procedure (run p).rescued

printed_given : run printed ≡ record { procedure = printed'; moved = true; grown = 2; fresh = 0; rescued = 0 }
unfolding any_of times found form_of view_of end_of front with_end copyable small step_by step_block latch reads_konst writes_in use_count fixed_of
    const_in const_of konst_of facts_of values_without copies_without forget_all learn notes follow join_arms join_from back_edge_from copied
    may_thread_from exchanged how_of own_uses copy_from kinds_given arm_of hop_cond_br stops hop_br hop hops thread_from total walk reached_from reached
    stays empty_from rescued_of rescues emit threaded_form measure_of has_lengths sliced_form
printed_given = refl

pub looping_given : run looping ≡ record { procedure = looping'; moved = true; grown = 1; fresh = 0; rescued = 1 }
unfolding any_of times found form_of view_of end_of front with_end copyable small step_by step_block latch reads_konst writes_in use_count fixed_of
    const_in const_of konst_of facts_of values_without copies_without forget_all learn notes follow join_arms join_from back_edge_from copied
    may_thread_from exchanged how_of own_uses copy_from kinds_given arm_of hop_cond_br stops hop_br hop hops thread_from total walk reached_from reached
    stays empty_from rescued_of rescues emit threaded_form measure_of has_lengths sliced_form
looping_given = refl

pub printed_kept : Kept printed
printed_kept = rw printed_given printed_holds

pub looping_kept : Kept looping
looping_kept = rw looping_given looping_holds
