-- Where no step does anything, `run` leaves the file as it was sent.
use native.Mathlib.Omega.{arith}
use mathlib.Core.Path.{◌≡◌, refl, sym, ap, ◌∙◌}
use mathlib.Core.Bool.{Bool, true, false, ◌&&◌, not, and-false}
use mathlib.Core.List.{List}
use mathlib.Core.Logic.{inl, inr}
use borrow.Author.Tests.{lt-ltb}
use lib.ListN.{length}
use Rattle.inst.specs.declared.Code.{Code}
use Rattle.procedure.specs.Procedure.{Procedure, codes_of}
use Rattle.procedure.specs.Lists.{joined, present}
use Rattle.steps.specs.EqualArms.{Arms, equal_arms}
use Rattle.steps.specs.Gate.{has_back_edge, may_thread}
use Rattle.steps.specs.Slice.{has_lengths}
use Rattle.steps.specs.Run.{Shortened, unchanged, with_arms, thread_if, threaded, looped_in, short, threaded_unless, threaded_form, slice_if, slices, sliced_form, run}
use Rattle.equal_arms.specs.Joined.{joined as joined_to, arms_of, equal_arms_in}
use Rattle.equal_arms.proofs.Arms.{tiled-arms}
use Rattle.procedure_parts.specs.Opened.{Parts, Opened}
use Rattle.procedure_parts.proofs.Laws.{codes-held}
use Rattle.run.specs.Ran.{opens_in, slices_in, NoStep}

module _ (p : Procedure) (x : Parts) (o : Opened p x) where
  abbrev arms : List (List Code) → Arms
  arms P = record { blocks = P; edited = false }

  none-joined : equal_arms_in x.heads x.code ≡ joined_to x.code false → equal_arms p.blocks ≡ arms p.blocks
  none-joined e =
      ap equal_arms (sym o.parted.blocks)
      ∙ sym (tiled-arms x.code x.heads o.parted.tiled o.parted.coded.code-bytes)
      ∙ ap (arms_of x.heads) e
      ∙ ap arms o.parted.blocks

  shut : opens_in p.body x.code x.heads ≡ false → (has_back_edge p.blocks && may_thread (present p.body) p.blocks) ≡ false
  shut e = ap (λ (P : List (List Code)). has_back_edge P && may_thread (present p.body) P) (sym o.parted.blocks) ∙ e

  unsliced-here : slices_in x.code x.heads ≡ false → (has_back_edge p.blocks && has_lengths (joined p.blocks)) ≡ false
  unsliced-here e =
      ap (λ (c : List Code). has_back_edge p.blocks && has_lengths c) (sym (codes-held o.parted))
      ∙ ap (λ (P : List (List Code)). has_back_edge P && has_lengths (codes_of x.code)) (sym o.parted.blocks)
      ∙ e

  -- the gate of `slice_tests` is shut too
  shut-again : threaded_form p ≡ unchanged p → slices p ≡ false → run p ≡ unchanged p
  unfolding sliced_form
  shut-again e f = ap (λ (b : Bool). (slice_if b (threaded_form p)).form) f ∙ e

  module _ (none : equal_arms_in x.heads x.code ≡ joined_to x.code false) (closed : opens_in p.body x.code x.heads ≡ false) where
    threaded-by : (b : Bool) → threaded_unless b p ≡ unchanged p
    threaded-by true = refl
    threaded-by false = ap (λ (a : Arms). threaded (has_back_edge a.blocks) (with_arms p a)) (none-joined none) ∙ ap (λ (b : Bool). thread_if b (unchanged p)) (shut closed)

    not-threaded : threaded_form p ≡ unchanged p
    unfolding threaded_form
    not-threaded = threaded-by (short p)

    not-sliced : slices_in x.code x.heads ≡ false → slices p ≡ false
    not-sliced e =
        ap (λ (s : Shortened). not (short p) && (looped_in p && has_lengths (joined s.procedure.blocks))) not-threaded
        ∙ ap (λ (a : Arms). not (short p) && (has_back_edge a.blocks && has_lengths (joined p.blocks))) (none-joined none)
        ∙ ap (λ (b : Bool). not (short p) && b) (unsliced-here e)
        ∙ and-false (not (short p))

  pub no_step_run : NoStep p.body x.code x.heads → run p ≡ unchanged p
  unfolding threaded_form
  no_step_run (inl few) =
      let n = o.parted.coded.code-length in
      let e = lt-ltb (length (joined p.blocks)) 6 (omega arith) in
      shut-again (ap (λ (b : Bool). threaded_unless b p) e)
      (ap (λ (b : Bool). not b && (looped_in p && has_lengths (joined (threaded_form p).procedure.blocks))) e)
  no_step_run (inr (none, (closed, unsliced))) = shut-again (not-threaded none closed) (not-sliced none closed unsliced)
