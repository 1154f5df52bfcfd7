-- Demand 3, for every tidy file.
use Prim.Native.Nat.{ℕ}
use native.Mathlib.Omega.{arith}
use mathlib.Core.Path.{◌≡◌, refl, sym, ap, subst, ◌∙◌}
use mathlib.Core.Bool.{false}
use mathlib.Core.List.{List}
use lib.ListN.{length, take, drop}
use lib.Seq.{take-append_seam}
use Rattle.put_record.specs.Store.{Bytes}
use Rattle.procedure.specs.Procedure.{Procedure}
use Rattle.tidy.specs.Tidy.{Tidy}
use Rattle.steps.specs.Slice.{some_test}
use Rattle.steps.specs.Run.{threaded_form, sliced_form, run}
use Rattle.steps.specs.Shorten.{success, shorten}
use Rattle.machine.specs.Demand.{Demand3}
use Rattle.round_trips.specs.WellFormed.{WellFormed}
use Rattle.round_trips.proofs.Laws.{read_well_formed, read-registers, read-code, read_back}
use Rattle.step_laws.proofs.Laws.{run_well_formed}
use Rattle.step_laws.proofs.Shorten.{short_bytes, Within, Fate, unread, over, short, done, fate}
use Rattle.demand.specs.Lengths.{Demand3Where}
use Rattle.demand.specs.Claim.{Kept, KeptWhile}
use Rattle.demand.proofs.Theorem.{threaded-kept}
use Rattle.demand.proofs.Sliced.{sliced-kept, demand3-where, untested-kept}
use Rattle.promise.specs.Promise.{held, Promise}
use Rattle.promise.proofs.Tidied.{tidy-inside}
use Rattle.promise.proofs.Formed.{whole}

-- a well-formed, tidy procedure: its threaded form runs as it does, from any block that the form reaches
pub tidy-kept : (p : Procedure) → WellFormed p → Tidy p → Kept p (threaded_form p)
tidy-kept p w t = threaded-kept p (whole p w) (tidy-inside p t)

-- its sliced form, where the lengths are exact
pub sliced-while : (p : Procedure) → WellFormed p → Tidy p → KeptWhile p (threaded_form p) (sliced_form p)
sliced-while p w t = sliced-kept p (tidy-kept p w t)

pub demand3 : (p : Procedure) → WellFormed p → Tidy p → Demand3Where p (sliced_form p) (run p).procedure (run p).rescued
demand3 p w t = demand3-where p (tidy-kept p w t)

-- where no Cmp is rewritten
pub demand3-unsliced : (p : Procedure) → WellFormed p → Tidy p → some_test (sliced_form p).tests ≡ false → Demand3 p (run p).procedure (run p).rescued
demand3-unsliced p w t e = untested-kept p (tidy-kept p w t) e 0 (mathlib.Core.List.[], refl)

module _ (b out : List ℕ) (h : Bytes b) where
  after : Within b → WellFormed (run (held b)).procedure
  after w =
      let r = read-registers b h w.accepted in
      let c = read-code b h w.accepted in
      let i = w.registers in
      let j = w.code in
      run_well_formed (held b) (read_well_formed b h w.accepted) (omega arith) (omega arith)

  -- the bytes written hold what the steps leave
  written : Within b → shorten b out ≡ success (run (held b)) (short_bytes b) out
      → held (take (shorten b out).answer.length (shorten b out).output) ≡ (run (held b)).procedure
  written w q = ap held (rw q (take-append_seam (short_bytes b) (drop (length (short_bytes b)) out))) ∙ read_back (run (held b)).procedure (after w)

  -- what is claimed of the steps' result holds of the bytes written and the answer
  of_written : (C : Procedure → ℕ → Type 0) → (WellFormed (held b) → C (run (held b)).procedure (run (held b)).rescued)
      → (shorten b out).answer.number ≡ 0 → C (held (take (shorten b out).answer.length (shorten b out).output)) (shorten b out).answer.rescued
  of_written C c e = by (fate b out)
    where
      by : Fate b out → C (held (take (shorten b out).answer.length (shorten b out).output)) (shorten b out).answer.rescued
      by (unread n q) = absurd (n (sym (ap (λ o. o.answer.number) q) ∙ e))
      by (over q) = absurd (let z = ap (λ o. o.answer.number) q in omega arith)
      by (short w i q) = absurd (let z = ap (λ o. o.answer.number) q in omega arith)
      by (done w i q) =
          subst (λ p. C p (shorten b out).answer.rescued) (sym (written w q))
          (subst (λ n. C (run (held b)).procedure n) (sym (ap (λ o. o.answer.rescued) q)) (c (read_well_formed b h w.accepted)))

  pub promise : Promise b out
  promise e t = (
    of_written (Demand3Where (held b) (sliced_form (held b))) (λ w. demand3 (held b) w t) e,
    λ u. of_written (Demand3 (held b)) (λ w. demand3-unsliced (held b) w t u) e,
  )
