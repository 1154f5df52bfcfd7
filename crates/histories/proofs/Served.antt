-- What a call of Shorten with accounts comes to: a refusal, 10, or a charge.
use Rattle.std.proofs.Common.{◌≡◌, ◌≢◌, ℕ, ◌+◌, ◌≤◌, List, Bool, true, false, cond, eqb, ltb, refl, sym, ap, ◌∙◌, arith}
use Rattle.std.proofs.lemmas.Bool.{ltb-true, ltb-false, ne_eqb}
use Rattle.std.proofs.lemmas.List.{set-get_or}
use Rattle.records.specs.Record.{records_of}
use Rattle.read.specs.Reading.{checked}
use Rattle.procedure.specs.Procedure.{procedure_of}
use Rattle.steps.specs.Run.{run}
use Rattle.steps.specs.Shorten.{Outcome, refusal, success, shorten, instructions}
use Rattle.step_laws.proofs.Shorten.{seven, Fate, fate, unread, over, short, done, short_bytes}
use Rattle.billing.specs.Billing.{ceiling, charge_if, bill_if, shorten_for}
use Rattle.accounts.specs.Accounts.{tally_in, with_tally}
use Rattle.accounts.specs.History.{Call, Served, served, serve}
use Rattle.histories.specs.Tally.{cost}
use Rattle.histories.specs.Calls.{Passing, ten}

-- accounts as they were, and no price
abbrev pub unpriced : List ℕ → Outcome → Served
unpriced w o = record { reply = record { outcome = o; price = 0 }; accounts = w }

abbrev pub charged : List ℕ → Call → Served
charged w c = record { reply = record { outcome = shorten c.bytes c.out; price = cost c.bytes }; accounts = with_tally w (tally_in w + cost c.bytes) }

pub data Coming (w : List ℕ) (c : Call) : Type 0 where
  refuses : (number place : ℕ) → number ≢ 0 → number ≤ 9 → shorten c.bytes c.out ≡ refusal number place c.out
      → serve w c ≡ unpriced w (refusal number place c.out) → Coming w c
  passes : Passing w c → serve w c ≡ ten w c → Coming w c
  charges : (shorten c.bytes c.out).answer.number ≡ 0 → tally_in w + cost c.bytes ≤ ceiling → serve w c ≡ charged w c → Coming w c

module _ (w : List ℕ) (c : Call) where
  billed : Outcome → Served
  billed p = served w (bill_if (eqb p.answer.number 0) (instructions c.bytes) (tally_in w) p c.out)

  serve-is : serve w c ≡ billed (shorten c.bytes c.out)
  unfolding serve shorten_for billed
  serve-is = refl

  kept : (p : Outcome) → served w (record { outcome = p; price = 0; tally = tally_in w }) ≡ unpriced w p
  kept p = ap (λ v. unpriced v p) (set-get_or w 0 0)

  pub refused_is : (number place : ℕ) → number ≢ 0 → shorten c.bytes c.out ≡ refusal number place c.out → serve w c ≡ unpriced w (refusal number place c.out)
  unfolding billed
  refused_is number place ne q =
      let p = refusal number place c.out in
      serve-is
      ∙ ap billed q
      ∙ ap (λ t. served w (bill_if t (instructions c.bytes) (tally_in w) p c.out)) (ne_eqb number 0 ne)
      ∙ kept p

  refusing : (number place : ℕ) → number ≢ 0 → number ≤ 9 → shorten c.bytes c.out ≡ refusal number place c.out → Coming w c
  refusing number place ne few q = refuses number place ne few q (refused_is number place ne q)

  module _ (q : shorten c.bytes c.out ≡ success (run (procedure_of (records_of c.bytes))) (short_bytes c.bytes) c.out) where
    zero_is : (shorten c.bytes c.out).answer.number ≡ 0
    zero_is = ap (λ p. p.answer.number) q

    charge-is : serve w c ≡ served w (charge_if (ltb ceiling (tally_in w + cost c.bytes)) (cost c.bytes) (tally_in w) (shorten c.bytes c.out) c.out)
    unfolding billed
    charge-is = serve-is ∙ ap billed q ∙ ap (λ p. served w (charge_if (ltb ceiling (tally_in w + cost c.bytes)) (cost c.bytes) (tally_in w) p c.out)) (sym q)

    charging : (t : Bool) → ltb ceiling (tally_in w + cost c.bytes) ≡ t → Coming w c
    charging true e =
        passes (zero_is, ltb-true ceiling (tally_in w + cost c.bytes) e) (
        charge-is
        ∙ ap (λ t. served w (charge_if t (cost c.bytes) (tally_in w) (shorten c.bytes c.out) c.out)) e
        ∙ kept (refusal 10 0 c.out))
    charging false e =
        charges zero_is (ltb-false ceiling (tally_in w + cost c.bytes) e) (
        charge-is ∙ ap (λ t. served w (charge_if t (cost c.bytes) (tally_in w) (shorten c.bytes c.out) c.out)) e)

  by : Fate c.bytes c.out → Coming w c
  by (unread n q) = let k = seven c.bytes in refusing (checked c.bytes).number (checked c.bytes).place n (omega arith) q
  by (over q) = refusing 8 0 (λ n. omega (arith, n)) (omega arith) q
  by (short f l q) = refusing 9 0 (λ n. omega (arith, n)) (omega arith) q
  by (done f l q) = charging q (ltb ceiling (tally_in w + cost c.bytes)) refl

  pub coming : Coming w c
  coming = by (fate c.bytes c.out)
