-- Where a call is refused with 10, and what a call costs.
use Rattle.std.proofs.Common.{◌≡◌, ℕ, ◌+◌, ◌≤◌, List, true, false, sym, ap, ◌∙◌, arith}
use Rattle.std.proofs.lemmas.Bool.{ne_eqb, eq-eqb, true≢false}
use Rattle.steps.specs.Shorten.{shorten}
use Rattle.billing.specs.Billing.{ceiling}
use Rattle.accounts.specs.Accounts.{tally_in, with_tally}
use Rattle.accounts.specs.History.{Call, serve}
use Rattle.histories.specs.Tally.{cost, successful}
use Rattle.histories.specs.Calls.{Passing, ten, TenThere, Passes, FreePasses, Prices}
use Rattle.histories.proofs.Served.{charged, Coming, refuses, passes, charges, coming}

module _ (w : List ℕ) (c : Call) where
  there : Coming w c → Passing w c → serve w c ≡ ten w c
  there (refuses number place ne few q e) h = absurd (ne (sym (ap (λ o. o.answer.number) q) ∙ h.0))
  there (passes p e) h = e
  there (charges z le e) h = let lt = h.1 in absurd (omega arith)

  back : Coming w c → (serve w c).reply.outcome.answer.number ≡ 10 → Passing w c
  back (refuses number place ne few q e) t =
      let n : number ≡ 10 = sym (ap (λ s. s.reply.outcome.answer.number) e) ∙ t in absurd (omega arith)
  back (passes p e) t = p
  back (charges z le e) t =
      let z2 : (serve w c).reply.outcome.answer.number ≡ 0 = ap (λ s. s.reply.outcome.answer.number) e ∙ z in
      absurd (omega arith)

  pub charged_is : (shorten c.bytes c.out).answer.number ≡ 0 → tally_in w + cost c.bytes ≤ ceiling → serve w c ≡ charged w c
  charged_is z le = by (coming w c)
    where
      by : Coming w c → serve w c ≡ charged w c
      by (refuses number place ne few q e) = absurd (ne (sym (ap (λ o. o.answer.number) q) ∙ z))
      by (passes p e) = let lt = p.1 in absurd (omega arith)
      by (charges z2 le2 e) = e

pub ten_there : TenThere
ten_there w c = (there w c (coming w c), back w c (coming w c))

pub passes_at : Passes
passes_at w c z le = ap (λ s. successful s.reply) (charged_is w c z le) ∙ eq-eqb _ 0 z

pub free_passes : FreePasses
free_passes w c f le t = let p = (ten_there w c).1 t in let lt = p.1 in omega arith

pub prices : Prices
prices w c = by (coming w c)
  where
    by : Coming w c → let s = serve w c in
        (successful s.reply ≡ true
        → (s.reply.outcome ≡ shorten c.bytes c.out) × (s.reply.price ≡ cost c.bytes) × (s.accounts ≡ with_tally w (tally_in w + cost c.bytes)))
        × (successful s.reply ≡ false → (s.reply.outcome.output ≡ c.out) × (s.reply.price ≡ 0) × (s.accounts ≡ w))
    by (refuses number place ne few q e) = (
      λ t. absurd (true≢false (sym t ∙ ap (λ s. successful s.reply) e ∙ ne_eqb number 0 ne)),
      λ t. (ap (λ s. s.reply.outcome.output) e, ap (λ s. s.reply.price) e, ap (λ s. s.accounts) e),
    )
    by (passes p e) = (
      λ t. absurd (true≢false (sym t ∙ ap (λ s. successful s.reply) e)),
      λ t. (ap (λ s. s.reply.outcome.output) e, ap (λ s. s.reply.price) e, ap (λ s. s.accounts) e),
    )
    by (charges z le e) = (
      λ t. (ap (λ s. s.reply.outcome) e, ap (λ s. s.reply.price) e, ap (λ s. s.accounts) e),
      λ t. absurd (true≢false (sym (ap (λ s. successful s.reply) e ∙ eq-eqb _ 0 z) ∙ t)),
    )
