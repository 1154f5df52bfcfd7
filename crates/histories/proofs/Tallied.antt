-- What the tally is after a history of calls.
use Rattle.std.proofs.Common.{◌≡◌, ℕ, ◌+◌, ◌≤◌, List, [], ◌∷◌, true, false, cond, length, refl, ap, ◌∙◌, zero-add, arith}
use Rattle.std.proofs.lemmas.Bool.{ne_eqb, eq-eqb}
use Rattle.std.proofs.lemmas.List.{get_or-set_same, length-set}
use Rattle.billing.specs.Billing.{ceiling}
use Rattle.accounts.specs.Accounts.{tally_in, with_tally, made}
use Rattle.accounts.specs.History.{Call, Served, serve, after}
use Rattle.histories.specs.Tally.{cost, successful, earned, Tallied}
use Rattle.histories.specs.Parts.{TalliedFrom}
use Rattle.histories.proofs.Served.{Coming, refuses, passes, charges, coming}

pub with-tally : (w : List ℕ) (n : ℕ) → length w ≡ 128 → tally_in (with_tally w n) ≡ n
with-tally w n l = get_or-set_same w 0 n 0 (omega arith)

abbrev From : List ℕ → List Call → Type 0
From w h = (tally_in (after w h) ≡ tally_in w + earned w h) × (tally_in w ≤ ceiling → tally_in (after w h) ≤ ceiling)

-- from what a call leaves, the rest of a history
abbrev Rest : List ℕ → Call → List Call → Served → Type 0
Rest w c h s =
    (tally_in (after s.accounts h) ≡ tally_in w + (cond (successful s.reply) (cost c.bytes) 0 + earned s.accounts h))
    × (tally_in w ≤ ceiling → tally_in (after s.accounts h) ≤ ceiling)

module _ (w : List ℕ) (c : Call) (h : List Call) (l : length w ≡ 128) (from : (v : List ℕ) → length v ≡ 128 → From v h) where
  unearned : (s : Served) → successful s.reply ≡ false → s.accounts ≡ w → Rest w c h s
  unearned s e a =
      let f = from w l in
      let same : tally_in (after s.accounts h) ≡ tally_in (after w h) = ap (λ v. tally_in (after v h)) a in
      let less : cond (successful s.reply) (cost c.bytes) 0 ≡ 0 = ap (λ t. cond t (cost c.bytes) 0) e in
      let rest : earned s.accounts h ≡ earned w h = ap (λ v. earned v h) a in
      let sum = f.0 in
      (omega arith, λ i. let j = f.1 i in omega arith)

  earning : (s : Served) → successful s.reply ≡ true → tally_in w + cost c.bytes ≤ ceiling → s.accounts ≡ with_tally w (tally_in w + cost c.bytes) → Rest w c h s
  earning s e le a =
      let v = with_tally w (tally_in w + cost c.bytes) in
      let f = from v (length-set w 0 (tally_in w + cost c.bytes) ∙ l) in
      let same : tally_in (after s.accounts h) ≡ tally_in (after v h) = ap (λ u. tally_in (after u h)) a in
      let more : cond (successful s.reply) (cost c.bytes) 0 ≡ cost c.bytes = ap (λ t. cond t (cost c.bytes) 0) e in
      let rest : earned s.accounts h ≡ earned v h = ap (λ u. earned u h) a in
      let new = with-tally w (tally_in w + cost c.bytes) l in
      let sum = f.0 in
      let j = f.1 (omega arith) in
      (omega arith, λ i. omega arith)

  step : Coming w c → Rest w c h (serve w c)
  step (refuses number place ne few q e) =
      unearned (serve w c) (ap (λ s. successful s.reply) e ∙ ne_eqb number 0 ne) (ap (λ s. s.accounts) e)
  step (passes p e) = unearned (serve w c) (ap (λ s. successful s.reply) e) (ap (λ s. s.accounts) e)
  step (charges z le e) = earning (serve w c) (ap (λ s. successful s.reply) e ∙ eq-eqb _ 0 z) le (ap (λ s. s.accounts) e)

pub tallied_from : TalliedFrom
unfolding after earned
tallied_from w [] l = (omega arith, λ i. i)
tallied_from w (c ∷ h) l = step w c h l (λ v k. tallied_from v h k) (coming w c)

pub tallied : Tallied
tallied h = let f = tallied_from made h refl in (f.0 ∙ zero-add (earned made h), f.1 (omega arith))
