-- Document 02, 2.2: what a call of Shorten with accounts comes to.
use Rattle.std.specs.Prelude.{ℕ, ◌+◌, ◌≤◌, ◌<◌, ◌≡◌, ◌≢◌, List, true, false}
use Rattle.steps.specs.Shorten.{refusal, shorten}
use Rattle.billing.specs.Billing.{ceiling}
use Rattle.accounts.specs.Accounts.{tally_in, with_tally}
use Rattle.accounts.specs.History.{Call, Served, serve}
use Rattle.histories.specs.Tally.{cost, successful}

-- "when the tally would pass 9,999,999 cents", and all else is well
abbrev pub Passing : List ℕ → Call → Type 0
Passing w c = ((shorten c.bytes c.out).answer.number ≡ 0) × (ceiling < tally_in w + cost c.bytes)

-- "10 and record 0, .. and output and tally are as before"
abbrev pub ten : List ℕ → Call → Served
ten w c = record { reply = record { outcome = refusal 10 0 c.out; price = 0 }; accounts = w }

-- a call is refused with 10 exactly there
abbrev pub TenThere : Type 0
TenThere = (w : List ℕ) (c : Call) → (Passing w c → serve w c ≡ ten w c) × ((serve w c).reply.outcome.answer.number ≡ 10 → Passing w c)

-- so equality passes, and a file of 0 cents is never refused with 10 where the tally is within the ceiling
abbrev pub Passes : Type 0
Passes = (w : List ℕ) (c : Call) → (shorten c.bytes c.out).answer.number ≡ 0 → tally_in w + cost c.bytes ≤ ceiling → successful (serve w c).reply ≡ true

abbrev pub FreePasses : Type 0
FreePasses = (w : List ℕ) (c : Call) → cost c.bytes ≡ 0 → tally_in w ≤ ceiling → (serve w c).reply.outcome.answer.number ≢ 10

-- a successful call has Shorten's own answer, and its price is the file's cost; any other costs nothing and leaves all as before
abbrev pub Prices : Type 0
Prices =
    (w : List ℕ) (c : Call) → let s = serve w c in
    (successful s.reply ≡ true
    → (s.reply.outcome ≡ shorten c.bytes c.out) × (s.reply.price ≡ cost c.bytes) × (s.accounts ≡ with_tally w (tally_in w + cost c.bytes)))
    × (successful s.reply ≡ false → (s.reply.outcome.output ≡ c.out) × (s.reply.price ≡ 0) × (s.accounts ≡ w))
