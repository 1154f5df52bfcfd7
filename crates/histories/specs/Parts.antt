-- Document 02, 2.2: accounts that go on from some tally, in two places, or after they were saved.
use Rattle.std.specs.Prelude.{ℕ, ◌+◌, ◌≤◌, ◌≡◌, List, Bool, true, length}
use Rattle.billing.specs.Billing.{ceiling}
use Rattle.accounts.specs.Accounts.{tally_in, made, joins, joined}
use Rattle.accounts.specs.Saved.{saved, Loaded}
use Rattle.accounts.specs.History.{Call, after, replies}
use Rattle.histories.specs.Tally.{earned}

-- from any accounts the tally rises by what is earned; where it was within the ceiling it stays there
abbrev pub TalliedFrom : Type 0
TalliedFrom =
    (w : List ℕ) (h : List Call) → length w ≡ 128
    → (tally_in (after w h) ≡ tally_in w + earned w h) × (tally_in w ≤ ceiling → tally_in (after w h) ≤ ceiling)

-- a part that began with tally 0 and went on by itself: once it is joined, all is as if its calls had been made to the accounts
abbrev pub Joined : Type 0
Joined =
    (w : List ℕ) (h : List Call) → length w ≡ 128 → joins w (after made h) ≡ true
    → (after w h ≡ joined w (after made h)) × (replies w h ≡ replies made h)

-- accounts with any history, saved and loaded over any others, are the same again
abbrev pub Kept : Type 0
Kept =
    (h : List Call) (before loaded : List ℕ) (answer : Bool)
    → Loaded (saved (tally_in (after made h))) before answer loaded → (answer ≡ true) × (loaded ≡ after made h)
