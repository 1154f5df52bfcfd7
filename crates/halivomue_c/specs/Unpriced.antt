-- A result of Shorten with accounts, and its price apart.
use Rattle.std.specs.Prelude.{ℕ, Result, Ok, Err}
use Rattle.read.specs.declared.Refusal.{Refusal}
use Rattle.steps.specs.declared.Shortening.{Shortening}
use Rattle.billing.specs.declared.Priced.{Priced}

abbrev pub unpriced : Result Priced Refusal → Result Shortening Refusal
unpriced (Ok p) = Ok p.shortening
unpriced (Err e) = Err e

abbrev pub price_in : Result Priced Refusal → ℕ
price_in (Ok p) = p.price
price_in (Err e) = 0
