-- Document 02, 2.2: what the tally is after every history of calls.
use Rattle.std.specs.Prelude.{ℕ, ◌+◌, ◌≤◌, ◌≡◌, List, [], ◌∷◌, Bool, cond, eqb}
use Rattle.records.specs.Record.{records_of}
use Rattle.procedure.specs.Procedure.{procedure_of}
use Rattle.steps.specs.Run.{run}
use Rattle.steps.specs.Shorten.{instructions}
use Rattle.billing.specs.Billing.{cents, ceiling}
use Rattle.accounts.specs.Accounts.{tally_in, made}
use Rattle.accounts.specs.History.{Call, Reply, serve, after}

-- what a file costs: its instructions as sent, and those that the steps append
abbrev pub cost : List ℕ → ℕ
cost b = cents (instructions b) (run (procedure_of (records_of b))).grown

-- "only a successful shortening"
abbrev pub successful : Reply → Bool
successful r = eqb r.outcome.answer.number 0

-- "the sum over the successful files of its history. The rounding is per file."
unfoldable pub earned : List ℕ → List Call → ℕ
earned w [] = 0
earned w (c ∷ h) = cond (successful (serve w c).reply) (cost c.bytes) 0 + earned (serve w c).accounts h

-- "its total always equals the sum over the successful files of its history", and never passes the ceiling
abbrev pub Tallied : Type 0
Tallied = (h : List Call) → (tally_in (after made h) ≡ earned made h) × (tally_in (after made h) ≤ ceiling)
