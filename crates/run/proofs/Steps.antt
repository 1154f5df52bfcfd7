-- What the gate and the test of six instructions come to, by what the calls of `gated` and `run` say.
use Prim.Native.Nat.{ℕ, ◌/◌, ◌≤◌, ◌<◌}
use mathlib.Core.Path.{◌≡◌, sym, ap, ◌∙◌}
use mathlib.Core.Bool.{Bool, true, false}
use mathlib.Core.List.{List}
use Rattle.std.proofs.Common.{Option}
use borrow.Author.Tests.{lt-ltb, le-ltb}
use lib.ListN.{length}
use Rattle.equal_arms.specs.Joined.{Joined, joined, equal_arms_in}
use Rattle.equal_arms.proofs.Laws.{none-joined}
use Rattle.thread.specs.declared.Threaded.{Threaded}
use Rattle.thread.specs.Storage.{Store, store, thread_in}
use Rattle.run.specs.declared.Ran.{Ran}
use Rattle.run.specs.Ran.{Left, left, still, budget_in, counted_in, opens_in, gate_in, arms_in, run_if, ran_in}

abbrev ran : Bool → Threaded → Ran
ran joined at = record { joined = joined; at = at }

module _ (body : Option ℕ) (known copy : ℕ) (operands registers : List ℕ) (n : ℕ) (work table kinds facts : List ℕ) where
  module _ (arms : Bool) {z : Bool} (e : z ≡ opens_in body work table) where
    pub shut : {at : Threaded} → z ≡ false → at ≡ still n
        → left work table kinds facts (ran arms at) ≡ arms_in body known copy operands registers n (joined work arms) table kinds facts
        (counted_in n operands registers facts work)
    shut f g =
        ap (λ (at : Threaded). left work table kinds facts (ran arms at)) g
        ∙ ap (λ (b : Bool). gate_in body known copy operands registers n b work table kinds facts (counted_in n operands registers facts work) arms) (sym f ∙ e)

    pub opened : {facts' work' table' kinds' : List ℕ} {b : ℕ} {at : Threaded} → z ≡ true → facts' ≡ counted_in n operands registers facts work
        → b ≡ budget_in n → store work' table' kinds' at ≡ thread_in facts' body b known copy work table kinds n
        → left work' table' kinds' facts' (ran arms at) ≡ arms_in body known copy operands registers n (joined work arms) table kinds facts
        (counted_in n operands registers facts work)
    opened {facts'} f g h k =
        ap (λ (s : Store). record { store = s; facts = facts'; joined = arms })
        (k ∙ ap (λ (b : ℕ). thread_in facts' body b known copy work table kinds n) h)
        ∙ ap (λ (t : List ℕ). record { store = thread_in t body (budget_in n) known copy work table kinds n; facts = t; joined = arms }) g
        ∙ ap (λ (b : Bool). gate_in body known copy operands registers n b work table kinds facts (counted_in n operands registers facts work) arms) (sym f ∙ e)

  pub few : {at : Threaded} → n < 6 → at ≡ still n
      → left work table kinds facts (ran false at) ≡ ran_in body known copy operands registers n work table kinds facts
  unfolding ran_in
  few h g =
      ap (λ (at : Threaded). left work table kinds facts (ran false at)) g
      ∙ ap (λ (b : Bool). run_if body known copy operands registers n b work table kinds facts) (sym (lt-ltb n 6 h))

  pub enough : {work' : List ℕ} {arms : Bool} {l : Left} → 6 ≤ n → joined work' arms ≡ equal_arms_in table work
      → l ≡ arms_in body known copy operands registers n (joined work' arms) table kinds facts (counted_in n operands registers facts work')
      → l ≡ ran_in body known copy operands registers n work table kinds facts
  unfolding ran_in
  enough h e g =
      g
      ∙ ap (λ (z : Joined). arms_in body known copy operands registers n z table kinds facts (counted_in n operands registers facts z.code)) e
      ∙ ap (λ (b : Bool). run_if body known copy operands registers n b work table kinds facts) (sym (le-ltb n 6 h))

-- where no arms were joined, the gate is what it was
pub not-joined : (body : Option ℕ) (work table : List ℕ) {work' : List ℕ} {arms : Bool} → joined work' arms ≡ equal_arms_in table work → arms ≡ false
    → opens_in body work table ≡ true → opens_in body work' table ≡ true
not-joined body work table {work'} {arms} e f g =
    let same = none-joined table (length table / 32) 0 (joined work false) (ap (λ (z : Joined). z.edited) (sym e) ∙ f) in
    ap (λ (c : List ℕ). opens_in body c table) (ap (λ (z : Joined). z.code) (e ∙ same)) ∙ g
