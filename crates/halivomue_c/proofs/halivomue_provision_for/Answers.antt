use Rattle.std.proofs.Common.{◌≡◌, sym, ap, ◌∙◌, None, Ok}
use Rattle.std.specs.Prelude.{◌+◌, ◌/◌, ◌≤◌, false, take}
use Rattle.read.specs.Reading.{reading, answer}
use Rattle.tidy.specs.Tidy.{Tidiness, Tidy}
use Rattle.steps.specs.Shorten.{instructions}
use Rattle.steps.specs.Slice.{some_test}
use Rattle.steps.specs.Run.{sliced_form}
use Rattle.machine.specs.Demand.{Demand3}
use Rattle.demand.specs.Lengths.{Demand3Where}
use Rattle.promise.specs.Promise.{held}
use Rattle.accounts.specs.History.{Reply, Served}
use Rattle.halivomue_c.proofs.Answered.{served, yes_none, on_priced, unmoved_priced, never_nine_priced, replied_is}
use Rattle.halivomue_c.proofs.halivomue_provision_for.Goals as goal

pub returns : goal.returns
returns c =
    let b = c.args.bytes.now in
    let out = c.provision_for-p.new.out in
    let r = c.provision_for-p.result.priced in
    let s = c.provision_for-p.ensures in
    let m = c.billing_of-bill.ensures in
    let e = ap (λ (p : Reply). served p c.provision_for-p.new.accounts) (replied_is r out) ∙ s.is in
    let t = c.provision_for-p.result.tidiness in
    let y = c.members-tidy.ensures in
    record {
      number = m.number ∙ ap (λ (x : Served). x.reply.outcome.answer.number) e;
      place = m.place ∙ ap (λ (x : Served). x.reply.outcome.answer.place) e;
      tidy = y.tidy ∙ ap (λ (t : Tidiness). t.tidy) s.tidiness;
      reg = y.reg ∙ ap (λ (t : Tidiness). t.reg) s.tidiness;
      length = m.length ∙ ap (λ (x : Served). x.reply.outcome.answer.length) e;
      moved = m.moved ∙ ap (λ (x : Served). x.reply.outcome.answer.moved) e;
      grown = m.grown ∙ ap (λ (x : Served). x.reply.outcome.answer.grown) e;
      fresh = m.fresh ∙ ap (λ (x : Served). x.reply.outcome.answer.fresh) e;
      rescued = m.rescued ∙ ap (λ (x : Served). x.reply.outcome.answer.rescued) e;
      price = m.price ∙ ap (λ (x : Served). x.reply.price) e;
      accounts = ap (λ (x : Served). x.accounts) e;
      output = ap (λ (x : Served). x.reply.outcome.output) e;
      accepted = λ z. rw m.length (on_priced r (λ a. reading (take a.length out) ≡ answer 0 0) s.accepted (sym m.number ∙ z));
      room = λ i z. never_nine_priced r (s.room i) (sym m.number ∙ z);
      unmoved = λ z y. unmoved_priced r s.unmoved (sym m.number ∙ z) (sym m.moved ∙ y);
      bound = λ z. rw m.length (on_priced r (λ a. instructions (take a.length out) ≤ instructions b + instructions b / 2 + 36) s.bound (sym m.number ∙ z));
      demand3 = λ z.
          rw (m.length, m.rescued)
          (on_priced r (λ a. Tidy (held b) → Demand3Where (held b) (sliced_form (held b)) (held (take a.length out)) a.rescued) s.demand3 (sym m.number ∙ z));
      unsliced = λ z.
          rw (m.length, m.rescued)
          (on_priced r (λ a. Tidy (held b) → some_test (sliced_form (held b)).tests ≡ false → Demand3 (held b) (held (take a.length out)) a.rescued) s.unsliced
          (sym m.number ∙ z));
      promised = λ z x.
          rw (m.length, m.rescued)
          (on_priced r (λ a. t ≡ Ok None → Demand3Where (held b) (sliced_form (held b)) (held (take a.length out)) a.rescued) s.promised (sym m.number ∙ z) (yes_none t (sym y.tidy ∙ x)));
    }
