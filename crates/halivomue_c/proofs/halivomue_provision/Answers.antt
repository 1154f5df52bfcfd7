use Rattle.std.proofs.Common.{◌≡◌, sym, ap, ◌∙◌, None, Ok}
use Rattle.std.specs.Prelude.{◌+◌, ◌/◌, ◌≤◌, false, take}
use Rattle.read.specs.Reading.{reading, answer}
use Rattle.tidy.specs.Tidy.{Tidiness, Tidy}
use Rattle.steps.specs.Shorten.{Outcome, instructions}
use Rattle.steps.specs.Slice.{some_test}
use Rattle.steps.specs.Run.{sliced_form}
use Rattle.machine.specs.Demand.{Demand3}
use Rattle.demand.specs.Lengths.{Demand3Where}
use Rattle.promise.specs.Promise.{held}
use Rattle.halivomue_c.proofs.Answered.{yes_none, on_success, unmoved, never_nine}
use Rattle.halivomue_c.proofs.halivomue_provision.Goals as goal

pub returns : goal.returns
returns c =
    let b = c.args.bytes.now in
    let out = c.tidy_and_shorten-p.new.out in
    let r = c.tidy_and_shorten-p.result.shortening in
    let s = c.tidy_and_shorten-p.ensures in
    let m = c.answer_of-a.ensures in
    let e = s.is in
    let t = c.tidy_and_shorten-p.result.tidiness in
    let y = c.members-t.ensures in
    record {
      number = m.number ∙ ap (λ (o : Outcome). o.answer.number) e;
      place = m.place ∙ ap (λ (o : Outcome). o.answer.place) e;
      tidy = y.tidy ∙ ap (λ (t : Tidiness). t.tidy) s.tidiness;
      reg = y.reg ∙ ap (λ (t : Tidiness). t.reg) s.tidiness;
      length = m.length ∙ ap (λ (o : Outcome). o.answer.length) e;
      moved = m.moved ∙ ap (λ (o : Outcome). o.answer.moved) e;
      grown = m.grown ∙ ap (λ (o : Outcome). o.answer.grown) e;
      fresh = m.fresh ∙ ap (λ (o : Outcome). o.answer.fresh) e;
      rescued = m.rescued ∙ ap (λ (o : Outcome). o.answer.rescued) e;
      output = ap (λ (o : Outcome). o.output) e;
      accepted = λ z. rw m.length (on_success r (λ a. reading (take a.length out) ≡ answer 0 0) s.accepted (sym m.number ∙ z));
      room = λ i z. never_nine r (s.room i) (sym m.number ∙ z);
      unmoved = λ z y. unmoved r s.unmoved (sym m.number ∙ z) (sym m.moved ∙ y);
      bound = λ z. rw m.length (on_success r (λ a. instructions (take a.length out) ≤ instructions b + instructions b / 2 + 36) s.bound (sym m.number ∙ z));
      demand3 = λ z.
          rw (m.length, m.rescued)
          (on_success r (λ a. Tidy (held b) → Demand3Where (held b) (sliced_form (held b)) (held (take a.length out)) a.rescued) s.demand3 (sym m.number ∙ z));
      unsliced = λ z.
          rw (m.length, m.rescued)
          (on_success r (λ a. Tidy (held b) → some_test (sliced_form (held b)).tests ≡ false → Demand3 (held b) (held (take a.length out)) a.rescued) s.unsliced
          (sym m.number ∙ z));
      promised = λ z x.
          rw (m.length, m.rescued)
          (on_success r (λ a. t ≡ Ok None → Demand3Where (held b) (sliced_form (held b)) (held (take a.length out)) a.rescued) s.promised (sym m.number ∙ z) (yes_none t (sym y.tidy ∙ x)));
    }
