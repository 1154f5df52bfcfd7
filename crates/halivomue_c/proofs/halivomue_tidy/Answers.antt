use Rattle.std.proofs.Common.{ap, ◌∙◌}
use Rattle.tidy.specs.Tidy.{Tidiness}
use Rattle.halivomue_c.proofs.halivomue_tidy.Goals as goal

pub returns : goal.returns
returns c =
    let e = c.tidy.ensures in
    let m = c.members.ensures in
    record {
      number = m.number ∙ ap (λ (t : Tidiness). t.number) e;
      place = m.place ∙ ap (λ (t : Tidiness). t.place) e;
      tidy = m.tidy ∙ ap (λ (t : Tidiness). t.tidy) e;
      reg = m.reg ∙ ap (λ (t : Tidiness). t.reg) e;
    }
