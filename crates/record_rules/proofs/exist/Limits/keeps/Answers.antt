use mathlib.Core.Path.{sym, subst}
use Rattle.std.proofs.Common.{ℕ, ◌<◌}
use Rattle.record_rules.specs.Work.{asked}
use Rattle.record_rules.proofs.Asked.{asked_in, kept}
use Rattle.record_rules.proofs.exist.Limits.keeps.Goals as goal

pub bounds-self-from-2 : goal.bounds-self-from-2
bounds-self-from-2 c =
    let a = c.args in
    subst (λ (s : ℕ). s < 6) (sym c.from-2.ensures) (asked_in a.kind a.place c.requires.kind c.requires.place)

pub returns : goal.returns
returns c =
    let a = c.args in
    rw (c.from.ensures, c.from-2.ensures, a.self.now.whole)
    (kept a.self.now.counts _ (asked a.kind a.place) a.value (asked_in a.kind a.place c.requires.kind c.requires.place) c.requires.value)
