use native.Mathlib.Omega.{arith}
use mathlib.Core.Path.{◌≡◌, sym, ◌∙◌}
use mathlib.Core.Bool.{true≢false}
use mathlib.Core.Logic.{⊎_elim}
use Rattle.inst.specs.declared.Kind.TheVariants as k
use Rattle.inst.proofs.Numbers.{numbered}
use Rattle.emit_records.proofs.Laws.{low-rescued, third_rescued}
use Rattle.emit_records.proofs.is_rescued.Goals.{in-Const, in_default}
use Rattle.emit_records.proofs.is_rescued.Goals as goal

pub returns-then-matches : goal.returns-then-matches
returns-then-matches c =
    let f = c.args.facts.now in
    let r = c.args.r in
    let e = c.from.ensures in
    c.is_single.ensures
    ∙ elim c.match-matches.branch [
      | in-Const w ↦ (⊎_elim (λ (i : c.from.result ≡ k.Const). let n : r.kind ≡ 0 = numbered k.Const e i tt in low-rescued f r (omega arith))
          (⊎_elim (λ (i : c.from.result ≡ k.ConstF). let n : r.kind ≡ 1 = numbered k.ConstF e i tt in low-rescued f r (omega arith))
          (λ (i : c.from.result ≡ k.AddrOf). third_rescued f r (numbered k.AddrOf e i tt))) w.in-Const.is)
      | in_default w ↦ (absurd (true≢false (sym c.if-matches.true ∙ w.matches-is)))
    ]
