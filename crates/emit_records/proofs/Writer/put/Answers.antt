use Prim.Native.Nat.{ℕ, ◌+◌}
use mathlib.Core.Path.{refl, ap, ◌∙◌}
use mathlib.Core.List.{List}
use native.Mathlib.Omega.{arith}
use Rattle.emit_records.specs.Emitted.{place, puts}
use Rattle.emit_records.proofs.Laws.{put_in, put_full}
use Rattle.emit_records.proofs.Writer.put.Goals as goal

pub returns-then-self : goal.returns-then-self
unfolding puts
returns-then-self c =
    let w = c.args.self.now in
    record { same = refl; written = ap (λ (b : List ℕ). place b (w.at + 1)) c.put_record.ensures ∙ put_in w.out.now w.at c.args.r c.if-self.true }

pub returns-else-self : goal.returns-else-self
unfolding puts
returns-else-self c =
    let w = c.args.self.now in record { same = refl; written = put_full w.out.now w.at c.args.r (omega arith) }
