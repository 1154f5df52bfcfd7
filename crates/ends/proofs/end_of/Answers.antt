use mathlib.Core.Path.{sym, ap, ◌∙◌}
use Rattle.ends.proofs.Laws.{length_codes, inst-there, end-last, end_none}
use Prim.Native.Nat.{◌-◌, ◌/◌}
use native.Mathlib.Omega.{arith}
use lib.ListN.{length}
use Rattle.procedure.specs.Procedure.{codes_of}
use Rattle.ends.specs.Ends.{view_of}
use Rattle.ends.proofs.end_of.Goals as goal

pub returns-then-n-eq0 : goal.returns-then-n-eq0
returns-then-n-eq0 c = let b = c.args.code.now in sym (end_none (codes_of b) (length_codes b ∙ c.if-n-eq0.true))

pub returns : goal.returns
returns c = let b = c.args.code.now in
    let k = length b / 32 - 1 in
    c.end_in.ensures ∙ ap view_of (inst-there b k c.record_at.ensures) ∙ sym (end-last (codes_of b) k (length_codes b ∙ omega arith))
