use Prim.Native.Nat.{◌+◌}
use mathlib.Core.Path.{◌≡◌}
use lib.ListN.{drop}
use Rattle.layout.specs.Walk.{lead}
use Rattle.read.specs.Structure.{code_of, ends_well, ended}
use Rattle.read.specs.Spans.{spanned}
use Rattle.read.proofs.blocks.first_wrong_end.Given as goal

abbrev pub invariant-loop-k : goal.invariant-loop-k
invariant-loop-k l =
    l.k + lead (λ r. ends_well (code_of (spanned l.code) r)) (drop l.k (spanned l.blocks)) ≡ ended (spanned l.code) (spanned l.blocks)
