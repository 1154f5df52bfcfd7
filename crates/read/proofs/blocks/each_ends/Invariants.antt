use Prim.Native.Nat.{◌+◌}
use mathlib.Core.Path.{◌≡◌}
use lib.ListN.{drop}
use Rattle.layout.specs.Walk.{lead}
use Rattle.read.specs.Work.{closes}
use Rattle.read.specs.Spans.{spanned}
use Rattle.read.proofs.blocks.each_ends.Given as goal

abbrev pub invariant-loop-k : goal.invariant-loop-k
invariant-loop-k l = l.k + lead (closes (spanned l.code)) (drop l.k (spanned l.blocks)) ≡ lead (closes (spanned l.code)) (spanned l.blocks)
