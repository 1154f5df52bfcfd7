use Prim.Native.Nat.{◌+◌, ◌-◌}
use mathlib.Core.Path.{◌≡◌}
use lib.ListN.{drop}
use Rattle.layout.specs.Walk.{walk}
use Rattle.read.specs.Structure.{tiles, tiled, next_block}
use Rattle.read.specs.Spans.{spanned}
use Rattle.read.proofs.blocks.tiled_blocks.Given as goal

abbrev pub invariant-loop-k : goal.invariant-loop-k
invariant-loop-k l =
    let bs = spanned l.blocks in
    l.k + walk (tiles l.n) next_block (l.due, l.blocks.count - l.k) (drop l.k bs) ≡ tiled l.n bs
