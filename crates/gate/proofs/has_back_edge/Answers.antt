use Rattle.std.proofs.Common.{rules}
use native.Mathlib.Omega.{arith}
use mathlib.Core.Path.{◌∙◌}
use mathlib.Core.List.{[]}
use borrow.Author.Tests.{tests}
use Prim.Native.Nat.{ℕ}
use lib.ListN.{length, get_or}
use Rattle.std.proofs.lemmas.Iterator.{YieldsList-from_range}
use Rattle.std.proofs.lemmas.Iterator.Search.{any_from_yields_List}
use Rattle.ends.specs.Ends.{end_of}
use Rattle.blocks.specs.Blocks.{blocks_in}
use Rattle.gate.proofs.Laws.{back, back_places}
use Rattle.gate.proofs.has_back_edge.Goals as goal

pub returns : goal.returns
returns c =
    let p = blocks_in c.args.blocks in
    let n = length p in
    any_from_yields_List (λ (k : ℕ). back k (end_of (get_or p k []))) _ _ c.any.result c.any.ensures.ran
    (YieldsList-from_range 0 n n (rw c.len.ensures) (omega arith)) (λ x r q k. search (rules, tests))
    ∙ back_places p
