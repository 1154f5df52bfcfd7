-- A target that is copied is small.
use Prim.Native.Nat.{ℕ}
use mathlib.Core.Path.{◌≡◌}
use mathlib.Core.List.{List, []}
use mathlib.Core.Bool.{Bool, true, false, ◌&&◌, ◌||◌, not}
use borrow.Author.Tests.{not-false}
use lib.Dec.{eqb, ltb}
use lib.ListN.{get_or}
use Rattle.std.proofs.lemmas.Bool.{and_parts, or_parts}
use Rattle.inst.specs.declared.Code.{Code}
use Rattle.procedure.specs.Lists.{present, holds}
use Rattle.steps.specs.Small.{small, reads_konst}
use Rattle.steps.specs.Facts.{Facts}
use Rattle.steps.specs.Gate.{copied}
use Rattle.steps.specs.Thread.{Work, block_at, stops}

pub copied-small : (wide : Bool) (P : List (List Code)) (l : ℕ) → copied wide P l ≡ true → small (get_or P l []) ≡ true
unfolding copied
copied-small wide P l h = (and_parts (small (get_or P l [])) _ h).0

pub stops-small : (f : Facts) (w : Work) (a l : ℕ) → stops f w a l ≡ false → small (block_at w l) ≡ true
unfolding stops
stops-small f w a l h =
    let wide = present f.body in
    let first = eqb l a || holds f.body l || wide && reads_konst f.konst (block_at w l) || ltb f.budget w.grown in
    let fits = copied wide w.blocks l in
    copied-small wide w.blocks l (not-false fits (or_parts first (not fits) h).1)
