use Rattle.std.proofs.Common.{rules}
use native.Mathlib.Omega.{arith}
use mathlib.Core.Path.{◌≡◌, subst, ◌∙◌}
use mathlib.Core.Bool.{Bool, false}
use borrow.Author.Tests.{tests}
use Prim.Native.Nat.{ℕ, ◌+◌, ◌/◌}
use lib.ListN.{length}
use Rattle.std.specs.List.{AllWithin, range_with_len}
use Rattle.std.proofs.lemmas.List.FromFn.{length-range_with_len, get_or-range_with_len}
use Rattle.std.proofs.lemmas.Iterator.{YieldsList-from_range, cases_from_all}
use Rattle.blocks.proofs.Parts.{length-blocks}
use Rattle.equal_arms.specs.Joined.{joined, join_arms}
use Rattle.equal_arms.proofs.Laws.{from_all}
use Rattle.equal_arms.proofs.none_meet.Goals as goal

pub returns : goal.returns
returns c z = let b = c.args.blocks in
    let table = b.table.now in
    let n = length table / 32 in
    let s = joined b.code.now false in
    let Stays : ℕ → Type 0 = λ k. (edited : Bool) → join_arms table k (joined b.code.now edited) ≡ joined b.code.now edited in
    let h = cases_from_all _ _ _ Stays (λ k. Unit {0}) c.all.ensures.ran
    (YieldsList-from_range 0 n n (rw (c.len.ensures, length-blocks b.code.now table)) (omega arith))
    (λ x q k. search (rules, tests)) (λ x q k. tt) in
    let w : AllWithin Stays (range_with_len 0 n) 0 (length (range_with_len 0 n)) = rw z at h in
    let l = length-range_with_len 0 n in
    from_all table s n
    (λ k i. let e : 0 + k ≡ k = omega arith in subst Stays (get_or-range_with_len 0 n k 0 i ∙ e) (w k 0 (omega arith) (omega arith)) false)
    n 0 (omega arith)
