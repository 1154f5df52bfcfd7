use Rattle.std.proofs.Common.{rules}
use Prim.Native.Nat.{ℕ, suc, ◌-◌, ◌/◌}
use mathlib.Core.Path.{◌≡◌, refl, ap, ◌∙◌}
use native.Mathlib.Omega.{arith}
use lib.ListN.{length}
use borrow.Author.Tests.{tests}
use Rattle.std.proofs.lemmas.Iterator.{YieldsList-from_range}
use Rattle.std.proofs.lemmas.Iterator.Search.{all_from_yields_List}
use Rattle.general.proofs.Booleans.{both, neither}
use Rattle.procedure.specs.Procedure.{codes_of}
use Rattle.steps.specs.Small.{dupable, small_end}
use Rattle.ends.specs.Ends.{code_at}
use Rattle.ends.proofs.Laws.{length_codes, inst-there}
use Rattle.small.proofs.Laws.{too_long, empty_code, short-code}
use Rattle.small.proofs.Places.{copyable_places}
use Rattle.small.proofs.small.Goals as goal

pub returns-then-n-gt4 : goal.returns-then-n-gt4
returns-then-n-gt4 c = let b = c.args.code.now in
    let n = length_codes b in
    too_long (codes_of b) (rw n c.if-n-gt4.true)

pub returns-then-n-eq0 : goal.returns-then-n-eq0
returns-then-n-eq0 c = let b = c.args.code.now in
    let n = length_codes b in
    empty_code (codes_of b) (n ∙ c.if-n-eq0.true)

-- all but the last instruction, as the chain tells it
pub returns-then-all : goal.returns-then-all
returns-then-all c = let b = c.args.code.now in
    let m = length b / 32 - 1 in
    let n = length_codes b in
    let r = all_from_yields_List (λ (k : ℕ). dupable (code_at (codes_of b) k).inst) _ _ c.all.result c.all.ensures.ran
    (YieldsList-from_range 0 m m refl (omega arith)) (λ x r q k. search (rules, tests, inst-there b x)) in
    let e = c.small_end.ensures ∙ ap small_end (inst-there b m c.record_at.ensures) in
    short-code (codes_of b) (rw n c.if-n-gt4.false)
    (both r c.if-all.true e ∙ copyable_places (codes_of b) (let h : length b / 32 ≡ suc m = omega arith in n ∙ h))

pub returns-else-all : goal.returns-else-all
returns-else-all c = let b = c.args.code.now in
    let m = length b / 32 - 1 in
    let n = length_codes b in
    let r = all_from_yields_List (λ (k : ℕ). dupable (code_at (codes_of b) k).inst) _ _ c.all.result c.all.ensures.ran
    (YieldsList-from_range 0 m m refl (omega arith)) (λ x r q k. search (rules, tests, inst-there b x)) in
    short-code (codes_of b) (rw n c.if-n-gt4.false)
    (c.if-all.false ∙ neither _ r c.if-all.false ∙ copyable_places (codes_of b) (let h : length b / 32 ≡ suc m = omega arith in n ∙ h))
