use Prim.Native.Nat.{ℕ}
use mathlib.Core.Path.{refl, ap, ◌∙◌}
use lib.ListN.{length}
use Rattle.records.specs.Record.{records_of}
use native.Mathlib.Omega.{arith}
use Rattle.read.specs.Structure.{numbered, tables}
use Rattle.read.specs.Reading.{answer, unless, read_tables}
use Rattle.std.proofs.lemmas.Result.{err_from_is_err_and}
use Rattle.read.proofs.Reasons.{no_zero}
use Rattle.read.proofs.Laid.{sizes, of-class, counts_are, all_named, stands, pass_on}
use Rattle.read.proofs.read_tables.Goals as goal

pub returns-in_err-tables : goal.returns-in_err-tables
unfolding read_tables
returns-in_err-tables c =
    let q = err_from_is_err_and c.from_residual.result c.from_residual.ensures.1 in
    rw (q.1, q.2) (stands 6 _ _ _ _ _ (no_zero _) (of-class c.arms.ensures 6 numbered c.in_err-tables.ensures))

pub overflow_cast-counts : goal.overflow_cast-counts
overflow_cast-counts c = let f = c.args.f in let z = sizes f.laid in omega (arith, f.few)

pub overflow_sub-counts : goal.overflow_sub-counts
overflow_sub-counts c = let z = sizes c.args.f.laid in omega arith

pub overflow_cast-counts-2 : goal.overflow_cast-counts-2
overflow_cast-counts-2 c = let f = c.args.f in let z = sizes f.laid in omega (arith, f.few)

pub overflow_sub-counts-2 : goal.overflow_sub-counts-2
overflow_sub-counts-2 c = let z = sizes c.args.f.laid in omega arith

pub overflow_cast-counts-3 : goal.overflow_cast-counts-3
overflow_cast-counts-3 c = let f = c.args.f in let z = sizes f.laid in omega (arith, f.few)

pub returns : goal.returns
unfolding read_tables
returns c =
    let n = c.in_ok-tables.ensures in
    let f = c.args.f in
    let h = c.arms.ensures in
    let rs = records_of f.b.now in
    let k = n.0 ∙ ap numbered h.spanned in
    let m = all_named f.laid _ (counts_are f.laid _ refl refl (n.1 ∙ ap tables h.spanned) refl) refl in
    pass_on 6 _ _ _ (omega (arith, k, h.count)) (c.named_records.ensures ∙ ap (λ (x : ℕ). unless 7 0 x (length rs) (answer 0 0)) m)
