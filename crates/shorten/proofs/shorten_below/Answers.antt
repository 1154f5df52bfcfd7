use Prim.Native.Nat.{ℕ}
use native.Mathlib.Omega.{arith}
use mathlib.Core.Path.{refl}
use Rattle.std.proofs.lemmas.Result.{err_from_is_err_and}
use Rattle.std.specs.Prelude.{Err}
use Rattle.read.proofs.Reasons.{no_zero}
use Rattle.shorten.proofs.Answers.{refused_is, read_number, clauses}
use Rattle.shorten.proofs.shorten_below.Goals as goal

pub returns-in_err-read : goal.returns-in_err-read
returns-in_err-read c =
    let b = c.args.bytes.now in
    let o = c.args.out.now in
    let m = c.args.registers in
    let n = c.args.code in
    let q = err_from_is_err_and c.from_residual.result c.from_residual.ensures.1 in
    rw q.1
    (clauses m n b o (λ (i : ℕ). omega (arith, c.type_inv.bytes i)) c.requires.0 c.requires.1 (Err q.0) o
    (rw q.2 (refused_is m n b o c.in_err-read.ensures (no_zero _))))

pub shorten_accepted-requires : goal.shorten_accepted-requires
shorten_accepted-requires c =
    (read_number c.args.bytes.now c.in_ok-read.ensures refl, c.requires.0, c.requires.1)

pub returns : goal.returns
returns c =
    let b = c.args.bytes.now in
    let o = c.args.out.now in
    let m = c.args.registers in
    let n = c.args.code in
    clauses m n b o (λ (i : ℕ). omega (arith, c.type_inv.bytes i)) c.requires.0 c.requires.1
    c.shorten_accepted.result c.shorten_accepted.new.out c.shorten_accepted.ensures
