use Prim.Native.Nat.{ℕ}
use native.Mathlib.Omega.{arith}
use mathlib.Core.Path.{refl, sym, ◌∙◌}
use Rattle.std.proofs.lemmas.Result.{err_from_is_err_and}
use Rattle.read.proofs.Reasons.{no_zero}
use Rattle.put_record.specs.Store.{Bytes}
use Rattle.bench_c.proofs.Forms.{read_refused, threaded_above, threaded_put}
use Rattle.bench_c.proofs.threaded.Goals as goal

pub returns-in_err-read : goal.returns-in_err-read
returns-in_err-read c =
    let q = err_from_is_err_and c.from_residual.result c.from_residual.ensures.1 in
    rw (q.1, q.2) (read_refused c.args.bytes.now c.args.out.now _ c.in_err-read.ensures (no_zero _))

pub returns-then-above : goal.returns-then-above
returns-then-above c =
    let b = c.args.bytes.now in
    let bytes : Bytes b = λ (k : ℕ). omega (arith, c.type_inv.bytes k) in
    threaded_above b c.args.out.now c.open-file.result bytes c.in_ok-read.ensures refl c.open-file.ensures.bytes c.open-file.ensures.layout
    (sym c.above.ensures ∙ c.if-above.true)

pub returns : goal.returns
returns c =
    let b = c.args.bytes.now in
    let bytes : Bytes b = λ (k : ℕ). omega (arith, c.type_inv.bytes k) in
    threaded_put b c.args.out.now c.open-file.result bytes c.in_ok-read.ensures refl c.open-file.ensures.bytes c.open-file.ensures.layout
    (sym c.above.ensures ∙ c.if-above.false) c.thread_over.ensures
