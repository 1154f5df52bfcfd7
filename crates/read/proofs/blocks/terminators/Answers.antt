use Rattle.std.proofs.Common.{rules}
use Prim.Native.Nat.{ℕ, ◌-◌}
use native.Mathlib.Nat.{zero-add}
use native.Mathlib.Omega.{arith}
use mathlib.Core.Path.{◌≡◌, ◌∙◌, ap, sym}
use mathlib.Core.Bool.{Bool, cond}
use lib.ListN.{length, take, drop}
use lib.Seq.{get_or-take, length-take-le}
use Rattle.std.specs.List.{count_by}
use Rattle.std.proofs.lemmas.List.Sums.{sum_by-drop_more}
use Rattle.general.proofs.Lists.{drop-take}
use Rattle.records.specs.Record.{records_of, blank}
use Rattle.records.proofs.Laws.{length_records}
use Rattle.read.specs.Structure.{terminator}
use Rattle.read.proofs.blocks.terminators.Goals as goal

pub loop-k-init : goal.loop-k-init
loop-k-init c =
    let s = c.args.code in
    let rs = records_of s.b.now in
    let end = c.min-end.result in
    let size : end - s.first ≡ s.count = omega (arith, c.min-end.ensures, s.within, length_records s.b.now) in
    zero-add _ ∙ ap (count_by terminator) (drop-take s.first end rs ∙ ap (λ (n : ℕ). take n (drop s.first rs)) size)

pub loop-k-preserved : goal.loop-k-preserved
loop-k-preserved c =
    let b = c.args.code.b.now in
    let k = c.loop-k.k in
    let end = c.min-end.result in
    let all : length (take end (records_of b)) ≡ end = length-take-le end (records_of b) (omega (arith, c.min-end.ensures, length_records b)) in
    let more = sum_by-drop_more (λ r. cond (terminator r) 1 0) (take end (records_of b)) k blank (rw all c.loop-k-test.true) in
    let at = ap terminator (c.record_at.ensures ∙ sym (get_or-take end (records_of b) k blank c.loop-k-test.true)) in
    let one : c.from-n.result ≡ cond c.terminator.result 1 0 = search rules in
    let is = ap (λ (t : Bool). cond {A = ℕ} t 1 0) (c.terminator.ensures ∙ at) in
    let h = c.loop-k.invariant in
    omega arith
