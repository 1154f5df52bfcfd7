use Prim.Native.Nat.{◌+◌}
use mathlib.Core.Path.{◌≡◌, refl, sym, ap, ◌∙◌}
use native.Mathlib.Omega.{arith}
use lib.ListN.{length, drop}
use native.Mathlib.Nat.{zero-add}
use Rattle.layout.specs.Walk.{lead}
use Rattle.read.proofs.Laid.{sizes, refuse_at, pass_on}
use Rattle.general.proofs.Booleans.{told}
use Rattle.records.specs.Record.{records_of, blank}
use Rattle.records.proofs.Laws.{length_records}
use Rattle.record_rules.specs.declared.exist.Counts.{Counts}
use Rattle.record_rules.specs.Exist.{names_exist}
use Rattle.layout.proofs.Walks.{lead_pass, lead_stop, lead-end}
use Rattle.read.proofs.names.named_records.Goals as goal

pub refused-requires : goal.refused-requires
refused-requires c = omega (arith, length_records c.args.f.b.now)

pub returns-then-not-names_exist : goal.returns-then-not-names_exist
returns-then-not-names_exist c =
    let p = names_exist c.args.n in
    let b = c.args.f.b.now in
    let e = lead_stop p (records_of b) c.loop-k.k blank (rw (length_records b) c.loop-k-test.true)
    (told p c.record_at.ensures (c.if-not-names_exist.ensures ∙ ap (λ (n : Counts). names_exist n c.record_at.result) c.of-limits.ensures) refl) ∙ c.loop-k.invariant in
    refuse_at 7 0 _ _ _ c.refused.ensures (e ∙ sym (zero-add _)) (rw (← e, length_records b) c.loop-k-test.true)

pub loop-k-preserved : goal.loop-k-preserved
loop-k-preserved c =
    let p = names_exist c.args.n in
    let b = c.args.f.b.now in
    lead_pass p (records_of b) c.loop-k.k blank (rw (length_records b) c.loop-k-test.true)
    (told p c.record_at.ensures (c.if-not-names_exist.ensures ∙ ap (λ (n : Counts). names_exist n c.record_at.result) c.of-limits.ensures) refl) ∙ c.loop-k.invariant

pub returns : goal.returns
returns c =
    let p = names_exist c.args.n in
    let b = c.args.f.b.now in
    let rs = records_of b in
    let z = sizes c.args.f.laid in
    let k : length rs ≡ c.loop-k.k = omega (arith, length_records b) in
    let e : length rs ≡ c.args.f.l.bodies + lead p (drop c.args.f.l.bodies rs) =
    k ∙ lead-end p rs c.loop-k.k (rw (length_records b) c.loop-k-test.false) ∙ c.loop-k.invariant in
    pass_on 7 0 _ _ (rw (← e) (omega arith)) refl
