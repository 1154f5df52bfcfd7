use Rattle.std.proofs.Common.{sym, ◌∙◌}
use Rattle.records.specs.Record.{record_at}
use Rattle.codec.specs.Codec.{inst_of}
use Rattle.facts.specs.Storage.{operands_in}
use Rattle.kc.specs.Storage.{kc_in}
use Rattle.lengths.specs.Storage.{lengths_in}
use Rattle.slice.proofs.Passes.{nothing_put, nothing_tested, nothing_after, put_tested}
use Rattle.slice.proofs.slice_record.Goals as goal

pub returns-then-not-is_made-clause-code : goal.returns-then-not-is_made-clause-code
returns-then-not-is_made-clause-code c =
    let a = c.args in
    nothing_put (kc_in a.kc.now) (operands_in a.operands.now) a.k a.code.now (c.is_empty.ensures c.if-is_empty.true)

pub returns-then-not-is_made-clause-any : goal.returns-then-not-is_made-clause-any
returns-then-not-is_made-clause-any c =
    let a = c.args in
    nothing_tested (kc_in a.kc.now) (operands_in a.operands.now) a.k a.code.now (c.is_empty.ensures c.if-is_empty.true)

pub returns-then-not-is_made-clause-known : goal.returns-then-not-is_made-clause-known
returns-then-not-is_made-clause-known c = λ h.
    let a = c.args in
    let x = inst_of (record_at a.code.now a.k) in
    nothing_after (kc_in a.kc.now) (operands_in a.operands.now) x (c.is_empty.ensures c.if-is_empty.true)
    (rw (← c.record_at-r.ensures) (sym c.is_made.ensures ∙ c.if-not-is_made.true))

pub returns-in-Some-clause-code : goal.returns-in-Some-clause-code
returns-in-Some-clause-code c =
    let r = c.record_at-r.result in
    let t = c.tested-found.ensures.test (operands_in c.args.operands.now) in
    let e = rw c.in-Some.is at t in
    let a = c.args in
    c.put_cmp.ensures
    ∙ put_tested (kc_in a.kc.now) (operands_in a.operands.now) (lengths_in a.known.now) a.code.now a.k r.p2 c.in-Some.b
    c.record_at-r.ensures c.in-Some.ensures.cmp e

pub returns-in-Some-clause-any : goal.returns-in-Some-clause-any
returns-in-Some-clause-any c =
    let t = c.tested-found.ensures.test (operands_in c.args.operands.now) in
    let e = rw c.in-Some.is at t in
    rw (← c.record_at-r.ensures, ← e)

pub returns-in-None-clause-code : goal.returns-in-None-clause-code
returns-in-None-clause-code c =
    let t = c.tested-found.ensures.test (operands_in c.args.operands.now) in
    let e = rw c.in-None.is at t in
    rw (← c.record_at-r.ensures, ← e)

pub returns-in-None-clause-any : goal.returns-in-None-clause-any
returns-in-None-clause-any c =
    let t = c.tested-found.ensures.test (operands_in c.args.operands.now) in
    let e = rw c.in-None.is at t in
    rw (← c.record_at-r.ensures, ← e)
