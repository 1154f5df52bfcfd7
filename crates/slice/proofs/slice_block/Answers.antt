use Rattle.std.proofs.Common.{ap, sym, ◌∙◌, arith, rules}
use Rattle.facts.specs.Storage.{operands_in}
use Rattle.kc.specs.Storage.{kc_in}
use Rattle.lengths.specs.Storage.{lengths_in}
use Rattle.slice.specs.Sliced.{Pass, pass}
use Rattle.slice.proofs.Passes.{passed_next, passed_more, passed_end}
use Rattle.slice.proofs.slice_block.Goals as goal

pub loop-k-preserved : goal.loop-k-preserved
loop-k-preserved c =
    let a = c.args in
    let v = c.loop-k in
    let i = v.invariant in
    let kc = kc_in a.kc.now in
    let ops = operands_in a.operands.now in
    let e = c.slice_record-any.ensures in
    record {
      is = λ h.
          let room = e.known (omega (arith, i.count, i.long, i.size, e.keeps.long)) in
          let next = passed_next kc ops v.k v.code v.any (lengths_in v.known) e.code e.any room in
          passed_more kc ops v.k c.min-k-end.result (pass v.code v.any v.known) c.loop-k-test.true next
          ∙ i.is (rw (sym e.keeps.long) h);
      count = omega (arith, e.keeps.count, i.count);
      long = e.keeps.long ∙ i.long;
      size = search rules;
    }

pub returns-clause-is : goal.returns-clause-is
returns-clause-is c = λ h.
    let a = c.args in
    let v = c.loop-k in
    let is = sym (passed_end (kc_in a.kc.now) (operands_in a.operands.now) v.k c.min-k-end.result (pass v.code v.any v.known) c.loop-k-test.false)
    ∙ v.invariant.is (rw v.invariant.long h) in
    record { code = ap (λ (s : Pass). s.code) is; any = ap (λ (s : Pass). s.any) is }
