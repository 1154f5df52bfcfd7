use Rattle.std.proofs.Common.{ap, sym, ◌∙◌, arith, rules}
use Rattle.facts.specs.Storage.{operands_in}
use Rattle.kc.specs.Storage.{kc_in}
use Rattle.slice.specs.Sliced.{Pass, passed_block}
use Rattle.slice.proofs.Passes.{blocks_next, blocks_end}
use Rattle.slice.proofs.slice_tests.Goals as goal

pub loop-b-preserved : goal.loop-b-preserved
loop-b-preserved c =
    let a = c.args in
    let v = c.loop-b in
    let i = v.invariant in
    record {
      is = λ h.
          let d = c.slice_block-any.ensures.is (omega (arith, i.long, i.size)) in
          let r = ap (λ r. passed_block (kc_in a.kc.now) (operands_in a.operands.now) r v.code) c.record_at.ensures in
          blocks_next (kc_in a.kc.now) (operands_in a.operands.now) a.heads.now v.b v.code v.any c.loop-b-test.true
          (d.code ∙ ap (λ (s : Pass). s.code) r) (d.any ∙ ap (λ (s : Pass). s.any) r)
          ∙ i.is h;
      long = c.slice_block-any.ensures.long ∙ i.long;
      size = search rules;
    }

pub returns : goal.returns
returns c = λ h.
    let a = c.args in
    let v = c.loop-b in
    let is = sym (blocks_end (kc_in a.kc.now) (operands_in a.operands.now) a.heads.now v.b _ c.loop-b-test.false) ∙ v.invariant.is h in
    record { code = ap (λ (s : Pass). s.code) is; any = ap (λ (s : Pass). s.any) is }
