use Rattle.std.proofs.Common.{◌∙◌, sym, arith, length-set}
use Rattle.std.proofs.lemmas.List.{get_or_default}
use Rattle.std.proofs.lemmas.List.Filters.{FiltersInPlace-more_set, FiltersInPlace-more_no}
use Rattle.lengths.proofs.Lengths.retain.Goals.{then-kept, else-kept}
use Rattle.lengths.proofs.Lengths.retain.Goals as goal

pub loop-k-preserved : goal.loop-k-preserved
loop-k-preserved g c =
    let v = c.loop-k.invariant in
    let rows = c.loop-k.self.rows.now in
    elim c.if-kept.branch [
      | then-kept w ↦
          rw (w.self-is, w.z-is)
          (record {
            packed = λ p h. FiltersInPlace-more_set (v.packed p h) (omega arith) (sym (h _ c.kept.result c.kept.ensures) ∙ w.if-kept.true)
                (get_or_default rows c.loop-k.k _ _ (omega arith));
            behind = omega arith;
            within = simp length-set v.within;
          })
      | else-kept w ↦
          rw (w.self-is, w.z-is)
          (record {
            packed = λ p h. FiltersInPlace-more_no (v.packed p h) (omega arith) (sym (h _ c.kept.result c.kept.ensures) ∙ w.if-kept.false)
                (get_or_default rows c.loop-k.k _ _ (omega arith));
            behind = omega arith;
            within = v.within;
          })
    ]
