use Rattle.std.proofs.Common.{refl}
use Rattle.line.specs.Line.{Added}
use Rattle.line.proofs.Laws.{added, added-numbered, both}
use Rattle.reasons.proofs.put_reason.Goals as goal
use Rattle.reasons.proofs.put_reason.Goals.{then-is_of_record, else-is_of_record}

pub returns : goal.returns
returns c =
    let words = added c.put.ensures c.words_of.ensures in
    elim c.if-is_of_record.branch [
      | then-is_of_record w ↦
          let place : Added c.args.line.now c.if-is_of_record.line = rw w.line-is (added-numbered w.put_numbered.ensures refl) in both place words
      | else-is_of_record w ↦ rw w.line-is at words
    ]
