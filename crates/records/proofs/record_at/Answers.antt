use mathlib.Core.Path.{◌≡◌, ◌∙◌, sym}
use Rattle.records.specs.declared.Record.{Record}
use Rattle.records.specs.Record.{blank}
use Rattle.records.proofs.Laws.{record_at_lem, record_past}
use borrow.Author.Rules.{rules}
use Rattle.records.proofs.record_at.Goals as goal

zeros : (r : Record)
    → (r.class ≡ 0) × ((r.kind ≡ 0) × ((r.op ≡ 0) × ((r.zero ≡ 0) × ((r.stmt ≡ 0) × ((r.p1 ≡ 0) × ((r.p2 ≡ 0)
    × ((r.p3 ≡ 0) × ((r.p4 ≡ 0) × ((r.p5 ≡ 0) × (r.p6 ≡ 0))))))))))
    → r ≡ blank
zeros r h =
    let e : record {
      class = r.class;
      kind = r.kind;
      op = r.op;
      zero = r.zero;
      stmt = r.stmt;
      p1 = r.p1;
      p2 = r.p2;
      p3 = r.p3;
      p4 = r.p4;
      p5 = r.p5;
      p6 = r.p6;
    } ≡ blank = cc in e

pub returns-then-k-b : goal.returns-then-k-b
returns-then-k-b c = c.record_in.ensures ∙ sym (record_at_lem _ _ (search rules))

pub returns-else-k-b : goal.returns-else-k-b
returns-else-k-b c = zeros _ c.default.ensures ∙ sym (record_past _ _ (search rules))
