use Rattle.std.proofs.Common.{ℕ, ap, sym, ◌∙◌, ◌≡◌, length, get_or, min, take, drop, length-take, length-drop, arith}
use Rattle.facts.specs.Storage.{operands_in}
use Rattle.count_facts.proofs.Laws.{operands-length, part_at}
use Rattle.slice.proofs.Parts.{no_parts, some_parts}
use Rattle.slice.proofs.noted.parts_of.Goals as goal

pub returns-then-min-ne3 : goal.returns-then-min-ne3
returns-then-min-ne3 c =
    let b = c.args.operands.now in
    let x = c.args.list in
    let long = length-take x.len (drop x.start (operands_in b)) ∙ ap (min x.len) (length-drop x.start (operands_in b)) in
    let n = operands-length b in
    no_parts (take x.len (drop x.start (operands_in b))) (λ e. c.if-min-ne3.true (omega arith))

pub returns : goal.returns
returns c =
    let b = c.args.operands.now in
    let x = c.args.list in
    let ops = operands_in b in
    let n = operands-length b in
    let long : length (take x.len (drop x.start ops)) ≡ 3 =
    length-take x.len (drop x.start ops) ∙ ap (min x.len) (length-drop x.start ops) ∙ omega arith in
    some_parts (take x.len (drop x.start ops)) long
    (c.operand_at.ensures ∙ ap (λ (n : ℕ). get_or ops n 0) (omega arith) ∙ sym (part_at ops x.start x.len 0 (omega arith)))
    (c.operand_at-2.ensures ∙ sym (part_at ops x.start x.len 1 (omega arith)))
    (c.operand_at-3.ensures ∙ sym (part_at ops x.start x.len 2 (omega arith)))
