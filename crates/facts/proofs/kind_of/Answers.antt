use Rattle.std.proofs.Common.{◌∙◌, sym, ap, arith, min, Some}
use Rattle.std.proofs.lemmas.Option.{slice_get_past, slice_get-get_or}
use Rattle.facts.specs.Storage.{kinds_in}
use Rattle.facts.proofs.Rows.{kinds-at, kinds-length, cell_in}
use Rattle.facts.proofs.kind_of.Goals as goal

pub returns-then-registers-k : goal.returns-then-registers-k
returns-then-registers-k c =
    let e = c.registers.ensures in
    sym (slice_get_past (kinds_in c.args.table.now) c.args.r.0 (omega arith))

pub bounds-table-k : goal.bounds-table-k
bounds-table-k c = let e = c.registers.ensures in let f = kinds-length c.args.table.now in omega arith

pub returns : goal.returns
returns c =
    let t = c.args.table.now in
    let r = c.args.r.0 in
    let e = c.registers.ensures in
    let f = kinds-length t in
    ap Some (c.min.ensures ∙ sym (kinds-at t r ∙ ap (min 5) (cell_in t r 0 5 (omega arith)) ∙ omega arith))
    ∙ sym (slice_get-get_or (kinds_in t) r 5 (omega arith))
