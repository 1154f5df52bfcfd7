use Rattle.std.proofs.Common.{◌≡◌, ℕ, ◌+◌, List, length, take, ◌∙◌, rules}
use Rattle.std.proofs.lemmas.Iterator.{YieldsList-from_range}
use Rattle.std.proofs.lemmas.Iterator.Search.{YieldsList-from_take_while}
use Rattle.std.proofs.lemmas.Iterator.Consumers.{count_from_yields_List}
use Rattle.std.proofs.lemmas.List.Folds.{length-prefix_len}
use Rattle.std.specs.List.{prefix_len, range_with_len}
use native.Mathlib.Omega.{arith}
use mathlib.Core.Bool.{not}
use Rattle.records.specs.Record.{record_at}
use Rattle.records.proofs.Laws.{length_records}
use Rattle.layout.proofs.Walks.{run_range}
use Rattle.read.specs.Structure.{terminator}
use Rattle.read.proofs.blocks.first_terminator.Goals as goal

pub overflow_add-end : goal.overflow_add-end
overflow_add-end c = let s = c.args.code in omega (arith, s.within, s.few)

pub returns : goal.returns
returns c =
    let s = c.args.code in
    let b = s.b.now in
    let first = s.first in
    let n = s.count in
    let test = λ (k : ℕ). not (terminator (record_at b k)) in
    let ks : List ℕ = range_with_len first n in
    let run : c.count.result ≡ length (take (prefix_len test ks) ks) =
    count_from_yields_List _ _ c.count.ensures.ran
    (YieldsList-from_take_while _ test (YieldsList-from_range first (first + n) n c.take_while-run.ensures.source (omega arith))
    c.take_while-run.ensures.closure c.take_while-run.ensures.done (λ x t q h. search rules)) in
    run ∙ length-prefix_len test ks ∙ run_range (λ r. not (terminator r)) b first n (omega (arith, s.within, length_records b))
