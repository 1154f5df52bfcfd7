-- Demand 3 for files: the procedure in the bytes sent, the one in the bytes that Shorten writes, and the answer's rescued.
use Rattle.std.specs.Prelude.{ℕ, ◌≡◌, List, false, take}
use Rattle.records.specs.Record.{records_of}
use Rattle.procedure.specs.Procedure.{Procedure, procedure_of}
use Rattle.tidy.specs.Tidy.{Tidy}
use Rattle.steps.specs.Slice.{some_test}
use Rattle.steps.specs.Run.{sliced_form}
use Rattle.steps.specs.Shorten.{shorten}
use Rattle.machine.specs.Demand.{Demand3}
use Rattle.demand.specs.Lengths.{Demand3Where}

-- the procedure that some bytes hold
abbrev pub held : List ℕ → Procedure
held b = procedure_of (records_of b)

-- for a file's bytes and the output buffer at entry: if Shorten accepts the file and its procedure is tidy, the shortened
-- form's whole run does what the original's does, where the lengths that rewritten Cmps used to test are exact; and
-- without such a condition where no Cmp is rewritten
abbrev pub Promise : List ℕ → List ℕ → Type 0
Promise b out =
    let r = shorten b out in
    let p = held b in
    let q = held (take r.answer.length r.output) in
    r.answer.number ≡ 0 → Tidy p
    → Demand3Where p (sliced_form p) q r.answer.rescued × (some_test (sliced_form p).tests ≡ false → Demand3 p q r.answer.rescued)
