-- Storage, not the paper's: what Shorten answers and writes, given the result's records and counts.
use Rattle.std.specs.Prelude.{ℕ, min, Bool, List, [], ◌++◌, map, None}
use Rattle.records.specs.declared.Record.{Record}
use Rattle.records.specs.Record.{records_of}
use Rattle.ops.specs.Ops.{reg_ty_of}
use Rattle.items.specs.Items.{register_record}
use Rattle.word.specs.Word.{bit}
use Rattle.steps.specs.Run.{Shortened}
use Rattle.steps.specs.Write.{bytes_of}
use Rattle.steps.specs.Shorten.{Answer, Outcome, fit}
use Rattle.output.specs.declared.Form.{Form}

abbrev pub outcome : Answer → List ℕ → Outcome
outcome a out = record { answer = a; output = out }

-- counts of a result: all that `fit` needs of it besides its bytes
abbrev pub counts : Bool → ℕ → ℕ → ℕ → Shortened
counts moved grown fresh rescued = record {
  procedure = record { registers = []; blocks = []; body = None; operands = []; tables = [] };
  moved = moved;
  grown = grown;
  fresh = fresh;
  rescued = rescued;
}

abbrev pub filed : List Record → Shortened → List ℕ → Outcome
filed rs s out = fit s (bytes_of rs) out

-- the answer when a number of bytes are written
abbrev pub wrote : ℕ → Shortened → Answer
wrote n s = record {
  number = 0;
  place = 0;
  length = n;
  moved = bit s.moved;
  grown = s.grown;
  fresh = s.fresh;
  rescued = s.rescued;
}

-- a count, capped at what a 32-bit field can hold
abbrev pub short : ℕ → ℕ
short n = min n 4294967295

-- the kinds of new registers as records
abbrev pub kind_records : List ℕ → List Record
kind_records kinds = map (λ k. register_record (reg_ty_of k)) kinds

-- the records of a result, by the bytes of each class and the kinds of its new registers
abbrev pub form_records : List ℕ → List ℕ → List ℕ → List ℕ → List ℕ → List ℕ → List ℕ → List Record
form_records registers kinds heads body code operands arms =
    records_of registers
    ++ (kind_records kinds ++ (records_of heads ++ (records_of body ++ (records_of code ++ (records_of operands ++ records_of arms)))))

-- the same of a form
abbrev pub records_in : Form → List Record
records_in f = form_records f.registers.now f.kinds.now f.heads.now f.body.now f.code.now f.operands.now f.arms.now
