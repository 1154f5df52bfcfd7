-- Document 01, "Operations": "Shorten. The same seven; 8 above the shortening limits; 9 output shorter than the result, record 0 for both."
use Rattle.std.specs.Prelude.{ℕ, List, ◌++◌, Bool, true, false, ◌||◌, eqb, ltb, length, drop}
use Rattle.records.specs.declared.Record.{Record}
use Rattle.records.specs.Record.{records_of}
use Rattle.layout.specs.Classes.{of_class}
use Rattle.read.specs.Reading.{Reading, reading}
use Rattle.procedure.specs.Procedure.{procedure_of}
use Rattle.word.specs.Word.{bit}
use Rattle.steps.specs.Run.{Shortened, run}
use Rattle.steps.specs.Write.{records_for, bytes_of}

-- number is 0 on success; on a refusal, place is the offending record; length is in bytes
pub record Answer : Type 0 where
  pub number : ℕ
  pub place : ℕ
  pub length : ℕ
  pub moved : ℕ
  pub grown : ℕ
  pub fresh : ℕ
  pub rescued : ℕ

-- the answer, and the output buffer at exit
pub record Outcome : Type 0 where
  pub answer : Answer
  pub output : List ℕ

-- "A refusal gives zero counts and alters no output byte."
abbrev pub refused : ℕ → ℕ → Answer
refused number place = record { number = number; place = place; length = 0; moved = 0; grown = 0; fresh = 0; rescued = 0 }

abbrev pub refusal : ℕ → ℕ → List ℕ → Outcome
refusal number place out = record { answer = refused number place; output = out }

-- "Success gives the byte length and leaves bytes past it."
abbrev pub success : Shortened → List ℕ → List ℕ → Outcome
success s b out = record {
  answer = record {
    number = 0;
    place = 0;
    length = length b;
    moved = bit s.moved;
    grown = s.grown;
    fresh = s.fresh;
    rescued = s.rescued;
  };
  output = b ++ drop (length b) out;
}

-- 9 "output shorter than the result"
abbrev pub fit_if : Bool → Shortened → List ℕ → List ℕ → Outcome
fit_if true s b out = refusal 9 0 out
fit_if false s b out = success s b out

abbrev pub fit : Shortened → List ℕ → List ℕ → Outcome
fit s b out = fit_if (ltb (length out) (length b)) s b out

abbrev pub shortened : Shortened → List ℕ → Outcome
shortened s out = fit s (bytes_of (records_for s.procedure)) out

-- 8 "above the shortening limits"
abbrev pub above : ℕ → ℕ → List Record → Bool
above registers code rs = ltb registers (length (of_class 1 rs)) || ltb code (length (of_class 4 rs))

abbrev pub run_unless : Bool → List Record → List ℕ → Outcome
run_unless true rs out = refusal 8 0 out
run_unless false rs out = shortened (run (procedure_of rs)) out

-- "The same seven"
abbrev pub accept_if : Bool → Reading → ℕ → ℕ → List Record → List ℕ → Outcome
accept_if true r registers code rs out = run_unless (above registers code rs) rs out
accept_if false r registers code rs out = refusal r.number r.place out

abbrev pub accept : Reading → ℕ → ℕ → List ℕ → List ℕ → Outcome
accept r registers code b out = accept_if (eqb r.number 0) r registers code (records_of b) out

-- with limits for registers and instructions, from a file's bytes and the output buffer at entry
unfoldable pub shorten_within : ℕ → ℕ → List ℕ → List ℕ → Outcome
shorten_within registers code b out = accept (reading b) registers code b out

-- "Shortening: 480 registers, 480 instructions."
abbrev pub shorten : List ℕ → List ℕ → Outcome
shorten b out = shorten_within 480 480 b out

-- "Output has at most n + n/2 + 36 instructions.": how many a file has
abbrev pub instructions : List ℕ → ℕ
instructions b = length (of_class 4 (records_of b))
