-- The forms of a file by number, for tests that look at `run` stage by stage.
use Rattle.std.specs.Prelude.{ℕ, ◌/◌, List, length, Bool, true, false, ◌||◌, cond, eqb, ltb}
use Rattle.records.specs.Record.{records_of}
use Rattle.read.specs.Reading.{reading}
use Rattle.procedure.specs.Procedure.{procedure_of}
use Rattle.steps.specs.Run.{unchanged, threaded_form}
use Rattle.steps.specs.Shorten.{Answer, Outcome, refusal, shortened, above, shorten}
use Rattle.procedure_parts.specs.Opened.{Parts}
use Rattle.bench_c.specs.declared.HalivomueForm.{HalivomueForm}

abbrev pub answer_of : HalivomueForm → Answer
answer_of z = record {
  number = z.number;
  place = z.place;
  length = z.length;
  moved = z.moved;
  grown = z.grown;
  fresh = z.fresh;
  rescued = z.rescued;
}

-- what is written for an accepted file; Read's refusal of any other
abbrev pub if_read : Bool → List ℕ → List ℕ → Outcome → Outcome
if_read true b out written = written
if_read false b out written = refusal (reading b).number (reading b).place out

abbrev pub where_read : List ℕ → List ℕ → Outcome → Outcome
where_read b out written = if_read (eqb (reading b).number 0) b out written

-- 0: as sent
abbrev pub sent : List ℕ → List ℕ → Outcome
sent b out = where_read b out (shortened (unchanged (procedure_of (records_of b))) out)

-- 1: the threaded form, of a file within the shortening limits
abbrev pub threaded : List ℕ → List ℕ → Outcome
threaded b out =
    where_read b out (cond (above 480 480 (records_of b)) (refusal 8 0 out) (shortened (threaded_form (procedure_of (records_of b))) out))

-- the limits, asked of the parts
abbrev pub above_in : Parts → Bool
above_in x = ltb 480 (length x.registers / 32) || ltb 480 (length x.code / 32)

-- 2: the sliced form, which is Shorten's own
abbrev pub sliced : List ℕ → List ℕ → Outcome
sliced b out = shorten b out

-- 10: no such form
abbrev pub form_of : ℕ → List ℕ → List ℕ → Outcome
form_of which b out = cond (eqb which 0) (sent b out) (cond (eqb which 1) (threaded b out) (cond (eqb which 2) (sliced b out) (refusal 10 0 out)))
