-- The answer that a result of Shorten tells.
use Rattle.std.specs.Prelude.{Result, Ok, Err}
use Rattle.read.specs.declared.Refusal.{Refusal}
use Rattle.read.specs.Refusal.{number_of}
use Rattle.word.specs.Word.{bit}
use Rattle.steps.specs.declared.Shortening.{Shortening}
use Rattle.steps.specs.Shorten.{Answer, refused}

abbrev pub told : Result Shortening Refusal → Answer
told (Ok s) = record {
  number = 0;
  place = 0;
  length = s.length;
  moved = bit s.moved;
  grown = s.grown;
  fresh = s.fresh;
  rescued = s.rescued;
}
told (Err e) = refused (number_of e.reason) e.place
