use Rattle.std.proofs.Common.{List, ℕ, ◌++◌, ◌≡◌}
use Rattle.std.specs.Str.Iter.{chars_rest}
use Rattle.quote.specs.Quote.{Quoted}
use Rattle.quote.proofs.put_text.Given as goal

-- some of the text was put, and the rest is to come
abbrev pub invariant-loop-c : goal.invariant-loop-c
invariant-loop-c l = (done : List ℕ) × (l.text ≡ done ++ chars_rest l.c-iterator) × Quoted l.fn.line done l.line
