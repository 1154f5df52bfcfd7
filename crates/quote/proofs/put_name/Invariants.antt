use Rattle.std.proofs.Common.{List, ℕ, ◌++◌, ◌≡◌}
use Rattle.std.specs.Str.Chunks.{utf8_chunks_rest}
use Rattle.quote.specs.Quote.{Quoted}
use Rattle.quote.proofs.put_name.Given as goal

-- some of the name was put, and the rest is to come
abbrev pub invariant-loop-chunk : goal.invariant-loop-chunk
invariant-loop-chunk l = (done : List ℕ) × (l.name ≡ done ++ utf8_chunks_rest l.chunk-iterator) × Quoted l.fn.line done l.line
