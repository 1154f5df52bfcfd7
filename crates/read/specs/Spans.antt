-- Work definitions, only for contracts between functions: the records of a span, and the spans of a file's classes.
use Rattle.std.specs.Prelude.{ℕ, List, ◌≡◌, length}
use Rattle.records.specs.declared.Record.{Record}
use Rattle.records.specs.Record.{records_of}
use Rattle.layout.specs.Classes.{of_class, before}
use Rattle.read.specs.declared.span.Span.{Span}
use Rattle.read.specs.Work.{part}

-- the records of a span
abbrev pub spanned : Span → List Record
spanned s = part s.first s.count (records_of s.b.now)

-- the span that a class of a file fills
pub record OfClass (c : ℕ) (rs : List Record) (s : Span) : Type 0 where
  pub first : s.first ≡ before c rs
  pub count : s.count ≡ length (of_class c rs)
  pub spanned : spanned s ≡ of_class c rs
