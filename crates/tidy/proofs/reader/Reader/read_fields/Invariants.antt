use Rattle.std.proofs.Common.{◌≡◌, drop}
use Rattle.roles.specs.Roles.{numbers_of}
use Rattle.tidy.specs.Work.Reader.{read_all}
use Rattle.tidy.proofs.reader.Reader.read_fields.Given as goal

abbrev pub invariant-loop-r : goal.invariant-loop-r
invariant-loop-r l = read_all l.self (drop l.r-index (numbers_of l.fields)) ≡ read_all l.initial.self (numbers_of l.fields)
