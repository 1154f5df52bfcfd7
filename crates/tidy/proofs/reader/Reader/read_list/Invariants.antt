use Rattle.std.proofs.Common.{◌≡◌, ◌-◌, drop}
use Rattle.records.specs.Record.{records_of}
use Rattle.roles.specs.Roles.{operands_of}
use Rattle.tidy.specs.Work.Parts.{operands_in}
use Rattle.tidy.specs.Work.Reader.{read_all}
use Rattle.tidy.proofs.reader.Reader.read_list.Given as goal

abbrev pub invariant-loop-k : goal.invariant-loop-k
invariant-loop-k l =
    let rs = operands_of (operands_in (records_of l.f.b.now) l.f.l) l.fn.list in
    read_all l.self (drop (l.k - l.start) rs) ≡ read_all l.initial.self rs
