-- A work definition, only for contracts between functions: the valid records of one class.
use Rattle.std.specs.Prelude.{ℕ, Bool, ◌&&◌, eqb}
use Rattle.records.specs.declared.Record.{Record}
use Rattle.records.specs.Kinds.{right}

abbrev pub right_of : ℕ → Record → Bool
right_of c r = eqb r.class c && right r
