-- The answer that a result of Tidy tells.
use Rattle.std.specs.Prelude.{Option, Some, None, Result, Ok, Err}
use Rattle.inst.specs.declared.Reg.{Reg}
use Rattle.read.specs.declared.Refusal.{Refusal}
use Rattle.read.specs.Refusal.{number_of}
use Rattle.tidy.specs.Tidy.{Tidiness, told}

abbrev pub tidiness_of : Result (Option Reg) Refusal → Tidiness
tidiness_of (Ok None) = told 0 0 1 0
tidiness_of (Ok (Some r)) = told 0 0 0 r.0
tidiness_of (Err e) = told (number_of e.reason) e.place 0 0
