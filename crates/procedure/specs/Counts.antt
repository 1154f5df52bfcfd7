-- Document 01, "Gate": "Definitions (saturating at 255) and uses are counted then."
use Rattle.std.specs.Prelude.{ℕ, ◌+◌, min, List, [], ◌∷◌, Bool, eqb}
use Rattle.inst.specs.declared.Code.{Code}
use Rattle.roles.specs.Roles.{defs_of, reads_of}
use Rattle.procedure.specs.Lists.{times}

-- how many fields of some code write a register
unfoldable pub writes_in : List Code → ℕ → ℕ
writes_in [] r = 0
writes_in (x ∷ c) r = times r (defs_of x.inst) + writes_in c r

-- `counts`: "Definitions (saturating at 255)"
abbrev pub def_count : List Code → ℕ → ℕ
def_count c r = min 255 (writes_in c r)

-- "singly written"
abbrev pub singly : List Code → ℕ → Bool
singly c r = eqb (def_count c r) 1

-- `counts`: "uses"; "list operands are read too"
unfoldable pub use_count : List ℕ → List Code → ℕ → ℕ
use_count ops [] r = 0
use_count ops (x ∷ c) r = times r (reads_of ops x.inst) + use_count ops c r
