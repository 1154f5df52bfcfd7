-- The instruction that is read from a record stands at its place in the code.
use Prim.Native.Nat.{ℕ}
use mathlib.Core.Path.{◌≡◌, sym, ap, ◌∙◌}
use mathlib.Core.List.{List}
use lib.ListN.{get_or, get_or-map}
use Rattle.records.specs.declared.Record.{Record}
use Rattle.records.specs.Record.{records_of, record_at, blank}
use Rattle.inst.specs.declared.Inst.{Inst}
use Rattle.inst.specs.declared.Code.{Code}
use Rattle.codec.specs.Codec.{inst_of, code_of}
use Rattle.procedure.specs.Procedure.{codes_of}

pub inst-at : (b : List ℕ) (k : ℕ) {r : Record} {x : Inst} → r ≡ record_at b k → x ≡ inst_of r → x ≡ (get_or (codes_of b) k (code_of blank)).inst
inst-at b k e f = f ∙ ap inst_of e ∙ sym (ap (λ (y : Code). y.inst) (get_or-map code_of (records_of b) k blank))
