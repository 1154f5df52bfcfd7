-- How many bytes the parts of an opened file have: a theorem for whoever lends storage, which no proof here needs.
use native.Mathlib.Omega.{arith}
use Rattle.procedure.specs.Procedure.{Procedure}
use Rattle.round_trips.proofs.ToRecords.{body-few}
use Rattle.procedure_parts.specs.Opened.{Parts, Opened, Few}
use Rattle.procedure_parts.proofs.Laws.{registers-sent}

pub opened-few : {p : Procedure} {x : Parts} → Opened p x → Few x
opened-few {p} {x} o =
    let h = o.parted in
    let w = h.well_formed in
    let c = h.coded in
    record {
      registers = let e = registers-sent h in let i = o.few-registers in omega arith;
      some_head = let e = c.heads-length in let i = w.some_block in omega arith;
      heads = let e = c.heads-length in let i = w.blocks in omega arith;
      body = let e = h.body-length in let i = body-few p.body in omega arith;
      code = let e = c.code-length in let i = o.few-code in omega arith;
      operands = let e = h.operands-length in let i = w.operands in omega arith;
      arms = let e = h.arms-length in let i = w.arms in omega arith;
    }
