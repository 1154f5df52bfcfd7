use Rattle.std.proofs.Common.{◌≡◌, ℕ, List, take, min, subst}
use Rattle.inst.specs.declared.Code.{Code}
use Rattle.procedure.specs.Procedure.{codes_of}
use Rattle.ends.proofs.Laws.{length_codes}
use Rattle.copy.specs.Storage.{CopyOf}
use Rattle.copy.proofs.Laws.{four_first}
use Rattle.copy.proofs.copy_of.Goals as goal

pub returns : goal.returns
returns c =
    let a = c.args in
    let b = codes_of a.code.now in
    let n = length_codes a.code.now in
    let four : take c.min-n.result c.taken-first.result ≡ take 4 b =
    rw (c.min-n.ensures, c.taken-first.ensures, ← n) (four_first b) in
    subst (λ (l : List Code). CopyOf a.facts.now l (min a.m.0 65535) c.copied.result) four
    (subst (λ (m : ℕ). CopyOf a.facts.now (take c.min-n.result c.taken-first.result) m c.copied.result) c.min.ensures c.copied.ensures)
