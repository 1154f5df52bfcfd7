use Rattle.std.proofs.Common.{ap, ◌∙◌, ℕ, rules}
use lib.Dec.{ltb}
use Rattle.records.specs.Record.{records_of}
use Rattle.parts.specs.Parts.{start_at}
use Rattle.parts.proofs.start_of.Goals as goal

pub returns : goal.returns
returns c =
    c.run_end.ensures (λ r. ltb r.class c.from-number.result) (λ r t q. search rules)
    ∙ ap (λ (m : ℕ). start_at m c.args.first (records_of c.args.b.now)) c.from-number.ensures
