use mathlib.Core.Path.{sym}
use lib.Seq.{set_out}
use Rattle.kc.specs.declared.Kc.TheVariants.{Unwritten}
use Rattle.kc.specs.Storage.{marked, written}
use Rattle.kc.proofs.write.Goals as goal

pub returns-else-at-table : goal.returns-else-at-table
unfolding written
returns-else-at-table c =
    let a = c.args in
    sym (set_out a.table.now a.r.0 (marked (lib.ListN.get_or a.table.now a.r.0 Unwritten) a.k) c.if-at-table.false)
