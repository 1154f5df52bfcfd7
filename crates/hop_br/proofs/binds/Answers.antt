use mathlib.Core.Path.{refl}
use Rattle.general.proofs.Booleans.{both}
use Rattle.hop_br.proofs.binds.Goals as goal

pub returns-then-wide : goal.returns-then-wide
returns-then-wide c = both refl c.if-wide.true c.reads_konst.ensures
