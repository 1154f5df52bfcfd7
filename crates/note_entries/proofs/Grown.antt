-- Entries that grow in steps.
use Rattle.std.proofs.Common.{ℕ, ◌+◌, refl, ◌∙◌, arith}
use Rattle.note_entries.specs.declared.entries.Entries.{Entries}
use Rattle.note_entries.specs.declared.Known.{Known}
use Rattle.note_entries.specs.Storage.{Keeps, Grows}

pub keeps-none : {W : Type 0} (e : Entries W) → Keeps 0 e e
keeps-none e = record { same = refl; count = omega arith; long = refl }

pub keeps_more : {W : Type 0} {m n : ℕ} {y z e : Entries W} → Keeps m y z → Keeps n z e → Keeps (n + m) y e
keeps_more p q = record { same = p.same ∙ q.same; count = omega arith; long = p.long ∙ q.long }

pub grows-none : (k : Known) → Grows 0 0 k k
grows-none k = record { values = keeps-none k.values; copies = keeps-none k.copies }

pub grows_more : {m n i j : ℕ} {y z k : Known} → Grows m n y z → Grows i j z k → Grows (i + m) (j + n) y k
grows_more p q = record { values = keeps_more p.values q.values; copies = keeps_more p.copies q.copies }
