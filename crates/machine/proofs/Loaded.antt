-- Any registers can be had with the single constants loaded; the other registers keep their words.
use Prim.Native.Nat.{ℕ}
use mathlib.Core.Path.{◌≡◌}
use Rattle.std.proofs.Common.{None}
use Rattle.procedure.specs.Procedure.{Procedure}
use Rattle.machine.specs.Machine.{Regs, Address}
use Rattle.machine.specs.Single.{single, Loaded, load}

module _ (address : Address) (p : Procedure) (g : Regs) where
  pub load_loads : Loaded address p (load address p g)
  load_loads r v e = rw e

  pub load_keeps : (r : ℕ) → single address p r ≡ None → load address p g r ≡ g r
  load_keeps r e = rw e
