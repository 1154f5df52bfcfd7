-- Demand 3 for each stage of the steps, and for a start at any block that the shortened form reaches.
use Rattle.std.specs.Prelude.{ℕ, ◌+◌, ◌*◌, ◌≤◌, ◌<◌, ◌≡◌, Some}
use Rattle.procedure.specs.Procedure.{Procedure}
use Rattle.paths.specs.Paths.{Leads}
use Rattle.steps.specs.Emit.{edges_of}
use Rattle.steps.specs.Run.{Shortened, Sliced}
use Rattle.machine.specs.Machine.{Regs, Address, Outside, Shown}
use Rattle.machine.specs.Demand.{Starts, AlikeFrom, shows, entries}
use Rattle.demand.specs.Lengths.{Measured}

-- block b is reached from block 0, over Br, CondBr and arms
abbrev pub Reaches : Procedure → ℕ → Type 0
Reaches q b = Leads (edges_of q.tables q.blocks) 0 b

-- what a stage leaves runs as the original does, from any block that it reaches, within the original's instruction count plus
-- the rescued constants for each entry into block 0
abbrev pub Kept : Procedure → Shortened → Type 0
Kept p s = (b : ℕ) → Reaches s.procedure b → AlikeFrom b (λ N entries. N + s.rescued * entries) p s.procedure

-- two runs that are alike as far as something holds at each of the second's instructions before
pub record AlikeWhile (holds : ℕ → Type 0) (bound : ℕ → ℕ) (original shortened : ℕ → Shown) : Type 0 where
  pub there : (N : ℕ) → ((i : ℕ) → i < bound N → holds i) → (M : ℕ) × (M ≤ bound N) × (shortened M ≡ original N)
  pub back : (M : ℕ) → ((i : ℕ) → i < M → holds i) → (N : ℕ) × (shortened M ≡ original N)

-- the registers that `slice_tests` takes for the constant 0 hold it
abbrev pub Zeroed : Sliced → Regs → Type 0
Zeroed s g = (r : ℕ) → s.taken r ≡ Some 0 → g r ≡ 0

-- the sliced form runs as the original does, from any block that the threaded form reaches, as long as the lengths are exact; of the
-- registers taken for constants only those taken for 0 are loaded, and only in its own run
abbrev pub KeptWhile : Procedure → Shortened → Sliced → Type 0
KeptWhile p threaded s =
    (b : ℕ) → Reaches threaded.procedure b
    → (outside : Outside) (address : Address) (g g' : Regs) → Starts address p g g' → Zeroed s g'
    → AlikeWhile (Measured outside address s b g') (λ N. N + s.form.rescued * entries outside address p b g N)
    (shows outside address p b g) (shows outside address s.form.procedure b g')
