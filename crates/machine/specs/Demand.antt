-- Demand 3, "one claim about the two whole runs, as sent and as shortened": the shortened form's whole run does the original's
-- acts, in order, with their values and statements, within the original's instruction count plus the rescued constants for each
-- entry into block 0; it does no other act; it ends if and only if the original does, and in the same way.
use Rattle.std.specs.Prelude.{ℕ, ◌+◌, ◌*◌, ◌≤◌, ◌<◌, ◌≡◌, length}
use Rattle.procedure.specs.Procedure.{Procedure}
use Rattle.machine.specs.Machine.{Regs, Address, Outside, Shown, shown, start, run, entered, into_zero}
use Rattle.machine.specs.Single.{Loaded}

-- "Both runs start with registers singly written by Const, ConstF or AddrOf in the original already loaded: these are its single
-- constants. The original's other registers start with any words, the same in both; new numbers start with anything."
pub record Starts (address : Address) (p : Procedure) (g g' : Regs) : Type 0 where
  pub loaded : Loaded address p g
  pub loaded' : Loaded address p g'
  pub same : (r : ℕ) → r < length p.registers → g r ≡ g' r

module _ (outside : Outside) (address : Address) (p : Procedure) (block : ℕ) (g : Regs) where
  -- the acts done and the end, if any, after the first N instructions of the run from a block
  abbrev pub shows : ℕ → Shown
  shows N = shown (run outside address p N (start outside address p block g))

  -- the entries into block 0 among them, a start there included
  abbrev pub entries : ℕ → ℕ
  entries N = into_zero block + entered outside address p N (start outside address p block g)

-- Two whole runs, each by what it shows after its first instructions.
pub record Alike (bound : ℕ → ℕ) (original shortened : ℕ → Shown) : Type 0 where
  -- it does the original's acts, in order, with values and statements, within the bound, and ends alike if the original ends
  pub there : (N : ℕ) → (M : ℕ) × (M ≤ bound N) × (shortened M ≡ original N)
  -- it does no other act, and ends only if the original does, and in the same way
  pub back : (M : ℕ) → (N : ℕ) × (shortened M ≡ original N)

-- The runs of p and q from one block. The bound is made of the original's instructions and its entries into block 0.
-- "It may be any such rule, the same for both runs."
abbrev pub AlikeFrom : ℕ → (ℕ → ℕ → ℕ) → Procedure → Procedure → Type 0
AlikeFrom block bound p q =
    (outside : Outside) (address : Address) (g g' : Regs) → Starts address p g g'
    → Alike (λ N. bound N (entries outside address p block g N)) (shows outside address p block g) (shows outside address q block g')

-- within the original's instruction count plus the rescued constants for each entry into block 0
abbrev pub Demand3 : Procedure → Procedure → ℕ → Type 0
Demand3 p q rescued = AlikeFrom 0 (λ N entries. N + rescued * entries) p q
