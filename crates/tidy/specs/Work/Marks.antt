-- The targets of the blocks as a table, and the marks of the blocks that one leads to.
use Rattle.std.specs.Prelude.{ℕ, ◌<◌, ◌≡◌, List, [], ◌∷◌, map, Bool, Option, IfSome, length, get_or}
use Rattle.records.specs.declared.Record.{Record}
use Rattle.layout.specs.declared.Layout.{Layout}
use Rattle.ends.specs.Ends.{end_of, targets}
use Rattle.paths.specs.Paths.{reached_from}
use Rattle.tidy.specs.declared.targets.Targets.{Targets}
use Rattle.tidy.specs.Work.Parts.{blocks_in}

abbrev pub both : Targets → List ℕ
both t = t.one.0 ∷ t.two.0 ∷ []

-- two numbers for each block: its targets, 160 if there is none
unfoldable pub edges_in : List Targets → List (List ℕ)
edges_in ts = map both ts

abbrev pub nowhere : Targets
nowhere = record { one = record { 0 = 160 }; two = record { 0 = 160 } }

abbrev pub Pair : List ℕ → Targets → Type 0
Pair [] t = (t.one.0 ≡ 160) × (t.two.0 ≡ 160)
Pair (x ∷ []) t = (t.one.0 ≡ x) × (t.two.0 ≡ 160)
Pair (x ∷ y ∷ []) t = (t.one.0 ≡ x) × (t.two.0 ≡ y)
Pair (x ∷ y ∷ z ∷ xs) t = ⊥

-- block a of a table has these targets
abbrev pub PairAt : List ℕ → List Targets → ℕ → Type 0
PairAt es ts a = Pair es (get_or ts a nowhere)

-- the targets of each block of a file
abbrev pub targets_at : List Record → Layout → ℕ → List ℕ
targets_at rs l a = targets (end_of (get_or (blocks_in rs l) a []))

pub record TargetsIn (rs : List Record) (l : Layout) (ts : List Targets) : Type 0 where
  pub size : length ts ≡ 160
  pub each : (a : ℕ) → a < 160 → PairAt (targets_at rs l a) ts a

-- a block and the marks of the blocks that it leads to
pub record Leading : Type 0 where
  pub block : ℕ
  pub marks : List Bool

abbrev pub leading : List (List ℕ) → ℕ → Leading
leading es b = record { block = b; marks = reached_from es b }

-- its marks: none until they are needed
pub record Kept (ts : List Targets) (block : ℕ) (marks : Option (List Bool)) : Type 0 where
  pub low : block < 160
  pub size : length ts ≡ 160
  pub asked : IfSome marks (λ m. m ≡ reached_from (edges_in ts) block)
