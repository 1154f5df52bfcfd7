-- Document 02, 2.1: demand 3 "holds where every length that a rewritten Cmp used to test is, at that Cmp, the exact length of the bounds it
-- now compares, in their direction, null ranges zero, the lengths fitting 64 signed bits, and both runs start with the registers loaded that
-- `slice_tests` takes for constants."
use Rattle.std.specs.Prelude.{ℕ, suc, ◌+◌, ◌-◌, ◌*◌, ◌^◌, ◌<◌, ◌≡◌, List, [], Bool, true, false, cond, leb, get_or, Option, None, Some}
use Rattle.procedure.specs.Procedure.{Procedure}
use Rattle.word.specs.Word.{signed}
use Rattle.steps.specs.Slice.{Test}
use Rattle.steps.specs.Run.{Sliced}
use Rattle.machine.specs.Machine.{Regs, Address, Outside, State, at, done, start, run}
use Rattle.machine.specs.Demand.{Starts, Alike, shows, entries}
use Rattle.demand.specs.Place.{Place, place_at}

-- how many words there are from one to another in signed order, "null ranges zero"
abbrev pub span : ℕ → ℕ → ℕ
span low high = cond (leb (signed low) (signed high)) (suc (signed high - signed low)) 0

-- "the exact length of the bounds", "in their direction"
abbrev pub length_of : Bool → ℕ → ℕ → ℕ
length_of false left right = span left right
length_of true left right = span right left

-- what a test asks of the registers before the Cmp
pub record Exact (g : Regs) (t : Test) : Type 0 where
  -- "is, at that Cmp, the exact length of the bounds it now compares"
  pub exact : g t.length ≡ length_of t.bounds.down (g t.bounds.left) (g t.bounds.right)
  -- "the lengths fitting 64 signed bits"
  pub fits : length_of t.bounds.down (g t.bounds.left) (g t.bounds.right) < 2 ^ 63

-- where a run has come to
abbrev pub ExactAt : Option Test → State → Type 0
ExactAt None s = Unit {0}
ExactAt (Some t) (at c g h) = Exact g t
ExactAt (Some t) (done h e) = Unit {0}

-- the test at a place, if there is a rewritten Cmp
abbrev pub test_at : List (List (Option Test)) → Place → Option Test
test_at tests w = get_or (get_or tests w.block []) w.place None

-- where the sliced form's run from a block stands after n instructions, if that is before a rewritten Cmp
module _ (outside : Outside) (address : Address) (s : Sliced) (block : ℕ) (g : Regs) where
  abbrev pub Measured : ℕ → Type 0
  Measured n =
      let q = s.form.procedure in
      let from = start outside address q block g in
      ExactAt (test_at s.tests (place_at outside address q n from (record { block = block; place = 0 }))) (run outside address q n from)

-- "start with the registers loaded that `slice_tests` takes for constants"
abbrev pub Taken : Sliced → Regs → Type 0
Taken s g = (r v : ℕ) → s.taken r ≡ Some v → g r ≡ v

-- "Demand 3 then speaks of this result": the procedure sent, its sliced form, and the procedure and the rescued constants of the result
abbrev pub Demand3Where : Procedure → Sliced → Procedure → ℕ → Type 0
Demand3Where p s q rescued =
    (outside : Outside) (address : Address) (g g' : Regs) → Starts address p g g' → Taken s g → Taken s g'
    → ((n : ℕ) → Measured outside address s 0 g' n)
    → Alike (λ N. N + rescued * entries outside address p 0 g N) (shows outside address p 0 g) (shows outside address q 0 g')
