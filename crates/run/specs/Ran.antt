-- Storage, not the paper's: what equal arms, the gate, the counts and threading leave in the work storage, for any bytes.
use Rattle.std.specs.Prelude.{ℕ, ◌+◌, ◌*◌, ◌/◌, ◌<◌, min, ◌≡◌, Bool, true, false, ◌&&◌, List, ◌⊎◌, ltb, length, take, Option}
use Rattle.procedure.specs.Procedure.{codes_of}
use Rattle.procedure.specs.Lists.{present}
use Rattle.blocks.specs.Blocks.{blocks_of}
use Rattle.steps.specs.Gate.{has_back_edge, may_thread}
use Rattle.steps.specs.Slice.{has_lengths}
use Rattle.facts.specs.Storage.{kinds_of, operands_in, table_of}
use Rattle.equal_arms.specs.Joined.{Joined, joined, equal_arms_in}
use Rattle.thread.specs.declared.Threaded.{Threaded}
use Rattle.thread.specs.Storage.{Store, store, thread_in}
use Rattle.run.specs.declared.Ran.{Ran}

-- the storage of threading, the facts, and whether equal arms were joined
pub record Left : Type 0 where
  pub store : Store
  pub facts : List ℕ
  pub joined : Bool

abbrev pub left : List ℕ → List ℕ → List ℕ → List ℕ → Ran → Left
left work table kinds facts r = record { store = store work table kinds r.at; facts = facts; joined = r.joined }

-- how many instructions there are
module _ (n : ℕ) where
  -- nothing is threaded
  abbrev pub still : Threaded
  still = record { top = n; grown = 0; fresh = 0; edited = false }

  -- "n/2 + 32 (rounded down)", capped at what a 32-bit field can hold
  abbrev pub budget_in : ℕ
  budget_in = min (n / 2 + 32) 4294967295

  -- "Definitions (saturating at 255) and uses are counted then.": of the first n instructions, with the records of operands and registers
  abbrev pub counted_in : List ℕ → List ℕ → List ℕ → List ℕ → List ℕ
  counted_in operands registers facts work =
      table_of facts (kinds_of registers) (operands_in operands) (codes_of (take (32 * min n (length work / 32)) work))

-- "Gate."
abbrev pub opens_in : Option ℕ → List ℕ → List ℕ → Bool
opens_in body work table = has_back_edge (blocks_of work table) && may_thread (present body) (blocks_of work table)

-- the gate of `slice_tests`, of code that no step before it changes
abbrev pub slices_in : List ℕ → List ℕ → Bool
slices_in code table = has_back_edge (blocks_of code table) && has_lengths (codes_of code)

-- no step does anything: "Fewer than 6 instructions", or no arms to join and gates that stay shut
abbrev pub NoStep : Option ℕ → List ℕ → List ℕ → Type 0
NoStep body code table =
    (length code / 32 < 6) ⊎ ((equal_arms_in table code ≡ joined code false) × ((opens_in body code table ≡ false) × (slices_in code table ≡ false)))

-- the lengths of the slices for known values and copies, the records of operands and registers, and how many instructions there are
module _ (body : Option ℕ) (known copy : ℕ) (operands registers : List ℕ) (n : ℕ) where
  abbrev pub threaded_in : List ℕ → List ℕ → List ℕ → List ℕ → Bool → Left
  threaded_in work table kinds facts joined =
      record { store = thread_in facts body (budget_in n) known copy work table kinds n; facts = facts; joined = joined }

  -- with the facts as they were and once they are counted
  abbrev pub gate_in : Bool → List ℕ → List ℕ → List ℕ → List ℕ → List ℕ → Bool → Left
  gate_in true work table kinds facts counted joined = threaded_in work table kinds counted joined
  gate_in false work table kinds facts counted joined = record { store = store work table kinds (still n); facts = facts; joined = joined }

  abbrev pub arms_in : Joined → List ℕ → List ℕ → List ℕ → List ℕ → Left
  arms_in z table kinds facts counted = gate_in (opens_in body z.code table) z.code table kinds facts counted z.edited

  -- "Fewer than 6 instructions: unchanged."
  abbrev pub run_if : Bool → List ℕ → List ℕ → List ℕ → List ℕ → Left
  run_if true work table kinds facts = record { store = store work table kinds (still n); facts = facts; joined = false }
  run_if false work table kinds facts =
      let z = equal_arms_in table work in
      arms_in z table kinds facts (counted_in n operands registers facts z.code)

  unfoldable pub ran_in : List ℕ → List ℕ → List ℕ → List ℕ → Left
  ran_in work table kinds facts = run_if (ltb n 6) work table kinds facts
