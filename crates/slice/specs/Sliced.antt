-- Storage, not the paper's: how the private functions rewrite the code in place, record by record.
use Rattle.std.specs.Prelude.{◌≡◌, ℕ, zero, suc, ◌+◌, ◌-◌, ◌/◌, ◌<◌, min, List, [], ◌∷◌, Bool, false, ◌||◌, length, Option, None, Some}
use Rattle.records.specs.declared.Record.{Record}
use Rattle.records.specs.Record.{records_of, record_at}
use Rattle.put_record.specs.Store.{put_of}
use Rattle.codec.specs.Codec.{code_of, record_of, reg_of}
use Rattle.lengths.specs.declared.Lengths as k
use Rattle.lengths.specs.declared.Bounds as b
use Rattle.lengths.specs.Storage.{bounds_in, lengths_in}
use Rattle.slice.specs.declared.noted.Parts.{Parts}
use Rattle.steps.specs.Slice.{Lengths, no_lengths, some, Test, rewritten_by, after, test_of}

-- a list of three registers
abbrev pub parts_of : List ℕ → Option Parts
parts_of [] = None
parts_of (l ∷ []) = None
parts_of (l ∷ r ∷ []) = None
parts_of (l ∷ r ∷ e ∷ []) = Some (record { left = reg_of l; right = reg_of r; dir = reg_of e })
parts_of (l ∷ r ∷ e ∷ x ∷ xs) = None

-- room for one more
abbrev pub Roomy : k.Lengths → Type 0
Roomy k = k.n < length k.rows.now

-- a test of the length in a register
abbrev pub test_with : ℕ → b.Bounds → Test
test_with a x = record { length = a; bounds = bounds_in x }

-- some bytes with record k rewritten, if it is a Cmp that is
abbrev pub put_by : Option Test → List ℕ → ℕ → List ℕ
put_by None code k = code
put_by (Some t) code k = put_of code k (record_of (rewritten_by (Some t) (code_of (record_at code k))))

-- the bytes of the code, whether a Cmp was rewritten, and what is known
pub record Pass : Type 0 where
  pub code : List ℕ
  pub any : Bool
  pub known : Lengths

-- with nothing known
abbrev pub start : List ℕ → Bool → Pass
start code any = record { code = code; any = any; known = no_lengths }

abbrev pub pass : List ℕ → Bool → k.Lengths → Pass
pass code any l = record { code = code; any = any; known = lengths_in l }

-- what a pass leaves
pub record Done (s : Pass) (b : List ℕ) (t : Bool) : Type 0 where
  pub code : b ≡ s.code
  pub any : t ≡ s.any

module _ (kc : ℕ → Option ℕ) (ops : List ℕ) where
  abbrev pub test_at : Lengths → List ℕ → ℕ → Option Test
  test_at l b k = test_of kc ops l (code_of (record_at b k))

  -- record k
  abbrev pub passed : ℕ → Pass → Pass
  passed k s = record {
    code = put_by (test_at s.known s.code k) s.code k;
    any = s.any || some (test_at s.known s.code k);
    known = after kc ops s.known (code_of (record_at s.code k)).inst;
  }

  -- m records from k on
  unfoldable pub passed_from : ℕ → ℕ → Pass → Pass
  passed_from zero k s = s
  passed_from (suc m) k s = passed_from m (k + 1) (passed k s)

  -- the records of a block, given its record, with nothing known
  abbrev pub passed_block : Record → List ℕ → Pass
  passed_block r code = passed_from (min r.p2 (length code / 32) - r.p1) r.p1 (start code false)

  -- those of some blocks
  unfoldable pub passed_blocks : List Record → Pass → Pass
  passed_blocks [] s = s
  passed_blocks (r ∷ rs) s =
      let z = passed_block r s.code in passed_blocks rs (start z.code (s.any || z.any))

  -- those of the blocks of a table
  abbrev pub passed_all : List ℕ → List ℕ → Pass
  passed_all table code = passed_blocks (records_of table) (start code false)
