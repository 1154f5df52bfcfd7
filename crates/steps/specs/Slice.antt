-- Document 02, 2.1: "Bring in `slice_tests` with its gate in `run`, after threading; `for_defs` is taken as all written registers in
-- role order." In its order: what a block says of lengths, how an instruction changes that, and the Cmps that are rewritten.
use Rattle.std.specs.Prelude.{ℕ, zero, suc, List, [], ◌∷◌, ◌++◌, map, filter, Bool, true, false, ◌&&◌, ◌||◌, not, cond, eqb, Option, None, Some}
use Rattle.inst.specs.declared.Reg.{Reg}
use Rattle.inst.specs.declared.Regs.{Regs}
use Rattle.inst.specs.declared.CmpOp.{CmpOp}
use Rattle.inst.specs.declared.CmpOp.TheVariants as c
use Rattle.inst.specs.declared.Code.{Code}
use Rattle.inst.specs.declared.Inst.{Inst}
use Rattle.inst.specs.declared.Inst.TheVariants as i
use Rattle.roles.specs.Roles.{defs_of, operands_of}
use Rattle.codec.specs.Codec.{reg_of, with_inst}
use Rattle.procedure.specs.Lists.{any_of, holds}

-- an instruction, as `slice_tests` looks at it
pub data Measure : Type 0 where
  -- Cmp op dst a z
  compares : CmpOp → Reg → Reg → Reg → Measure
  -- MakeDope at parts
  makes : Reg → Regs → Measure
  -- DopeLen dst dope dim
  measures : Reg → Reg → ℕ → Measure
  -- BoundsLen dst left right dir
  spans : Reg → Reg → Reg → Reg → Measure
  plain : Measure

unfoldable pub measure_of : Inst → Measure
measure_of (i.Const d v) = plain
measure_of (i.ConstF d v) = plain
measure_of (i.Move d s) = plain
measure_of (i.AddrOf d s f) = plain
measure_of (i.Select d c x y) = plain
measure_of (i.Cmp op d x y) = compares op d x y
measure_of (i.Bool op d x y) = plain
measure_of (i.Bin op d x y) = plain
measure_of (i.BinRange op d x y l h w) = plain
measure_of (i.Load d a w) = plain
measure_of (i.Store a s w) = plain
measure_of (i.Check c v l h w) = plain
measure_of (i.MakeDope a p) = makes a p
measure_of (i.DopeLen d p n) = measures d p n
measure_of (i.BoundsLen d l r e) = spans d l r e
measure_of (i.Alloc d s) = plain
measure_of (i.TakeBounds l r e) = plain
measure_of (i.CallNative n a d) = plain
measure_of (i.Br t) = plain
measure_of (i.CondBr c t f) = plain
measure_of (i.Case v t) = plain
measure_of (i.Ret v) = plain
measure_of (i.Unreachable w) = plain
measure_of i.Stmt = plain

-- the registers that hold the bounds of a range, and whether it goes down
pub record Bounds : Type 0 where
  pub left : ℕ
  pub right : ℕ
  pub down : Bool

-- what a block says of lengths: maps, each a list of entries with the key first, and one entry at most for each key
pub record Lengths : Type 0 where
  -- `mk`: the bounds in the block of memory that a register points to
  pub made : List (ℕ × Bounds)
  -- `len_of`: the register of that block, by the register of its length
  pub measured : List (ℕ × ℕ)
  -- `bounds`: the bounds, by the register of a BoundsLen's length
  pub known : List (ℕ × Bounds)

-- at a block's start
abbrev pub no_lengths : Lengths
no_lengths = record { made = []; measured = []; known = [] }

-- `get`
unfoldable pub entry : {A : Type 0} → ℕ → List (ℕ × A) → Option A
entry r [] = None
entry r (x ∷ xs) = cond (eqb x.0 r) (Some x.1) (entry r xs)

abbrev pub some : {A : Type 0} → Option A → Bool
some None = false
some (Some x) = true

-- `retain`: what is left once d is written
abbrev pub bounds_left : ℕ → List (ℕ × Bounds) → List (ℕ × Bounds)
bounds_left d m = filter (λ x. not (eqb x.0 d) && not (eqb x.1.left d) && not (eqb x.1.right d)) m

abbrev pub blocks_left : ℕ → List (ℕ × ℕ) → List (ℕ × ℕ)
blocks_left d m = filter (λ x. not (eqb x.0 d) && not (eqb x.1 d)) m

abbrev pub forget : ℕ → Lengths → Lengths
forget d k = record { made = bounds_left d k.made; measured = blocks_left d k.measured; known = bounds_left d k.known }

-- "`for_defs` is taken as all written registers in role order"
abbrev pub forget_all : List ℕ → Lengths → Lengths
forget_all [] k = k
forget_all (d ∷ ds) k = forget_all ds (forget d k)

-- `mk.insert`, in place of an earlier entry of the register
abbrev pub with_made : ℕ → Bounds → Lengths → Lengths
with_made at b k =
    record { made = filter (λ x. not (eqb x.0 at)) k.made ++ ((at, b) ∷ []); measured = k.measured; known = k.known }

-- `len_of.insert` and `bounds.insert`: an earlier entry has gone with the write of d
abbrev pub with_measured : ℕ → ℕ → Lengths → Lengths
with_measured d at k = record { made = k.made; measured = k.measured ++ ((d, at) ∷ []); known = k.known }

abbrev pub with_known : ℕ → Bounds → Lengths → Lengths
with_known d b k = record { made = k.made; measured = k.measured; known = k.known ++ ((d, b) ∷ []) }

-- a direction that is a constant: 0 up, 1 down
abbrev pub is_down : Option ℕ → Option Bool
is_down None = None
is_down (Some zero) = Some false
is_down (Some (suc zero)) = Some true
is_down (Some (suc (suc v))) = None

abbrev pub in_direction : ℕ → ℕ → Option Bool → (Bounds → Lengths → Lengths) → Lengths → Lengths
in_direction l r None add k = k
in_direction l r (Some down) add k = add (record { left = l; right = r; down = down }) k

-- `bounds.get`, else `len_of.get` and `mk.get`
abbrev pub bounds_by : Option Bounds → Option ℕ → List (ℕ × Bounds) → Option Bounds
bounds_by (Some b) at made = Some b
bounds_by None (Some at) made = entry at made
bounds_by None None made = None

abbrev pub bounds_of : ℕ → Lengths → Option Bounds
bounds_of a k = bounds_by (entry a k.known) (entry a k.measured) k.made

-- a Cmp that is rewritten: the register of the length that it tested, and the bounds that it compares instead
pub record Test : Type 0 where
  pub length : ℕ
  pub bounds : Bounds

abbrev pub is_turned : CmpOp → Bool
is_turned c.Eq = true
is_turned c.Ne = true
is_turned c.Lt = false
is_turned c.Le = true
is_turned c.Gt = true
is_turned c.Ge = false

-- Eq and Le become Lt, Ne and Gt become Ge
abbrev pub turned : CmpOp → CmpOp
turned c.Eq = c.Lt
turned c.Ne = c.Ge
turned c.Lt = c.Lt
turned c.Le = c.Lt
turned c.Gt = c.Ge
turned c.Ge = c.Ge

abbrev pub test_if : Bool → ℕ → Option Bounds → Option Test
test_if false a b = None
test_if true a None = None
test_if true a (Some b) = Some (record { length = a; bounds = b })

-- the length is below 1 where the first is below the second
abbrev pub first : Bounds → ℕ
first b = cond b.down b.left b.right

abbrev pub second : Bounds → ℕ
second b = cond b.down b.right b.left

abbrev pub rewritten : Measure → Bounds → Code → Code
rewritten (compares op d a z) b x = with_inst (i.Cmp (turned op) d (reg_of (first b)) (reg_of (second b))) x
rewritten (makes at parts) b x = x
rewritten (measures d at dim) b x = x
rewritten (spans d l r e) b x = x
rewritten plain b x = x

abbrev pub rewritten_by : Option Test → Code → Code
rewritten_by None x = x
rewritten_by (Some t) x = rewritten (measure_of x.inst) t.bounds x

-- over `kc`, the constants, and the operands
module _ (kc : ℕ → Option ℕ) (ops : List ℕ) where
  -- with three parts: left, right, direction
  abbrev pub note_parts : ℕ → List ℕ → Lengths → Lengths
  note_parts at [] k = k
  note_parts at (l ∷ []) k = k
  note_parts at (l ∷ r ∷ []) k = k
  note_parts at (l ∷ r ∷ e ∷ []) k = cond (eqb at l || eqb at r) k (in_direction l r (is_down (kc e)) (with_made at) k)
  note_parts at (l ∷ r ∷ e ∷ x ∷ xs) k = k

  -- what an instruction adds, once what it writes is forgotten
  abbrev pub note : Measure → Lengths → Lengths
  note (compares op d a z) k = k
  note (makes at parts) k = note_parts at.0 (operands_of ops parts) k
  note (measures d at dim) k = cond (eqb dim 0 && some (entry at.0 k.made) && not (eqb d.0 at.0)) (with_measured d.0 at.0 k) k
  note (spans d l r e) k = cond (eqb d.0 l.0 || eqb d.0 r.0) k (in_direction l.0 r.0 (is_down (kc e.0)) (with_known d.0) k)
  note plain k = k

  abbrev pub after : Lengths → Inst → Lengths
  after k x = note (measure_of x) (forget_all (defs_of x) k)

  -- asked before what the instruction writes is forgotten
  abbrev pub test_by : Lengths → Measure → Option Test
  test_by k (compares op d a z) = test_if (holds (kc z.0) 0 && is_turned op) a.0 (bounds_of a.0 k)
  test_by k (makes at parts) = None
  test_by k (measures d at dim) = None
  test_by k (spans d l r e) = None
  test_by k plain = None

  abbrev pub test_of : Lengths → Code → Option Test
  test_of k x = test_by k (measure_of x.inst)

  -- for each instruction of a block, what it tested if it is rewritten
  unfoldable pub tests_from : Lengths → List Code → List (Option Test)
  tests_from k [] = []
  tests_from k (x ∷ c) = test_of k x ∷ tests_from (after k x.inst) c

  unfoldable pub sliced_from : Lengths → List Code → List Code
  sliced_from k [] = []
  sliced_from k (x ∷ c) = rewritten_by (test_of k x) x ∷ sliced_from (after k x.inst) c

  abbrev pub tests_in : List (List Code) → List (List (Option Test))
  tests_in P = map (tests_from no_lengths) P

  abbrev pub sliced_in : List (List Code) → List (List Code)
  sliced_in P = map (sliced_from no_lengths) P

-- some Cmp is rewritten
unfoldable pub some_test : List (List (Option Test)) → Bool
some_test ts = any_of (λ t. any_of some t) ts

-- the gate, beside `looped`: some MakeDope or BoundsLen, and some DopeLen or BoundsLen
abbrev pub is_made : Measure → Bool
is_made (compares op d a z) = false
is_made (makes at parts) = true
is_made (measures d at dim) = false
is_made (spans d l r e) = true
is_made plain = false

abbrev pub is_measured : Measure → Bool
is_measured (compares op d a z) = false
is_measured (makes at parts) = false
is_measured (measures d at dim) = true
is_measured (spans d l r e) = true
is_measured plain = false

unfoldable pub has_lengths : List Code → Bool
has_lengths c = any_of (λ x. is_made (measure_of x.inst)) c && any_of (λ x. is_measured (measure_of x.inst)) c
