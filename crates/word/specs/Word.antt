-- Document 01, "Machine": what is computed with words.
use Rattle.std.specs.Prelude.{ℕ, zero, suc, ◌+◌, ◌%◌, ◌^◌, ◌<◌, Bool, true, false, cond, not, ◌&&◌, ◌||◌, List, [], ◌∷◌, ◌==◌, nat_le, nat_lt}
use Rattle.inst.specs.declared.CmpOp.{CmpOp}
use Rattle.inst.specs.declared.CmpOp.TheVariants as c
use Rattle.inst.specs.declared.BoolOp.{BoolOp}
use Rattle.inst.specs.declared.BoolOp.TheVariants as b
use Rattle.procedure.specs.Procedure.{Arm, Table}

-- "Registers are 64-bit words." The machine below is defined for all numbers, words among them.
abbrev pub Word : ℕ → Type 0
Word n = n < 2 ^ 64

-- "giving 0 or 1"
abbrev pub bit : Bool → ℕ
bit false = 0
bit true = 1

-- "where c isn't 0"
abbrev pub holds : ℕ → Bool
holds zero = false
holds (suc n) = true

-- "Select gives a and CondBr takes t where c isn't 0, else b and f"
abbrev pub choose : ℕ → ℕ → ℕ → ℕ
choose zero x y = y
choose (suc n) x y = x

-- signed order of words is the order of these
abbrev pub signed : ℕ → ℕ
signed n = (n + 2 ^ 63) % 2 ^ 64

-- the six ops over the order of numbers
abbrev pub ordered : CmpOp → ℕ → ℕ → Bool
ordered c.Eq x y = x == y
ordered c.Ne x y = not (x == y)
ordered c.Lt x y = nat_lt x y
ordered c.Le x y = nat_le x y
ordered c.Gt x y = nat_lt y x
ordered c.Ge x y = nat_le y x

-- "Cmp is signed, giving 0 or 1": over the kinds of the two registers, on which nothing depends here
unfoldable pub compares : ℕ → ℕ → CmpOp → ℕ → ℕ → ℕ
compares kind kind' op x y = bit (ordered op (signed x) (signed y))

-- "Bool tests operands against 0, giving 0 or 1"; Not reads only the first
abbrev pub tests : BoolOp → ℕ → ℕ → ℕ
tests b.And x y = bit (holds x && holds y)
tests b.Or x y = bit (holds x || holds y)
tests b.Xor x y = bit (cond (holds x) (not (holds y)) (holds y))
tests b.Not x y = bit (not (holds x))

-- "low and high (signed, 64-bit)", both within
abbrev pub within : Arm → ℕ → Bool
within arm v = nat_le (signed arm.low) (signed v) && nat_le (signed v) (signed arm.high)

-- "Case takes the first arm holding v", or the default
abbrev pub arm_of : List Arm → ℕ → ℕ → ℕ
arm_of [] default v = default
arm_of (arm ∷ arms) default v = cond (within arm v) arm.target (arm_of arms default v)

abbrev pub target_of : Table → ℕ → ℕ
target_of t v = arm_of t.arms t.default v
