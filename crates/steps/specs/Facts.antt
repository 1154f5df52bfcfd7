-- What Thread needs to know about the file: it is counted once, after the equal-arms step.
use Rattle.std.specs.Prelude.{ℕ, ◌+◌, ◌/◌, List, [], ◌∷◌, Bool, true, false, ◌&&◌, not, cond, eqb, length, Option, None, Some}
use Rattle.inst.specs.declared.Code.{Code}
use Rattle.inst.specs.declared.Inst.{Inst}
use Rattle.roles.specs.Roles.{defs_of}
use Rattle.procedure.specs.Lists.{any_of, or_else}
use Rattle.procedure.specs.Counts.{singly, use_count}
use Rattle.ends.specs.Forms.{Fixed, word, real, address, varying, fixed_of}

abbrev pub word_of : Fixed → Option ℕ
word_of (word v) = Some v
word_of real = None
word_of (address up) = None
word_of varying = None

-- "Const, ConstF or non-Up AddrOf"
abbrev pub bound : Fixed → Bool
bound (word v) = true
bound real = true
bound (address up) = not up
bound varying = false

-- an instruction writes a register
abbrev pub writes : ℕ → Inst → Bool
writes r x = any_of (eqb r) (defs_of x)

-- the v of the first Const that writes a register
unfoldable pub const_in : List Code → ℕ → Option ℕ
const_in [] r = None
const_in (x ∷ c) r = or_else (cond (writes r x.inst) (word_of (fixed_of x.inst)) None) (const_in c r)

-- `kc`: the v of a register singly written, by a Const
unfoldable pub const_of : List Code → ℕ → Option ℕ
const_of c r = cond (singly c r) (const_in c r) None

-- `kdef`: "a singly written Const, ConstF or non-Up AddrOf register"
unfoldable pub konst_of : List Code → ℕ → Bool
konst_of c r = singly c r && any_of (λ x. writes r x.inst && bound (fixed_of x.inst)) c

pub record Facts : Type 0 where
  -- the kinds of the file's own registers
  pub registers : List ℕ
  -- "singly written"
  pub single : ℕ → Bool
  pub uses : ℕ → ℕ
  pub const : ℕ → Option ℕ
  pub konst : ℕ → Bool
  pub body : Option ℕ
  -- "n/2 + 32 (rounded down)"
  pub budget : ℕ

-- from the registers' kinds, the operands, the body, and all code
unfoldable pub facts_of : List ℕ → List ℕ → Option ℕ → List Code → Facts
facts_of registers ops body c = record {
  registers = registers;
  single = singly c;
  uses = use_count ops c;
  const = const_of c;
  konst = konst_of c;
  body = body;
  budget = length c / 2 + 32;
}
