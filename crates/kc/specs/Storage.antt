-- Storage, not the paper's: a table of what writes each register, and what it says of the constants 0 and 1.
use Rattle.std.specs.Prelude.{ℕ, zero, suc, List, [], ◌∷◌, get_or, set, Option, None, Some}
use Rattle.inst.specs.declared.Inst.{Inst}
use Rattle.inst.specs.declared.Code.{Code}
use Rattle.roles.specs.Roles.{defs_of}
use Rattle.ends.specs.Forms.{fixed_of}
use Rattle.steps.specs.Facts.{word_of}
use Rattle.kc.specs.declared.Kc.{Kc}
use Rattle.kc.specs.declared.Kc.TheVariants.{Unwritten, Zero, One, Other}

-- the constant of a register that is written once, by a Const 0 or a Const 1
abbrev pub constant : Kc → Option ℕ
constant Unwritten = None
constant Zero = Some 0
constant One = Some 1
constant Other = None

-- no constant for a register past the table
unfoldable pub kc_in : List Kc → ℕ → Option ℕ
kc_in t r = constant (get_or t r Unwritten)

-- what a Const of a word makes of a register, and what another instruction does
abbrev pub by_word : Option ℕ → Kc
by_word None = Other
by_word (Some zero) = Zero
by_word (Some (suc zero)) = One
by_word (Some (suc (suc v))) = Other

-- a register that is written more than once is no constant
abbrev pub marked : Kc → Kc → Kc
marked Unwritten k = k
marked Zero k = Other
marked One k = Other
marked Other k = Other

-- a register past the table is skipped
unfoldable pub written : Kc → List Kc → ℕ → List Kc
written k t r = set t r (marked (get_or t r Unwritten) k)

unfoldable pub written_each : Kc → List Kc → List ℕ → List Kc
written_each k t [] = t
written_each k t (r ∷ rs) = written_each k (written k t r) rs

abbrev pub with_inst : List Kc → Inst → List Kc
with_inst t x = written_each (by_word (word_of (fixed_of x))) t (defs_of x)

-- the instructions go into the table from the last to the first
unfoldable pub with_code : List Kc → List Code → List Kc
with_code t [] = t
with_code t (x ∷ c) = with_inst (with_code t c) x.inst
