-- Document 01's printed procedure and its shortened form, run by computation: demand 3 up to some N and M.
use Prim.Native.Nat.{ℕ, zero, suc}
use mathlib.Core.Path.{◌≡◌, refl}
use mathlib.Core.Bool.{true, false}
use mathlib.Core.List.{List, [], ◌∷◌, ◌++◌, map}
use Rattle.std.proofs.Common.{None, Some}
use lib.Dec.{eqb}
use lib.ListN.{length}
use Rattle.inst.specs.declared.Code.{Code}
use Rattle.inst.specs.declared.Inst.{Inst}
use Rattle.inst.specs.declared.Inst.TheVariants as i
use Rattle.codec.specs.Codec.{reg_of, block_of}
use Rattle.procedure.specs.Procedure.{Procedure}
use Rattle.machine.specs.Act.{Act, op_of}
use Rattle.machine.specs.Machine.{Regs, Address, Outside, returned, stopped, Shown, effect}
use Rattle.machine.specs.Demand.{shows}

abbrev pub code : Inst → ℕ → Code
code x n = record { inst = x; stmt = record { 0 = n } }

abbrev pub stmt : ℕ → Code
stmt n = code i.Stmt n

abbrev pub br : ℕ → ℕ → Code
br to n = code (i.Br (block_of to)) n

abbrev pub cond_br : ℕ → ℕ → ℕ → ℕ → Code
cond_br c t f n = code (i.CondBr (reg_of c) (block_of t) (block_of f)) n

abbrev pub ret : ℕ → Code
ret n = code (i.Ret None) n

-- no body, operands or tables
abbrev pub procedure : List ℕ → List (List Code) → Procedure
procedure registers blocks = record { registers = registers; blocks = blocks; body = None; operands = []; tables = [] }

-- "one I64; blocks 0-2, 2-4, 4-5, 5-6; Stmt, Br 2, Stmt, Br 2, CondBr 0 1 3, Ret; statements 10 to 15"
abbrev pub printed : Procedure
printed = procedure (0 ∷ []) (
    (stmt 10 ∷ br 2 11 ∷ [])
    ∷ (stmt 12 ∷ br 2 13 ∷ [])
    ∷ (cond_br 0 1 3 14 ∷ [])
    ∷ (ret 15 ∷ [])
    ∷ [])

-- "Whole output"
abbrev pub printed' : Procedure
printed' = procedure (0 ∷ []) (
    (stmt 10 ∷ cond_br 0 1 3 14 ∷ [])
    ∷ (stmt 12 ∷ cond_br 0 1 3 14 ∷ [])
    ∷ (br 3 14 ∷ [])
    ∷ (ret 15 ∷ [])
    ∷ [])

abbrev pub nowhere : Address
nowhere space off = 0

-- an outside that never ends the run, and one that ends it on the act after two
abbrev pub willing : Outside
willing h a = Some []

abbrev pub impatient : Outside
impatient h a = elim (eqb (length h) 2) [ true ↦ None | false ↦ Some [] ]

abbrev pub all : ℕ → Regs
all v = λ r. v

abbrev pub up_to : ℕ → List ℕ
up_to zero = 0 ∷ []
up_to (suc n) = up_to n ++ (suc n ∷ [])

abbrev stmt_act : ℕ → Act
stmt_act n = record { kind = 23; op = 0; numbers = []; values = []; statement = n }

module _ (outside : Outside) (v : ℕ) where
  abbrev original : ℕ → Shown
  original = shows outside nowhere printed 0 (all v)

  abbrev shortened : ℕ → Shown
  shortened = shows outside nowhere printed' 0 (all v)

-- register 0 holds 0: both return after one act
returns : original willing 0 4 ≡ record { acts = stmt_act 10 ∷ []; end = Some (returned None 15) }
unfolding effect op_of
returns = refl

returns_there : map (original willing 0) (up_to 6) ≡ map (shortened willing 0) (0 ∷ 1 ∷ 1 ∷ 2 ∷ 3 ∷ 3 ∷ 3 ∷ [])
unfolding effect op_of
returns_there = refl

returns_back : map (shortened willing 0) (up_to 5) ≡ map (original willing 0) (0 ∷ 1 ∷ 3 ∷ 4 ∷ 4 ∷ 4 ∷ [])
unfolding effect op_of
returns_back = refl

-- register 0 holds 1: both go round for ever
rounds_there : map (original willing 1) (up_to 12) ≡ map (shortened willing 1) (0 ∷ 1 ∷ 1 ∷ 2 ∷ 3 ∷ 3 ∷ 4 ∷ 5 ∷ 5 ∷ 6 ∷ 7 ∷ 7 ∷ 8 ∷ [])
unfolding effect op_of
rounds_there = refl

rounds_back : map (shortened willing 1) (up_to 8) ≡ map (original willing 1) (0 ∷ 1 ∷ 3 ∷ 4 ∷ 6 ∷ 7 ∷ 9 ∷ 10 ∷ 12 ∷ [])
unfolding effect op_of
rounds_back = refl

-- the outside ends both on the third act
stops : original impatient 1 7 ≡ record { acts = stmt_act 10 ∷ stmt_act 12 ∷ stmt_act 12 ∷ []; end = Some (stopped (stmt_act 12)) }
unfolding effect op_of
stops = refl

stops-there : map (original impatient 1) (up_to 9) ≡ map (shortened impatient 1) (0 ∷ 1 ∷ 1 ∷ 2 ∷ 3 ∷ 3 ∷ 4 ∷ 5 ∷ 5 ∷ 5 ∷ [])
unfolding effect op_of
stops-there = refl

stops-back : map (shortened impatient 1) (up_to 7) ≡ map (original impatient 1) (0 ∷ 1 ∷ 3 ∷ 4 ∷ 6 ∷ 7 ∷ 7 ∷ 7 ∷ [])
unfolding effect op_of
stops-back = refl
