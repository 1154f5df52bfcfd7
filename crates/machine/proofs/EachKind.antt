-- What each of the 24 kinds does, computed: records of one instruction each, register r holding 100 + r.
use Prim.Native.Nat.{ℕ, ◌+◌, ◌-◌, ◌*◌, ◌^◌}
use mathlib.Core.Path.{◌≡◌, refl}
use mathlib.Core.List.{List, [], ◌∷◌, map}
use Rattle.std.proofs.Common.{None, Some}
use Rattle.real.specs.Real.{real_of, bits_of}
use Rattle.ops.specs.Ops.{space_num, space_arg}
use Rattle.codec.specs.Codec.{code_of, inst_of, with_stmt, row_of}
use Rattle.procedure.specs.Procedure.{Procedure}
use Rattle.word.specs.Word.{compares}
use Rattle.machine.specs.Act.{op_of}
use Rattle.machine.specs.Machine.{Address, Outside, Regs, Effect, writes, goes, ends, asks, returned, unreachable, effect, effect_of, stores}

abbrev regs : Regs
regs r = 100 + r

abbrev address : Address
address space off = 10000 * space_num space + 100 * space_arg space + off

abbrev outside : Outside
outside h a = None

-- operands r5, r6, r7; a table with arms -1..104, 104..104 and a default
abbrev p : Procedure
p = record {
  registers = [];
  blocks = [];
  body = None;
  operands = 5 ∷ 6 ∷ 7 ∷ [];
  tables = record {
    arms = record { low = 2 ^ 64 - 1; high = 104; target = 8 } ∷ record { low = 104; high = 104; target = 9 } ∷ [];
    default = 7;
  } ∷ [];
}

-- the effect of a record with this kind, op and p1..p6, and statement 50
abbrev does : ℕ → ℕ → ℕ → ℕ → ℕ → ℕ → ℕ → ℕ → Effect
does kind op p1 p2 p3 p4 p5 p6 = effect_of outside address p (code_of (with_stmt (row_of kind op p1 p2 p3 p4 p5 p6) 50)) regs

abbrev act : ℕ → ℕ → List ℕ → List ℕ → Effect
act kind op numbers values = asks (record { kind = kind; op = op; numbers = numbers; values = values; statement = 50 })

-- the ConstF holds a NaN
writing : does 0 0 1 7 1 0 0 0
    ∷ does 1 0 1 5 2146959361 0 0 0
    ∷ does 2 0 1 2 0 0 0 0
    ∷ does 3 1 1 5 9 0 0 0
    ∷ does 4 0 1 2 3 4 0 0
    ∷ does 5 2 1 2 3 0 0 0
    ∷ does 6 3 1 2 3 0 0 0
    ∷ []
    ≡ writes (4294967303 ∷ [])
    ∷ writes (9221120241336057861 ∷ [])
    ∷ writes (102 ∷ [])
    ∷ writes (10509 ∷ [])
    ∷ writes (103 ∷ [])
    ∷ writes (1 ∷ [])
    ∷ writes (0 ∷ [])
    ∷ []
unfolding effect op_of compares inst_of real_of bits_of
writing = refl

-- Check 4 is Null, which reads v alone
acting : does 7 6 1 2 3 0 0 0
    ∷ does 8 1 1 2 3 4 5 77
    ∷ does 9 2 1 2 0 0 0 0
    ∷ does 10 3 1 2 0 0 0 0
    ∷ does 11 0 1 2 3 78 0 0
    ∷ does 11 4 1 2 3 78 0 0
    ∷ does 12 0 1 1 2 0 0 0
    ∷ does 13 0 1 2 79 0 0 0
    ∷ does 14 0 1 2 3 4 0 0
    ∷ does 15 0 1 2 0 0 0 0
    ∷ does 16 0 1 2 3 0 0 0
    ∷ does 17 0 80 0 3 0 0 0
    ∷ does 17 1 80 0 3 4 0 0
    ∷ does 23 0 0 0 0 0 0 0
    ∷ []
    ≡ act 7 6 [] (102 ∷ 103 ∷ [])
    ∷ act 8 1 (77 ∷ []) (102 ∷ 103 ∷ 104 ∷ 105 ∷ [])
    ∷ act 9 2 [] (102 ∷ [])
    ∷ act 10 3 [] (101 ∷ 102 ∷ [])
    ∷ act 11 0 (78 ∷ []) (101 ∷ 102 ∷ 103 ∷ [])
    ∷ act 11 4 (78 ∷ []) (101 ∷ [])
    ∷ act 12 0 [] (101 ∷ 106 ∷ 107 ∷ [])
    ∷ act 13 0 (79 ∷ []) (102 ∷ [])
    ∷ act 14 0 [] (102 ∷ 103 ∷ 104 ∷ [])
    ∷ act 15 0 [] (102 ∷ [])
    ∷ act 16 0 [] []
    ∷ act 17 0 (80 ∷ []) (105 ∷ 106 ∷ 107 ∷ [])
    ∷ act 17 1 (80 ∷ []) (105 ∷ 106 ∷ 107 ∷ [])
    ∷ act 23 0 [] []
    ∷ []
unfolding effect op_of compares inst_of
acting = refl

ending : does 18 0 3 0 0 0 0 0
    ∷ does 19 0 1 3 4 0 0 0
    ∷ does 20 0 4 0 0 0 0 0
    ∷ does 20 0 5 0 0 0 0 0
    ∷ does 21 0 0 0 0 0 0 0
    ∷ does 21 1 2 0 0 0 0 0
    ∷ does 22 0 81 0 0 0 0 0
    ∷ []
    ≡ goes 3
    ∷ goes 3
    ∷ goes 8
    ∷ goes 7
    ∷ ends (returned None 50)
    ∷ ends (returned (Some 102) 50)
    ∷ ends (unreachable 81 50)
    ∷ []
unfolding effect op_of compares inst_of
ending = refl

-- TakeBounds r1 r2 r3 answered with two values: "stored in role order", the third is 0
stored : map (stores (1 ∷ 2 ∷ 3 ∷ []) (11 ∷ 12 ∷ []) regs) (0 ∷ 1 ∷ 2 ∷ 3 ∷ 4 ∷ []) ≡ 100 ∷ 11 ∷ 12 ∷ 0 ∷ 104 ∷ []
stored = refl
