-- What wrong forms of the steps would make of small tidy files: demand 3 refuses each.
use Prim.Native.Nat.{ℕ, ◌+◌, ◌*◌}
use mathlib.Core.Path.{refl}
use mathlib.Core.List.{[], ◌∷◌}
use Rattle.inst.specs.declared.Code.{Code}
use Rattle.inst.specs.declared.CmpOp.TheVariants as c
use Rattle.inst.specs.declared.Inst.TheVariants as i
use Rattle.codec.specs.Codec.{reg_of}
use Rattle.procedure.specs.Procedure.{Procedure}
use Rattle.procedure.specs.Lists.{any_of, times}
use Rattle.procedure.specs.Counts.{writes_in}
use Rattle.word.specs.Word.{compares}
use Rattle.ends.specs.Forms.{form_of, fixed_of}
use Rattle.ends.specs.Ends.{view_of, end_of}
use Rattle.paths.specs.Paths.{total, walk, reached_from}
use Rattle.tidy.specs.Tidy.{placed_in, placed_from, written, reads, writers, offends, regs_of, Tidy}
use Rattle.machine.specs.Act.{op_of}
use Rattle.machine.specs.Machine.{effect}
use Rattle.machine.specs.Single.{single_in, constant_in, constant_of}
use Rattle.machine.specs.Demand.{Demand3}
use Rattle.machine.proofs.Printed.{code, stmt, br, cond_br, ret, procedure}
use Rattle.machine.proofs.Refuted.{refute}

abbrev equal : ℕ → ℕ → ℕ → Code
equal d x n = code (i.Cmp c.Eq (reg_of d) (reg_of x) (reg_of x)) n

abbrev const : ℕ → ℕ → ℕ → Code
const d v n = code (i.Const (reg_of d) v) n

-- a copy that writes a new number and still reads the old one
abbrev copied : Procedure
copied = procedure (0 ∷ 0 ∷ []) (
    (stmt 80 ∷ br 1 81 ∷ [])
    ∷ (equal 1 0 82 ∷ cond_br 1 3 2 83 ∷ [])
    ∷ (stmt 84 ∷ br 1 85 ∷ [])
    ∷ (ret 86 ∷ [])
    ∷ [])

abbrev read-old : Procedure
read-old = procedure (0 ∷ 0 ∷ 0 ∷ 0 ∷ []) (
    (stmt 80 ∷ equal 2 0 82 ∷ cond_br 1 3 2 83 ∷ [])
    ∷ (br 2 82 ∷ [])
    ∷ (stmt 84 ∷ equal 3 0 82 ∷ cond_br 1 3 2 83 ∷ [])
    ∷ (ret 86 ∷ [])
    ∷ [])

pub old-number-read : Demand3 copied read-old 0 → ⊥
unfolding effect op_of compares any_of times writes_in form_of fixed_of single_in constant_in constant_of
old-number-read = refute copied read-old 0 (λ N e. N + 0 * e) 5 tt

-- a fold by a value that was written over
abbrev written_over : Procedure
written_over = procedure (0 ∷ 0 ∷ []) (
    (const 1 0 90 ∷ code (i.Move (reg_of 1) (reg_of 0)) 91 ∷ cond_br 1 1 2 92 ∷ [])
    ∷ (stmt 93 ∷ ret 94 ∷ [])
    ∷ (ret 95 ∷ [])
    ∷ [])

abbrev remembered : Procedure
remembered = procedure (0 ∷ 0 ∷ []) (
    (const 1 0 90 ∷ code (i.Move (reg_of 1) (reg_of 0)) 91 ∷ br 2 92 ∷ [])
    ∷ (stmt 93 ∷ ret 94 ∷ [])
    ∷ (ret 95 ∷ [])
    ∷ [])

pub not_forgotten : Demand3 written_over remembered 0 → ⊥
unfolding effect op_of compares any_of times writes_in form_of fixed_of single_in constant_in constant_of
not_forgotten = refute written_over remembered 1 (λ N e. N + 0 * e) 4 tt

-- a turned CondBr that takes the lone CondBr's other arm
abbrev tested_twice : Procedure
tested_twice = procedure (0 ∷ []) (
    (stmt 100 ∷ cond_br 0 1 2 101 ∷ [])
    ∷ (cond_br 0 3 4 102 ∷ [])
    ∷ (ret 103 ∷ [])
    ∷ (stmt 104 ∷ ret 105 ∷ [])
    ∷ (ret 106 ∷ [])
    ∷ [])

abbrev other_arm : Procedure
other_arm = procedure (0 ∷ []) (
    (stmt 100 ∷ cond_br 0 4 2 101 ∷ [])
    ∷ (cond_br 0 3 4 102 ∷ [])
    ∷ (ret 103 ∷ [])
    ∷ (stmt 104 ∷ ret 105 ∷ [])
    ∷ (ret 106 ∷ [])
    ∷ [])

pub other-arm-taken : Demand3 tested_twice other_arm 0 → ⊥
unfolding effect op_of compares any_of times writes_in form_of fixed_of single_in constant_in constant_of
other-arm-taken = refute tested_twice other_arm 1 (λ N e. N + 0 * e) 4 tt

-- an emptied block that is reached
abbrev in_a_row : Procedure
in_a_row = procedure (0 ∷ []) ((stmt 110 ∷ br 1 111 ∷ []) ∷ (stmt 112 ∷ br 2 113 ∷ []) ∷ (ret 114 ∷ []) ∷ [])

abbrev emptied : Procedure
emptied = procedure (0 ∷ []) ((stmt 110 ∷ br 1 111 ∷ []) ∷ (br 2 112 ∷ []) ∷ (ret 114 ∷ []) ∷ [])

pub reached-emptied : Demand3 in_a_row emptied 0 → ⊥
unfolding effect op_of compares any_of times writes_in form_of fixed_of single_in constant_in constant_of
reached-emptied = refute in_a_row emptied 0 (λ N e. N + 0 * e) 3 tt

-- a constant written twice, moved to the front of block 0
abbrev twice : Procedure
twice = procedure (0 ∷ 0 ∷ []) (
    (stmt 120 ∷ cond_br 1 1 2 121 ∷ [])
    ∷ (const 1 0 122 ∷ stmt 123 ∷ ret 124 ∷ [])
    ∷ (ret 125 ∷ [])
    ∷ (const 1 7 126 ∷ br 2 127 ∷ [])
    ∷ (ret 128 ∷ [])
    ∷ [])

abbrev rescued : Procedure
rescued = procedure (0 ∷ 0 ∷ []) (
    (const 1 7 126 ∷ stmt 120 ∷ cond_br 1 1 2 121 ∷ [])
    ∷ (const 1 0 122 ∷ stmt 123 ∷ ret 124 ∷ [])
    ∷ (ret 125 ∷ [])
    ∷ (br 4 126 ∷ [])
    ∷ (ret 128 ∷ [])
    ∷ [])

pub twice_written_rescued : Demand3 twice rescued 1 → ⊥
unfolding effect op_of compares any_of times writes_in form_of fixed_of single_in constant_in constant_of
twice_written_rescued = refute twice rescued 0 (λ N e. N + 1 * e) 3 tt

all-tidy : Tidy copied × Tidy written_over × Tidy tested_twice × Tidy in_a_row × Tidy twice
unfolding placed_in placed_from written reads writers offends regs_of end_of view_of form_of reached_from walk total
all-tidy = (refl, refl, refl, refl, refl)
