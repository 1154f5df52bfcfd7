-- Every hypothesis is needed: files for which demand 3 fails, found by running, where one of them is left out.
use Prim.Native.Nat.{ℕ, ◌+◌, ◌*◌, ◌<◌}
use mathlib.Core.Path.{◌≡◌, refl, ap}
use mathlib.Core.Bool.{true}
use mathlib.Core.List.{[], ◌∷◌}
use lib.ListN.{length}
use Rattle.inst.specs.declared.Code.{Code}
use Rattle.inst.specs.declared.CmpOp.{CmpOp}
use Rattle.inst.specs.declared.CmpOp.TheVariants as c
use Rattle.inst.specs.declared.Width.TheVariants as w
use Rattle.inst.specs.declared.Inst.TheVariants as i
use Rattle.codec.specs.Codec.{reg_of}
use Rattle.procedure.specs.Procedure.{Procedure}
use Rattle.procedure.specs.Lists.{any_of, times, found}
use Rattle.procedure.specs.Counts.{writes_in, use_count}
use Rattle.word.specs.Word.{compares}
use Rattle.ends.specs.Forms.{form_of, fixed_of}
use Rattle.ends.specs.Ends.{view_of, end_of, front, with_end}
use Rattle.paths.specs.Paths.{total, walk, reached_from}
use Rattle.tidy.specs.Tidy.{placed_in, placed_from, written, reads, writers, offends, regs_of, offenders}
use Rattle.steps.specs.Small.{copyable, small, step_by, step_block, latch, reads_konst}
use Rattle.steps.specs.Facts.{const_in, const_of, konst_of, facts_of}
use Rattle.steps.specs.Note.{values_without, copies_without, forget_all, learn, notes}
use Rattle.steps.specs.EqualArms.{follow, join_arms, join_from}
use Rattle.steps.specs.Gate.{back_edge_from, copied, may_thread_from}
use Rattle.roles.specs.Exchange.{exchanged}
use Rattle.steps.specs.Copy.{how_of, own_uses, copy_from, kinds_given}
use Rattle.steps.specs.Thread.{arm_of, hop_cond_br, stops, hop_br, hop, hops, thread_from}
use Rattle.steps.specs.Emit.{reached, stays, empty_from, rescued_of, rescues}
use Rattle.steps.specs.Slice.{measure_of, has_lengths}
use Rattle.steps.specs.Run.{emit, threaded_form, sliced_form, run}
use Rattle.machine.specs.Act.{op_of}
use Rattle.machine.specs.Machine.{Regs, Address, Outside, effect}
use Rattle.machine.specs.Single.{single_in, constant_in, constant_of}
use Rattle.machine.specs.Demand.{Alike, AlikeFrom, Demand3, shows, entries}
use Rattle.machine.proofs.Printed.{code, stmt, br, cond_br, ret, procedure, nowhere, willing, all}
use Rattle.machine.proofs.Refuted.{weight, none_of, refute, looping, without-entries, one_entry}
use Rattle.machine.proofs.Given.{looping_given}

abbrev cmp : CmpOp → ℕ → ℕ → ℕ → ℕ → Code
cmp op d x y n = code (i.Cmp op (reg_of d) (reg_of x) (reg_of y)) n

abbrev move : ℕ → ℕ → ℕ → Code
move d s n = code (i.Move (reg_of d) (reg_of s)) n

abbrev load : ℕ → ℕ → ℕ → Code
load d a n = code (i.Load (reg_of d) (reg_of a) w.B8) n

-- demand 3 about a procedure and what the steps make of it
abbrev Claim : Procedure → Type 0
Claim p = Demand3 p (run p).procedure (run p).rescued

-- 1. Register 2 is read in block 2 too. Block 0's CondBr is turned to it, so that all its counted uses are in block 0, and block 1's copy gives it a
-- new number: block 2 then reads what block 0 wrote.
abbrev elsewhere : Procedure
elsewhere = procedure (0 ∷ 0 ∷ 0 ∷ 0 ∷ []) (
    (cmp c.Eq 2 0 1 40 ∷ move 3 2 41 ∷ cond_br 3 1 2 42 ∷ [])
    ∷ (load 0 1 43 ∷ br 0 44 ∷ [])
    ∷ (stmt 45 ∷ cond_br 2 3 4 46 ∷ [])
    ∷ (load 0 1 47 ∷ ret 48 ∷ [])
    ∷ (ret 49 ∷ [])
    ∷ [])

abbrev elsewhere' : Procedure
elsewhere' = procedure (0 ∷ 0 ∷ 0 ∷ 0 ∷ 0 ∷ []) (
    (cmp c.Eq 2 0 1 40 ∷ move 3 2 41 ∷ cond_br 2 1 2 42 ∷ [])
    ∷ (load 0 1 43 ∷ cmp c.Eq 4 0 1 40 ∷ move 3 4 41 ∷ cond_br 4 1 2 42 ∷ [])
    ∷ (stmt 45 ∷ cond_br 2 3 4 46 ∷ [])
    ∷ (load 0 1 47 ∷ ret 48 ∷ [])
    ∷ (ret 49 ∷ [])
    ∷ [])

elsewhere_offends : offenders elsewhere ≡ 2 ∷ []
unfolding placed_in placed_from written reads writers offends regs_of end_of view_of form_of reached_from walk total
elsewhere_offends = refl

elsewhere_given : run elsewhere ≡ record { procedure = elsewhere'; moved = true; grown = 3; fresh = 1; rescued = 0 }
unfolding any_of times found form_of view_of end_of front with_end copyable small step_by step_block latch reads_konst writes_in use_count fixed_of const_in
    const_of konst_of facts_of values_without copies_without forget_all learn notes follow join_arms join_from back_edge_from copied may_thread_from exchanged
    how_of own_uses copy_from kinds_given arm_of hop_cond_br stops hop_br hop hops thread_from total walk reached_from reached stays empty_from rescued_of rescues
    emit threaded_form measure_of has_lengths sliced_form
elsewhere_given = refl

elsewhere_fails : Demand3 elsewhere elsewhere' 0 → ⊥
unfolding effect op_of compares any_of times writes_in form_of fixed_of single_in constant_in constant_of
elsewhere_fails = refute elsewhere elsewhere' 1 (λ N e. N + 0 * e) 11 tt

pub read_elsewhere : Claim elsewhere → ⊥
read_elsewhere d = elsewhere_fails (rw elsewhere_given at d)

-- 2. Register 1 is read earlier in the block that writes it: the copies write new numbers, and each reads what was there at the start.
abbrev earlier : Procedure
earlier = procedure (0 ∷ 0 ∷ 0 ∷ []) (
    (stmt 50 ∷ br 1 51 ∷ [])
    ∷ (move 0 1 52 ∷ cmp c.Eq 1 2 2 53 ∷ cond_br 0 3 2 54 ∷ [])
    ∷ (stmt 55 ∷ br 1 56 ∷ [])
    ∷ (ret 57 ∷ [])
    ∷ [])

abbrev earlier' : Procedure
earlier' = procedure (0 ∷ 0 ∷ 0 ∷ 0 ∷ 0 ∷ 0 ∷ 0 ∷ []) (
    (stmt 50 ∷ move 3 1 52 ∷ cmp c.Eq 4 2 2 53 ∷ cond_br 3 3 2 54 ∷ [])
    ∷ (br 2 52 ∷ [])
    ∷ (stmt 55 ∷ move 5 1 52 ∷ cmp c.Eq 6 2 2 53 ∷ cond_br 5 3 2 54 ∷ [])
    ∷ (ret 57 ∷ [])
    ∷ [])

earlier_offends : offenders earlier ≡ 1 ∷ []
unfolding placed_in placed_from written reads writers offends regs_of end_of view_of form_of reached_from walk total
earlier_offends = refl

earlier_given : run earlier ≡ record { procedure = earlier'; moved = true; grown = 6; fresh = 4; rescued = 0 }
unfolding any_of times found form_of view_of end_of front with_end copyable small step_by step_block latch reads_konst writes_in use_count fixed_of const_in
    const_of konst_of facts_of values_without copies_without forget_all learn notes follow join_arms join_from back_edge_from copied may_thread_from exchanged
    how_of own_uses copy_from kinds_given arm_of hop_cond_br stops hop_br hop hops thread_from total walk reached_from reached stays empty_from rescued_of rescues
    emit threaded_form measure_of has_lengths sliced_form
earlier_given = refl

earlier_fails : Demand3 earlier earlier' 0 → ⊥
unfolding effect op_of compares any_of times writes_in form_of fixed_of single_in constant_in constant_of
earlier_fails = refute earlier earlier' 0 (λ N e. N + 0 * e) 11 tt

pub read_earlier : Claim earlier → ⊥
read_earlier d = earlier_fails (rw earlier_given at d)

-- 3. Register 0 is read by the instruction that writes it.
abbrev itself : Procedure
itself = procedure (0 ∷ 0 ∷ []) (
    (stmt 60 ∷ br 1 61 ∷ [])
    ∷ (cmp c.Lt 0 0 1 62 ∷ cond_br 0 3 2 63 ∷ [])
    ∷ (stmt 64 ∷ br 1 65 ∷ [])
    ∷ (ret 66 ∷ [])
    ∷ [])

abbrev itself' : Procedure
itself' = procedure (0 ∷ 0 ∷ 0 ∷ 0 ∷ []) (
    (stmt 60 ∷ cmp c.Lt 2 0 1 62 ∷ cond_br 2 3 2 63 ∷ [])
    ∷ (br 2 62 ∷ [])
    ∷ (stmt 64 ∷ cmp c.Lt 3 0 1 62 ∷ cond_br 3 3 2 63 ∷ [])
    ∷ (ret 66 ∷ [])
    ∷ [])

itself_offends : offenders itself ≡ 0 ∷ []
unfolding placed_in placed_from written reads writers offends regs_of end_of view_of form_of reached_from walk total
itself_offends = refl

itself_given : run itself ≡ record { procedure = itself'; moved = true; grown = 4; fresh = 2; rescued = 0 }
unfolding any_of times found form_of view_of end_of front with_end copyable small step_by step_block latch reads_konst writes_in use_count fixed_of const_in
    const_of konst_of facts_of values_without copies_without forget_all learn notes follow join_arms join_from back_edge_from copied may_thread_from exchanged
    how_of own_uses copy_from kinds_given arm_of hop_cond_br stops hop_br hop hops thread_from total walk reached_from reached stays empty_from rescued_of rescues
    emit threaded_form measure_of has_lengths sliced_form
itself_given = refl

itself_fails : Demand3 itself itself' 0 → ⊥
unfolding effect op_of compares any_of times writes_in form_of fixed_of single_in constant_in constant_of
itself_fails = refute itself itself' 1 (λ N e. N + 0 * e) 9 tt

pub read_by_itself : Claim itself → ⊥
read_by_itself d = itself_fails (rw itself_given at d)

-- 4. A tidy file, of which block 0's copy leaves a single constant out, and both runs start with all registers 0.
abbrev constant : Procedure
constant = procedure (0 ∷ 0 ∷ 0 ∷ []) (
    (stmt 70 ∷ br 1 71 ∷ [])
    ∷ (code (i.Const (reg_of 1) 1) 72 ∷ cmp c.Eq 0 1 2 73 ∷ cond_br 0 2 3 74 ∷ [])
    ∷ (stmt 75 ∷ cond_br 2 1 3 76 ∷ [])
    ∷ (ret 77 ∷ [])
    ∷ [])

abbrev constant' : Procedure
constant' = procedure (0 ∷ 0 ∷ 0 ∷ 0 ∷ []) (
    (stmt 70 ∷ cmp c.Eq 3 1 2 73 ∷ cond_br 3 2 3 74 ∷ [])
    ∷ (code (i.Const (reg_of 1) 1) 72 ∷ cmp c.Eq 0 1 2 73 ∷ cond_br 0 2 3 74 ∷ [])
    ∷ (stmt 75 ∷ cond_br 2 1 3 76 ∷ [])
    ∷ (ret 77 ∷ [])
    ∷ [])

constant_tidy : offenders constant ≡ []
unfolding placed_in placed_from written reads writers offends regs_of end_of view_of form_of reached_from walk total
constant_tidy = refl

constant_given : run constant ≡ record { procedure = constant'; moved = true; grown = 2; fresh = 1; rescued = 0 }
unfolding any_of times found form_of view_of end_of front with_end copyable small step_by step_block latch reads_konst writes_in use_count fixed_of const_in
    const_of konst_of facts_of values_without copies_without forget_all learn notes follow join_arms join_from back_edge_from copied may_thread_from exchanged
    how_of own_uses copy_from kinds_given arm_of hop_cond_br stops hop_br hop hops thread_from total walk reached_from reached stays empty_from rescued_of rescues
    emit threaded_form measure_of has_lengths sliced_form
constant_given = refl

-- demand 3 of any registers, the same in both
abbrev Unloaded : Procedure → Procedure → ℕ → Type 0
Unloaded p q rescued =
    (outside : Outside) (address : Address) (g g' : Regs) → ((r : ℕ) → r < length p.registers → g r ≡ g' r)
    → Alike (λ N. N + rescued * entries outside address p 0 g N) (shows outside address p 0 g) (shows outside address q 0 g')

constant_fails : Unloaded constant constant' 0 → ⊥
unfolding effect op_of compares
constant_fails d =
    let a = (d willing nowhere (all 0) (all 0) (λ r l. refl)).there 6 in
    none_of (λ M. weight (shows willing nowhere constant' 0 (all 0) M)) (weight (shows willing nowhere constant 0 (all 0) 6)) _ tt a.0 a.1
    (ap weight a.2)

pub not_loaded : Unloaded constant (run constant).procedure (run constant).rescued → ⊥
not_loaded d = constant_fails (rw constant_given at d)

-- 5. A tidy file with a loop through block 0: the rescued constant is paid by every entry, not once, and not by none.
pub no_entries : AlikeFrom 0 (λ N entries. N) looping (run looping).procedure → ⊥
no_entries d = without-entries (rw looping_given at d)

pub only_once : AlikeFrom 0 (λ N entries. N + 1) looping (run looping).procedure → ⊥
only_once d = one_entry (rw looping_given at d)
