-- Each condition on a run of the sliced form is needed: tidy files, found by running, for which demand 3 fails where one of them is left out.
use Prim.Native.Nat.{ℕ, zero, suc, ◌+◌, ◌*◌, ◌<◌, ◌^◌}
use mathlib.Core.Path.{◌≡◌, refl, ap}
use mathlib.Core.Bool.{true, false}
use mathlib.Core.List.{List, [], ◌∷◌}
use native.Mathlib.Omega.{arith}
use lib.Dec.{T}
use Rattle.std.proofs.Common.{Option, None, Some}
use Rattle.inst.specs.declared.Code.{Code}
use Rattle.inst.specs.declared.CmpOp.{CmpOp}
use Rattle.inst.specs.declared.CmpOp.TheVariants as c
use Rattle.inst.specs.declared.Inst.TheVariants as i
use Rattle.codec.specs.Codec.{reg_of}
use Rattle.procedure.specs.Procedure.{Procedure}
use Rattle.procedure.specs.Lists.{any_of, times, found, joined}
use Rattle.procedure.specs.Counts.{writes_in, use_count}
use Rattle.word.specs.Word.{compares}
use Rattle.ends.specs.Forms.{form_of, fixed_of}
use Rattle.ends.specs.Ends.{view_of, end_of, front, with_end}
use Rattle.paths.specs.Paths.{total, walk, reached_from}
use Rattle.tidy.specs.Tidy.{placed_in, placed_from, written, reads, writers, offends, regs_of, offenders}
use Rattle.steps.specs.Small.{copyable, small, step_by, step_block, latch, reads_konst}
use Rattle.steps.specs.Facts.{const_in, const_of, konst_of, facts_of}
use Rattle.steps.specs.Note.{values_without, copies_without, forget_all, learn, notes}
use Rattle.steps.specs.EqualArms.{follow, join_arms, join_from}
use Rattle.steps.specs.Gate.{back_edge_from, copied, may_thread_from}
use Rattle.roles.specs.Exchange.{exchanged}
use Rattle.steps.specs.Copy.{how_of, own_uses, copy_from, kinds_given}
use Rattle.steps.specs.Thread.{arm_of, hop_cond_br, stops, hop_br, hop, hops, thread_from}
use Rattle.steps.specs.Emit.{reached, stays, empty_from, rescued_of, rescues}
use Rattle.steps.specs.Slice.{measure_of, entry, Test, tests_from, sliced_from, some_test, has_lengths}
use Rattle.steps.specs.Run.{emit, threaded_form, Sliced, sliced_form, run}
use Rattle.machine.specs.Act.{Act, op_of}
use Rattle.machine.specs.Machine.{Regs, Address, Outside, End, State, at, done, Shown, start, effect}
use Rattle.machine.specs.Machine.{run as run_for}
use Rattle.machine.specs.Single.{single_in, constant_in, constant_of}
use Rattle.machine.specs.Demand.{Starts, Alike, shows, entries}
use Rattle.machine.proofs.Reading.{run-done}
use Rattle.machine.proofs.Printed.{code, br, ret, procedure, nowhere}
use Rattle.machine.proofs.Refuted.{weight, absent, none_of, regs, starts}
use Rattle.demand.specs.Place.{Place, place_at}
use Rattle.demand.specs.Lengths.{length_of, Exact, test_at, Taken, Demand3Where}
use Rattle.demand.proofs.Sliced.{taken-single}

-- Demand3Where with other conditions: on the registers before a rewritten Cmp, and on those at the start
module _ (Before : Regs → Test → Type 0) where
  abbrev BeforeAt : Option Test → State → Type 0
  BeforeAt None s = Unit {0}
  BeforeAt (Some t) (at c g h) = Before g t
  BeforeAt (Some t) (done h e) = Unit {0}

  abbrev Throughout : Outside → Address → Sliced → Regs → Type 0
  Throughout outside address s g =
      let q = s.form.procedure in
      let from = start outside address q 0 g in
      (n : ℕ) → BeforeAt (test_at s.tests (place_at outside address q n from (record { block = 0; place = 0 }))) (run_for outside address q n from)

  abbrev Where : (Sliced → Regs → Type 0) → Procedure → Sliced → Type 0
  Where From p s =
      let q = s.form.procedure in
      (outside : Outside) (address : Address) (g g' : Regs) → Starts address p g g' → From s g → From s g' → Throughout outside address s g'
      → Alike (λ N. N + s.form.rescued * entries outside address p 0 g N) (shows outside address p 0 g) (shows outside address q 0 g')

  -- a run that has ended
  over : (outside : Outside) (address : Address) (s : Sliced) (n : ℕ) (h : List Act) (e : End) (w : Place)
      → let q = s.form.procedure in BeforeAt (test_at s.tests (place_at outside address q n (done h e) w)) (run_for outside address q n (done h e))
  over outside address s n h e w = rw run-done (by (test_at s.tests (place_at outside address s.form.procedure n (done h e) w)))
    where
      by : (o : Option Test) → BeforeAt o (done h e)
      by None = tt
      by (Some t) = tt

-- with both as they are
where_is : (p : Procedure) → Where Exact Taken p (sliced_form p) ≡ Demand3Where p (sliced_form p) (run p).procedure (run p).rescued
where_is p = refl

-- an outside that answers the first act and ends the run on the second
abbrev once : ℕ → Outside
once v [] a = Some (v ∷ [])
once v (x ∷ h) a = None

-- the words that all acts read, added up
abbrev sum : List ℕ → ℕ
sum [] = 0
sum (v ∷ vs) = v + sum vs

abbrev sums : List Act → ℕ
sums [] = 0
sums (a ∷ h) = sum a.values + sums h

abbrev told : Shown → ℕ
told o = weight o + sums o.acts

-- refuted after N instructions of the original, where the outside answers v and registers that aren't loaded start with w
refute_where : (Before : Regs → Test → Type 0) (From : Sliced → Regs → Type 0) (p : Procedure) (s : Sliced) (v w N : ℕ)
    → let original = shows (once v) nowhere p 0 (regs p w) in
    let shortened = shows (once v) nowhere s.form.procedure 0 (regs p w) in
    T (absent (λ M. told (shortened M)) (told (original N)) (N + s.form.rescued * entries (once v) nowhere p 0 (regs p w) N))
    → From s (regs p w) → Throughout Before (once v) nowhere s (regs p w) → Where Before From p s → ⊥
refute_where Before From p s v w N t f m d =
    let a = (d (once v) nowhere (regs p w) (regs p w) (starts p w) f f m).there N in
    none_of (λ M. told (shows (once v) nowhere s.form.procedure 0 (regs p w) M)) (told (shows (once v) nowhere p 0 (regs p w) N)) _ t a.0 a.1 (ap told a.2)

-- a Cmp of two registers, and a BoundsLen
abbrev cmp : CmpOp → ℕ → ℕ → ℕ → ℕ → Code
cmp op d x y n = code (i.Cmp op (reg_of d) (reg_of x) (reg_of y)) n

abbrev bounds_len : ℕ → ℕ → ℕ → ℕ → ℕ → Code
bounds_len d l r e n = code (i.BoundsLen (reg_of d) (reg_of l) (reg_of r) (reg_of e)) n

abbrev const : ℕ → ℕ → Code
const d n = code (i.Const (reg_of d) 0) n

abbrev move : ℕ → ℕ → ℕ → Code
move d s n = code (i.Move (reg_of d) (reg_of s)) n

-- a length in register a from l up to r
abbrev up : ℕ → ℕ → ℕ → Option Test
up a l r = Some (record { length = a; bounds = record { left = l; right = r; down = false } })

abbrev sliced : Procedure → List (List (Option Test)) → (ℕ → Option ℕ) → ℕ → Sliced
sliced q tests taken grown = record { form = record { procedure = q; moved = true; grown = grown; fresh = 0; rescued = 0 }; tests = tests; taken = taken }

-- no condition at the start; and each half of the condition before a rewritten Cmp
abbrev Unasked : Sliced → Regs → Type 0
Unasked s g = Unit {0}

abbrev Fits : Regs → Test → Type 0
Fits g t = length_of t.bounds.down (g t.bounds.left) (g t.bounds.right) < 2 ^ 63

abbrev Equals : Regs → Test → Type 0
Equals g t = g t.length ≡ length_of t.bounds.down (g t.bounds.left) (g t.bounds.right)

-- registers taken for constants in the file's own code are its single constants
loads : (q : Procedure) (tests : List (List (Option Test))) (p : Procedure) (w : ℕ) → Taken (sliced q tests (const_of (joined p.blocks)) 0) (regs p w)
loads q tests p w r v e = (starts p w).loaded r v (taken-single nowhere (joined p.blocks) r v e)

-- 1. Register 0 is written by two Consts, and by one once block 1 is emptied.
abbrev emptied : Procedure
emptied = procedure (0 ∷ 0 ∷ 0 ∷ []) (
    (bounds_len 2 1 1 0 10 ∷ cmp c.Eq 1 2 0 11 ∷ const 0 12 ∷ br 2 13 ∷ [])
    ∷ (cmp c.Eq 1 2 0 14 ∷ const 0 15 ∷ ret 16 ∷ [])
    ∷ (cmp c.Eq 2 0 0 17 ∷ br 0 18 ∷ [])
    ∷ [])

abbrev emptied' : Procedure
emptied' = procedure (0 ∷ 0 ∷ 0 ∷ []) (
    (bounds_len 2 1 1 0 10 ∷ cmp c.Lt 1 1 1 11 ∷ const 0 12 ∷ cmp c.Eq 2 0 0 17 ∷ br 0 18 ∷ [])
    ∷ (br 2 14 ∷ [])
    ∷ (cmp c.Eq 2 0 0 17 ∷ br 0 18 ∷ [])
    ∷ [])

abbrev emptied-sliced : Sliced
emptied-sliced =
    sliced emptied' ((None ∷ up 2 1 1 ∷ None ∷ None ∷ None ∷ []) ∷ (None ∷ []) ∷ (None ∷ None ∷ []) ∷ [])
    (const_of (joined (threaded_form emptied).procedure.blocks)) 2

emptied_tidy : offenders emptied ≡ []
unfolding placed_in placed_from written reads writers offends regs_of end_of view_of form_of reached_from walk total
emptied_tidy = refl

emptied_given : sliced_form emptied ≡ emptied-sliced
unfolding any_of times found form_of view_of end_of front with_end copyable small step_by step_block latch reads_konst writes_in use_count fixed_of const_in
    const_of konst_of facts_of values_without copies_without forget_all learn notes follow join_arms join_from back_edge_from copied may_thread_from exchanged
    how_of own_uses copy_from kinds_given arm_of hop_cond_br stops hop_br hop hops thread_from total walk reached_from reached stays empty_from rescued_of rescues
    emit threaded_form measure_of entry tests_from sliced_from some_test has_lengths sliced_form
emptied_given = refl

emptied-exact : Throughout Exact (once 1) nowhere emptied-sliced (regs emptied 1)
unfolding effect op_of compares any_of times writes_in form_of fixed_of single_in constant_in constant_of
emptied-exact zero = tt
emptied-exact (suc zero) = record { exact = refl; fits = omega arith }
emptied-exact (suc (suc zero)) = tt
emptied-exact (suc (suc (suc zero))) = tt
emptied-exact (suc (suc (suc (suc zero)))) = tt
emptied-exact (suc (suc (suc (suc (suc zero))))) = tt
emptied-exact (suc (suc (suc (suc (suc (suc n)))))) = over Exact (once 1) nowhere emptied-sliced n _ _ _

emptied_fails : Where Exact Unasked emptied emptied-sliced → ⊥
unfolding effect op_of compares any_of times writes_in form_of fixed_of single_in constant_in constant_of
emptied_fails = refute_where Exact Unasked emptied emptied-sliced 1 1 7 tt tt emptied-exact

pub taken_not_loaded : Where Exact Unasked emptied (sliced_form emptied) → ⊥
taken_not_loaded d = emptied_fails (rw emptied_given at d)

-- 2. The outside answers the length of a range of one word with 0.
abbrev inexact : Procedure
inexact = procedure (0 ∷ 0 ∷ 0 ∷ []) (
    (bounds_len 2 0 0 1 10 ∷ cmp c.Eq 0 2 1 11 ∷ br 0 12 ∷ [])
    ∷ (move 0 0 13 ∷ ret 14 ∷ [])
    ∷ (const 1 15 ∷ ret 16 ∷ [])
    ∷ [])

abbrev inexact' : Procedure
inexact' = procedure (0 ∷ 0 ∷ 0 ∷ []) (
    (bounds_len 2 0 0 1 10 ∷ cmp c.Lt 0 0 0 11 ∷ br 0 12 ∷ [])
    ∷ (move 0 0 13 ∷ ret 14 ∷ [])
    ∷ (const 1 15 ∷ ret 16 ∷ [])
    ∷ [])

abbrev inexact-tests : List (List (Option Test))
inexact-tests = (None ∷ up 2 0 0 ∷ None ∷ []) ∷ (None ∷ None ∷ []) ∷ (None ∷ None ∷ []) ∷ []

abbrev inexact-sliced : Sliced
inexact-sliced = sliced inexact' inexact-tests (const_of (joined inexact.blocks)) 0

inexact_tidy : offenders inexact ≡ []
unfolding placed_in placed_from written reads writers offends regs_of end_of view_of form_of reached_from walk total
inexact_tidy = refl

inexact_given : sliced_form inexact ≡ inexact-sliced
unfolding any_of times found form_of view_of end_of front with_end copyable small step_by step_block latch reads_konst writes_in use_count fixed_of const_in
    const_of konst_of facts_of values_without copies_without forget_all learn notes follow join_arms join_from back_edge_from copied may_thread_from exchanged
    how_of own_uses copy_from kinds_given arm_of hop_cond_br stops hop_br hop hops thread_from total walk reached_from reached stays empty_from rescued_of rescues
    emit threaded_form measure_of entry tests_from sliced_from some_test has_lengths sliced_form
inexact_given = refl

inexact-fits : Throughout Fits (once 0) nowhere inexact-sliced (regs inexact 0)
unfolding effect op_of compares any_of times writes_in form_of fixed_of single_in constant_in constant_of
inexact-fits zero = tt
inexact-fits (suc zero) = omega arith
inexact-fits (suc (suc zero)) = tt
inexact-fits (suc (suc (suc zero))) = tt
inexact-fits (suc (suc (suc (suc n)))) = over Fits (once 0) nowhere inexact-sliced n _ _ _

inexact_fails : Where Fits Taken inexact inexact-sliced → ⊥
unfolding effect op_of compares any_of times writes_in form_of fixed_of single_in constant_in constant_of
inexact_fails = refute_where Fits Taken inexact inexact-sliced 0 0 4 tt (loads inexact' inexact-tests inexact 0) inexact-fits

pub not_exact : Where Fits Taken inexact (sliced_form inexact) → ⊥
not_exact d = inexact_fails (rw inexact_given at d)

-- All conditions can be met by a run that carries out a rewritten Cmp: this one, where the outside answers 1.
inexact-exact : Throughout Exact (once 1) nowhere inexact-sliced (regs inexact 0)
unfolding effect op_of compares any_of times writes_in form_of fixed_of single_in constant_in constant_of
inexact-exact zero = tt
inexact-exact (suc zero) = record { exact = refl; fits = omega arith }
inexact-exact (suc (suc zero)) = tt
inexact-exact (suc (suc (suc zero))) = tt
inexact-exact (suc (suc (suc (suc n)))) = over Exact (once 1) nowhere inexact-sliced n _ _ _

pub can_be_met : Taken inexact-sliced (regs inexact 0) × Throughout Exact (once 1) nowhere inexact-sliced (regs inexact 0)
can_be_met = (loads inexact' inexact-tests inexact 0, inexact-exact)

-- 3. The range from the least word up to 0 has 2^63 + 1 words, a length below 0 as a signed word.
abbrev unfit : Procedure
unfit = procedure (0 ∷ 0 ∷ 0 ∷ 0 ∷ []) (
    (const 3 10 ∷ const 2 11 ∷ bounds_len 1 0 3 2 12 ∷ cmp c.Gt 0 1 3 13 ∷ br 0 14 ∷ [])
    ∷ (move 0 0 15 ∷ ret 16 ∷ [])
    ∷ [])

abbrev unfit' : Procedure
unfit' = procedure (0 ∷ 0 ∷ 0 ∷ 0 ∷ []) (
    (const 3 10 ∷ const 2 11 ∷ bounds_len 1 0 3 2 12 ∷ cmp c.Ge 0 3 0 13 ∷ br 0 14 ∷ [])
    ∷ (move 0 0 15 ∷ ret 16 ∷ [])
    ∷ [])

abbrev unfit-tests : List (List (Option Test))
unfit-tests = (None ∷ None ∷ None ∷ up 1 0 3 ∷ None ∷ []) ∷ (None ∷ None ∷ []) ∷ []

abbrev unfit-sliced : Sliced
unfit-sliced = sliced unfit' unfit-tests (const_of (joined unfit.blocks)) 0

unfit_tidy : offenders unfit ≡ []
unfolding placed_in placed_from written reads writers offends regs_of end_of view_of form_of reached_from walk total
unfit_tidy = refl

unfit_given : sliced_form unfit ≡ unfit-sliced
unfolding any_of times found form_of view_of end_of front with_end copyable small step_by step_block latch reads_konst writes_in use_count fixed_of const_in
    const_of konst_of facts_of values_without copies_without forget_all learn notes follow join_arms join_from back_edge_from copied may_thread_from exchanged
    how_of own_uses copy_from kinds_given arm_of hop_cond_br stops hop_br hop hops thread_from total walk reached_from reached stays empty_from rescued_of rescues
    emit threaded_form measure_of entry tests_from sliced_from some_test has_lengths sliced_form
unfit_given = refl

unfit-equals : Throughout Equals (once (2 ^ 63 + 1)) nowhere unfit-sliced (regs unfit (2 ^ 63))
unfolding effect op_of compares any_of times writes_in form_of fixed_of single_in constant_in constant_of
unfit-equals zero = tt
unfit-equals (suc zero) = tt
unfit-equals (suc (suc zero)) = tt
unfit-equals (suc (suc (suc zero))) = refl
unfit-equals (suc (suc (suc (suc zero)))) = tt
unfit-equals (suc (suc (suc (suc (suc zero))))) = tt
unfit-equals (suc (suc (suc (suc (suc (suc zero)))))) = tt
unfit-equals (suc (suc (suc (suc (suc (suc (suc zero))))))) = tt
unfit-equals (suc (suc (suc (suc (suc (suc (suc (suc n)))))))) = over Equals (once (2 ^ 63 + 1)) nowhere unfit-sliced n _ _ _

unfit_fails : Where Equals Taken unfit unfit-sliced → ⊥
unfolding effect op_of compares any_of times writes_in form_of fixed_of single_in constant_in constant_of
unfit_fails = refute_where Equals Taken unfit unfit-sliced (2 ^ 63 + 1) (2 ^ 63) 8 tt (loads unfit' unfit-tests unfit (2 ^ 63)) unfit-equals

pub too_long : Where Equals Taken unfit (sliced_form unfit) → ⊥
too_long d = unfit_fails (rw unfit_given at d)
