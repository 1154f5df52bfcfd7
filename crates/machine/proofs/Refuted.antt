-- What demand 3 refuses: a branch exchanged, an act too early, and, of a right shortened form, a bound without the entries into block 0.
use Prim.Native.Nat.{ℕ, zero, suc, ◌+◌, ◌*◌, ◌≤◌}
use mathlib.Core.Path.{◌≡◌, refl, sym, ap, ◌∙◌}
use mathlib.Core.Bool.{Bool, true, false, not, ◌&&◌}
use mathlib.Core.List.{[], ◌∷◌}
use Rattle.std.proofs.Common.{Option, None, Some}
use native.Mathlib.Omega.{arith}
use native.Mathlib.Decide.{ℕ_discrete}
use lib.Dec.{T, T_not, eqb, eqb_refl}
use lib.ListN.{length}
use Rattle.inst.specs.declared.Inst.TheVariants as i
use Rattle.codec.specs.Codec.{reg_of}
use Rattle.procedure.specs.Procedure.{Procedure}
use Rattle.procedure.specs.Lists.{any_of, times}
use Rattle.procedure.specs.Counts.{writes_in}
use Rattle.ends.specs.Forms.{fixed_of}
use Rattle.machine.specs.Act.{op_of}
use Rattle.machine.specs.Machine.{Regs, End, Shown, shown, effect}
use Rattle.machine.specs.Single.{single_in, constant_in, constant_of, load}
use Rattle.machine.proofs.Loaded.{load_loads}
use Rattle.machine.specs.Demand.{AlikeFrom, Demand3, Starts, shows, entries}
use Rattle.machine.proofs.Reading.{run-done}
use Rattle.machine.proofs.Printed.{code, stmt, br, cond_br, ret, procedure, printed, nowhere, willing, all}

-- two for each act done, and one if the run has ended
abbrev pub ended : Option End → ℕ
ended None = 0
ended (Some e) = 1

abbrev pub weight : Shown → ℕ
weight o = 2 * length o.acts + ended o.end

-- no number up to k is taken to x
abbrev pub absent : (ℕ → ℕ) → ℕ → ℕ → Bool
absent f x zero = not (eqb (f 0) x)
absent f x (suc k) = not (eqb (f (suc k)) x) && absent f x k

both : (a b : Bool) → T (a && b) → T a × T b
both true true t = (tt, tt)
both true false t = absurd t
both false b t = absurd t

differs : (f : ℕ → ℕ) (x k : ℕ) → T (not (eqb (f k) x)) → f k ≡ x → ⊥
differs f x k t e = T_not (eqb (f k) x) t (rw e (eqb_refl x))

pub none_of : (f : ℕ → ℕ) (x k : ℕ) → T (absent f x k) → (M : ℕ) → M ≤ k → f M ≡ x → ⊥
none_of f x zero t M l e = let z : M ≡ 0 = omega arith in differs f x 0 t (ap f (sym z) ∙ e)
none_of f x (suc k) t M l e = by (ℕ_discrete M (suc k)) (λ n. none_of f x k s.1 M n e)
  where
    s : T (not (eqb (f (suc k)) x)) × T (absent f x k)
    s = both (not (eqb (f (suc k)) x)) (absent f x k) t

    by : Dec (M ≡ suc k) → (M ≤ k → ⊥) → ⊥
    by (yes z) o = differs f x (suc k) s.0 (ap f (sym z) ∙ e)
    by (no n) o = o (omega arith)

-- registers that all hold v, but for the single constants
abbrev pub regs : Procedure → ℕ → Regs
regs p v = load nowhere p (all v)

pub starts : (p : Procedure) (v : ℕ) → Starts nowhere p (regs p v) (regs p v)
starts p v = record { loaded = load_loads nowhere p (all v); loaded' = load_loads nowhere p (all v); same = λ r l. refl }

module _ (p q : Procedure) (v : ℕ) where
  abbrev pub original : ℕ → Shown
  original = shows willing nowhere p 0 (regs p v)

  abbrev pub shortened : ℕ → Shown
  shortened = shows willing nowhere q 0 (regs p v)

  -- refuted after N instructions of the original, where no number of instructions within the bound shows the same
  pub refute : (bound : ℕ → ℕ → ℕ) (N : ℕ)
      → T (absent (λ M. weight (shortened M)) (weight (original N)) (bound N (entries willing nowhere p 0 (regs p v) N)))
      → AlikeFrom 0 bound p q → ⊥
  refute bound N t d =
      let a = (d willing nowhere (regs p v) (regs p v) (starts p v)).there N in
      none_of (λ M. weight (shortened M)) (weight (original N)) _ t a.0 a.1 (ap weight a.2)

-- 1. the printed procedure's shortened form with the branch of block 0 exchanged, whatever the bound: where register 0 holds 1,
-- the original does a second act, and this form ends after one
abbrev exchanged : Procedure
exchanged = procedure (0 ∷ []) (
    (stmt 10 ∷ cond_br 0 3 1 14 ∷ [])
    ∷ (stmt 12 ∷ cond_br 0 1 3 14 ∷ [])
    ∷ (br 3 14 ∷ [])
    ∷ (ret 15 ∷ [])
    ∷ [])

pub branch_exchanged : (rescued : ℕ) → Demand3 printed exchanged rescued → ⊥
unfolding effect op_of any_of times writes_in fixed_of single_in constant_in constant_of
branch_exchanged rescued d =
    let t = (d willing nowhere (regs printed 1) (regs printed 1) (starts printed 1)).there 4 in
    by t.0 t.2
  where
    by : (M : ℕ) → shortened printed exchanged 1 M ≡ original printed exchanged 1 4 → ⊥
    by zero e = let z : ◌≡◌ {A = ℕ} 0 4 = ap weight e in omega arith
    by (suc zero) e = let z : ◌≡◌ {A = ℕ} 2 4 = ap weight e in omega arith
    by (suc (suc zero)) e = let z : ◌≡◌ {A = ℕ} 2 4 = ap weight e in omega arith
    by (suc (suc (suc M))) e =
        let z : ◌≡◌ {A = ℕ} 3 4 = ap weight (sym (ap shown (run-done willing nowhere exchanged M _ _)) ∙ e) in
        omega arith

-- 2. an act done before the loop that it waits for: where register 0 holds 1, the original goes round for ever and does no act.
-- Where it holds 0 the two forms do the same in as many instructions: only `back` refuses this one.
abbrev waits : Procedure
waits = procedure (0 ∷ []) ((cond_br 0 0 1 20 ∷ []) ∷ (stmt 21 ∷ ret 22 ∷ []) ∷ [])

abbrev early : Procedure
early = procedure (0 ∷ []) ((stmt 21 ∷ cond_br 0 1 2 20 ∷ []) ∷ (cond_br 0 1 2 20 ∷ []) ∷ (ret 22 ∷ []) ∷ [])

silent : (N : ℕ) → original waits early 1 N ≡ original waits early 1 0
unfolding effect op_of any_of times writes_in fixed_of single_in constant_in constant_of
silent zero = refl
silent (suc N) = silent N

pub act_too_early : (rescued : ℕ) → Demand3 waits early rescued → ⊥
unfolding effect op_of any_of times writes_in fixed_of single_in constant_in constant_of
act_too_early rescued d =
    let a = (d willing nowhere (regs waits 1) (regs waits 1) (starts waits 1)).back 1 in
    let z : ◌≡◌ {A = ℕ} 2 0 = ap weight (a.1 ∙ silent a.0) in
    omega arith

-- 3. a loop through block 0, to whose front a constant is moved: where register 0 holds 1
abbrev pub looping : Procedure
looping = procedure (0 ∷ 0 ∷ []) (
    (stmt 30 ∷ cond_br 0 0 1 31 ∷ [])
    ∷ (stmt 32 ∷ br 2 33 ∷ [])
    ∷ (code (i.Const (reg_of 1) 7) 34 ∷ cond_br 0 1 3 35 ∷ [])
    ∷ (ret 36 ∷ [])
    ∷ [])

-- as Shorten gives it, with one constant rescued
abbrev pub looping' : Procedure
looping' = procedure (0 ∷ 0 ∷ []) (
    (code (i.Const (reg_of 1) 7) 34 ∷ stmt 30 ∷ cond_br 0 0 1 31 ∷ [])
    ∷ (stmt 32 ∷ cond_br 0 1 3 35 ∷ [])
    ∷ (br 3 34 ∷ [])
    ∷ (ret 36 ∷ [])
    ∷ [])

pub without-entries : AlikeFrom 0 (λ N entries. N) looping looping' → ⊥
unfolding effect op_of any_of times writes_in fixed_of single_in constant_in constant_of
without-entries = refute looping looping' 1 (λ N e. N) 1 tt

-- the rescued constant counted once and not for each entry
pub one_entry : AlikeFrom 0 (λ N entries. N + 1) looping looping' → ⊥
unfolding effect op_of any_of times writes_in fixed_of single_in constant_in constant_of
one_entry = refute looping looping' 1 (λ N e. N + 1) 3 tt
