-- A further stage behind a form that runs as the original does: two laws.
use Prim.Native.Nat.{ℕ}
use mathlib.Core.Path.{◌≡◌, sym, ap, ◌∙◌}
use native.Mathlib.Omega.{arith}
use Rattle.procedure.specs.Procedure.{Procedure}
use Rattle.machine.specs.Machine.{Regs, Address, Outside, State, Shown, shown, start}
use Rattle.machine.specs.Demand.{Alike, shows}
use Rattle.machine.proofs.Shorter.{Shorter, mach, seen, steps_run, spent_is}

-- a run that shows the same after each number of instructions
pub alike_same : {bound : ℕ → ℕ} {original form next : ℕ → Shown} → ((M : ℕ) → next M ≡ form M) → Alike bound original form → Alike bound original next
alike_same e a =
    record {
      there = λ N. let t = a.there N in (t.0, t.1, e t.0 ∙ t.2);
      back = λ M. let t = a.back M in (t.0, e M ∙ t.1);
    }

-- a run that is shorter, where each instruction costs one
module _ (outside : Outside) (address : Address) (q r : Procedure) (block : ℕ) (g g' : Regs) where
  abbrev s : State
  s = start outside address q block g

  abbrev s' : State
  s' = start outside address r block g'

  pub alike_then : {bound : ℕ → ℕ} {original : ℕ → Shown} → Shorter (mach outside address 0 q) (mach outside address 0 r) s s'
      → Alike bound original (shows outside address q block g) → Alike bound original (shows outside address r block g')
  alike_then x a = record {
    there = λ N.
        let t = a.there N in
        let u = x.there t.0 in (
          u.0,
          omega (arith, t.1, u.1, spent_is outside address q 0 t.0 s, spent_is outside address r 0 u.0 s'),
          after u.0 ∙ u.2 ∙ before t.0 ∙ t.2,
        );
    back = λ M. let u = x.back M in let t = a.back u.0 in (t.0, after M ∙ u.1 ∙ before u.0 ∙ t.1);
  }
    where
      before : (n : ℕ) → seen (mach outside address 0 q) n s ≡ shows outside address q block g n
      before n = ap shown (steps_run outside address q 0 n s)

      after : (n : ℕ) → shows outside address r block g' n ≡ seen (mach outside address 0 r) n s'
      after n = sym (ap shown (steps_run outside address r 0 n s'))
