-- Demand 3 proved of two pairs, for every outside and every start: the printed procedure, and the loop through block 0.
use Prim.Native.Nat.{ℕ, zero, suc, ◌≤◌}
use mathlib.Core.Path.{◌≡◌, refl, sym, ◌∙◌}
use mathlib.Core.List.{List, [], ◌∷◌}
use Rattle.std.proofs.Common.{Option, None, Some}
use native.Mathlib.Omega.{arith}
use lib.Dec.{lit<}
use Rattle.inst.specs.declared.Inst.TheVariants as i
use Rattle.word.specs.Word.{choose}
use Rattle.machine.specs.Act.{Act, act_of, op_of}
use Rattle.machine.specs.Machine.{Regs, Address, Outside, End, State, at, done, shown, enter, answered, effect}
use Rattle.machine.specs.Demand.{Demand3, shows}
use Rattle.machine.proofs.Shorter.{Mach, Stretch, simulates, together, mach, seen, at_once, alike}
use Rattle.machine.proofs.Printed.{stmt, br, cond_br, ret, printed, printed'}
use Rattle.machine.proofs.Refuted.{looping, looping'}

module _ (outside : Outside) (address : Address) where
  abbrev m : Mach
  m = mach outside address 0 printed

  abbrev m' : Mach
  m' = mach outside address 0 printed'

  -- where the two runs stand: before an act, before the branch behind it, before the Ret, at the end
  data R : State → State → Type 0 where
    act : (n k : ℕ) (g g' : Regs) (h : List Act) → g 0 ≡ g' 0 → R (at (stmt n ∷ br 2 k ∷ []) g h) (at (stmt n ∷ cond_br 0 1 3 14 ∷ []) g' h)
    branch : (k : ℕ) (g g' : Regs) (h : List Act) → g 0 ≡ g' 0 → R (at (br 2 k ∷ []) g h) (at (cond_br 0 1 3 14 ∷ []) g' h)
    last : (g g' : Regs) (h : List Act) → R (at (ret 15 ∷ []) g h) (at (ret 15 ∷ []) g' h)
    over : (h : List Act) (e : End) → R (done h e) (done h e)

  same : (s s' : State) → R s s' → shown s ≡ shown s'
  same s s' (act n k g g' h e) = refl
  same s s' (branch k g g' h e) = refl
  same s s' (last g g' h) = refl
  same s s' (over h e) = refl

  acted : (o : Option (List ℕ)) (a : Act) (k : ℕ) (g g' : Regs) (h : List Act) → g 0 ≡ g' 0
      → R (answered outside address printed o a [] (br 2 k ∷ []) g h) (answered outside address printed' o a [] (cond_br 0 1 3 14 ∷ []) g' h)
  acted None a k g g' h e = over _ _
  acted (Some vs) a k g g' h e = branch k g g' _ e

  lands : (v : ℕ) (g g' : Regs) (h : List Act) → g 0 ≡ g' 0
      → R (enter outside address printed (choose v 1 3) g h) (enter outside address printed' (choose v 1 3) g' h)
  lands zero g g' h e = last g g' h
  lands (suc v) g g' h e = act 12 13 g g' h e

  quiet : (k : ℕ) (g : Regs) (h : List Act) (j : ℕ) → j ≤ 1 → seen m j (at (br 2 k ∷ []) g h) ≡ record { acts = h; end = None }
  unfolding effect op_of
  quiet k g h zero l = refl
  quiet k g h (suc zero) l = refl
  quiet k g h (suc (suc j)) l = absurd (omega arith)

  go_on : (s s' : State) → R s s' → Stretch m m' R s s'
  unfolding effect op_of
  go_on s s' (act n k g g' h e) = together m m' R _ _ (omega arith) (acted (outside h (act_of i.Stmt n [])) (act_of i.Stmt n []) k g g' h e)
  go_on s s' (branch k g g' h e) =
      record {
        k = 1;
        k' = 0;
        rel = rw (← e) (lands (g 0) g g' h e);
        cheap = omega arith;
        quiet = quiet k g h;
        quiet' = at_once m' _;
      }
  go_on s s' (last g g' h) = together m m' R _ _ (omega arith) (over _ _)
  go_on s s' (over h e) = together m m' R _ _ (omega arith) (over h e)

pub printed_holds : Demand3 printed printed' 0
printed_holds outside address g g' s =
    alike outside address printed printed' 0 0 g g' 0 0 (omega arith) still
    (simulates _ _ (R outside address) (same outside address) (go_on outside address) _ _ (act 10 11 g g' [] (s.same 0 (lit< tt))))
  where
    still : (i : ℕ) → i ≤ 0 → shows outside address printed' 0 g' i ≡ shows outside address printed 0 g 0
    still zero l = refl
    still (suc i) l = absurd (omega arith)

module _ (outside : Outside) (address : Address) where
  abbrev l : Mach
  l = mach outside address 1 looping

  abbrev l' : Mach
  l' = mach outside address 0 looping'

  -- the same, in block 0 with its constant behind it, and in block 1
  data Q : State → State → Type 0 where
    act₀ : (g g' : Regs) (h : List Act) → g 0 ≡ g' 0 → Q (at (stmt 30 ∷ cond_br 0 0 1 31 ∷ []) g h) (at (stmt 30 ∷ cond_br 0 0 1 31 ∷ []) g' h)
    branch₀ : (g g' : Regs) (h : List Act) → g 0 ≡ g' 0 → Q (at (cond_br 0 0 1 31 ∷ []) g h) (at (cond_br 0 0 1 31 ∷ []) g' h)
    act₁ : (g g' : Regs) (h : List Act) → g 0 ≡ g' 0 → Q (at (stmt 32 ∷ br 2 33 ∷ []) g h) (at (stmt 32 ∷ cond_br 0 1 3 35 ∷ []) g' h)
    branch₁ : (g g' : Regs) (h : List Act) → g 0 ≡ g' 0 → Q (at (br 2 33 ∷ []) g h) (at (cond_br 0 1 3 35 ∷ []) g' h)
    last : (g g' : Regs) (h : List Act) → Q (at (ret 36 ∷ []) g h) (at (ret 36 ∷ []) g' h)
    over : (h : List Act) (e : End) → Q (done h e) (done h e)

  same₂ : (s s' : State) → Q s s' → shown s ≡ shown s'
  same₂ s s' (act₀ g g' h e) = refl
  same₂ s s' (branch₀ g g' h e) = refl
  same₂ s s' (act₁ g g' h e) = refl
  same₂ s s' (branch₁ g g' h e) = refl
  same₂ s s' (last g g' h) = refl
  same₂ s s' (over h e) = refl

  acted₀ : (o : Option (List ℕ)) (a : Act) (g g' : Regs) (h : List Act) → g 0 ≡ g' 0
      → Q (answered outside address looping o a [] (cond_br 0 0 1 31 ∷ []) g h) (answered outside address looping' o a [] (cond_br 0 0 1 31 ∷ []) g' h)
  acted₀ None a g g' h e = over _ _
  acted₀ (Some vs) a g g' h e = branch₀ g g' _ e

  acted₁ : (o : Option (List ℕ)) (a : Act) (g g' : Regs) (h : List Act) → g 0 ≡ g' 0
      → Q (answered outside address looping o a [] (br 2 33 ∷ []) g h) (answered outside address looping' o a [] (cond_br 0 1 3 35 ∷ []) g' h)
  acted₁ None a g g' h e = over _ _
  acted₁ (Some vs) a g g' h e = branch₁ g g' _ e

  lands₁ : (v : ℕ) (g g' : Regs) (h : List Act) → g 0 ≡ g' 0
      → Q (enter outside address looping (choose v 1 3) g h) (enter outside address looping' (choose v 1 3) g' h)
  lands₁ zero g g' h e = last g g' h
  lands₁ (suc v) g g' h e = act₁ g g' h e

  quiet₁ : (g : Regs) (h : List Act) (j : ℕ) → j ≤ 2 → seen l j (at (br 2 33 ∷ []) g h) ≡ record { acts = h; end = None }
  unfolding effect op_of
  quiet₁ g h zero x = refl
  quiet₁ g h (suc zero) x = refl
  quiet₁ g h (suc (suc zero)) x = refl
  quiet₁ g h (suc (suc (suc j))) x = absurd (omega arith)

  quiet₀ : (g : Regs) (h : List Act) (v : ℕ) → g 0 ≡ suc v → (j : ℕ) → j ≤ 1 → seen l' j (at (cond_br 0 0 1 31 ∷ []) g h) ≡ record { acts = h; end = None }
  unfolding effect op_of
  quiet₀ g h v a zero x = refl
  quiet₀ g h v a (suc zero) x = refl
  quiet₀ g h v a (suc (suc j)) x = absurd (omega arith)

  -- block 0 again costs the original one instruction and the shortened form two
  turns : (v : ℕ) (g g' : Regs) (h : List Act) → g 0 ≡ v → g' 0 ≡ v
      → Stretch l l' Q (at (cond_br 0 0 1 31 ∷ []) g h) (at (cond_br 0 0 1 31 ∷ []) g' h)
  unfolding effect op_of
  turns zero g g' h a b = together l l' Q _ _ (rw (a, b) (omega arith)) (rw (a, b) (act₁ g g' h (a ∙ sym b)))
  turns (suc v) g g' h a b =
      record {
        k = 0;
        k' = 1;
        rel = rw (a, b) (act₀ g _ h (a ∙ sym b));
        cheap = rw (a, b) (omega arith);
        quiet = at_once l _;
        quiet' = quiet₀ g' h v b;
      }

  go_on₂ : (s s' : State) → Q s s' → Stretch l l' Q s s'
  unfolding effect op_of
  go_on₂ s s' (act₀ g g' h e) = together l l' Q _ _ (omega arith) (acted₀ (outside h (act_of i.Stmt 30 [])) (act_of i.Stmt 30 []) g g' h e)
  go_on₂ s s' (branch₀ g g' h e) = turns (g 0) g g' h refl (sym e)
  go_on₂ s s' (act₁ g g' h e) = together l l' Q _ _ (omega arith) (acted₁ (outside h (act_of i.Stmt 32 [])) (act_of i.Stmt 32 []) g g' h e)
  go_on₂ s s' (branch₁ g g' h e) =
      record {
        k = 2;
        k' = 0;
        rel = rw (← e) (lands₁ (g 0) _ g' h e);
        cheap = omega arith;
        quiet = quiet₁ g h;
        quiet' = at_once l' _;
      }
  go_on₂ s s' (last g g' h) = together l l' Q _ _ (omega arith) (over _ _)
  go_on₂ s s' (over h e) = together l l' Q _ _ (omega arith) (over h e)

pub looping_holds : Demand3 looping looping' 1
unfolding effect op_of
looping_holds outside address g g' s =
    alike outside address looping looping' 0 1 g g' 0 1 (omega arith) still
    (simulates _ _ (Q outside address) (same₂ outside address) (go_on₂ outside address) _ _ (act₀ g _ [] (s.same 0 (lit< tt))))
  where
    still : (i : ℕ) → i ≤ 1 → shows outside address looping' 0 g' i ≡ shows outside address looping 0 g 0
    still zero l = refl
    still (suc zero) l = refl
    still (suc (suc i)) l = absurd (omega arith)
