-- Demand 3's sentence clause by clause, from the two directions of Alike.
use Prim.Native.Nat.{ℕ, zero, suc, ◌+◌, ◌-◌, ◌≤◌}
use mathlib.Core.Path.{◌≡◌, refl, sym, ap, subst, ◌∙◌}
use mathlib.Core.List.{List, [], ◌∷◌, ◌++◌, append_assoc, append-nil}
use Rattle.std.proofs.Common.{Option, None, Some}
use native.Mathlib.Omega.{arith}
use native.Mathlib.Nat.{zero-add, suc-add}
use Rattle.inst.specs.declared.Code.{Code}
use Rattle.procedure.specs.Procedure.{Procedure}
use Rattle.machine.specs.Act.{Act}
use Rattle.machine.specs.Machine.{Regs, Address, Outside, End, Effect, writes, goes, ends, asks, State}
use Rattle.machine.specs.Machine.{at, done, Shown, shown, start, effect_of, answered, after, step, run}
use Rattle.machine.specs.Demand.{Alike, shows}

pub record Prefix (xs ys : List Act) : Type 0 where
  pub rest : List Act
  pub joins : xs ++ rest ≡ ys

pub prefix_refl : (xs : List Act) → Prefix xs xs
prefix_refl xs = record { rest = []; joins = append-nil xs }

pub prefix_trans : {xs ys zs : List Act} → Prefix xs ys → Prefix ys zs → Prefix xs zs
prefix_trans {xs} a b =
    record {
      rest = a.rest ++ b.rest;
      joins = sym (append_assoc xs a.rest b.rest) ∙ ap (λ l. l ++ b.rest) a.joins ∙ b.joins;
    }

pub record Reads (bound : ℕ → ℕ) (original shortened : ℕ → Shown) : Type 0 where
  -- it does the original's acts, in order, with their values and statements, within the bound
  pub does : (N : ℕ) → Prefix (original N).acts (shortened (bound N)).acts
  -- it does no other act
  pub no_other : (M : ℕ) → (N : ℕ) × Prefix (shortened M).acts (original N).acts
  -- it ends if the original does, within the bound, and alike
  pub ends_if : (N : ℕ) (e : End) → (original N).end ≡ Some e → shortened (bound N) ≡ original N
  -- and only if the original does, and alike
  pub ends_only_if : (M : ℕ) (e : End) → (shortened M).end ≡ Some e → (N : ℕ) × (original N ≡ shortened M)

module _ (outside : Outside) (address : Address) (p : Procedure) where
  answered-grows : (o : Option (List ℕ)) (a : Act) (rs : List ℕ) (cs : List Code) (g : Regs) (h : List Act)
      → Prefix h (shown (answered outside address p o a rs cs g h)).acts
  answered-grows None a rs cs g h = record { rest = a ∷ []; joins = refl }
  answered-grows (Some vs) a rs cs g h = record { rest = a ∷ []; joins = refl }

  after-grows : (x : Effect) (rs : List ℕ) (cs : List Code) (g : Regs) (h : List Act) → Prefix h (shown (after outside address p x rs cs g h)).acts
  after-grows (writes vs) rs cs g h = prefix_refl h
  after-grows (goes b) rs cs g h = prefix_refl h
  after-grows (ends e) rs cs g h = prefix_refl h
  after-grows (asks a) rs cs g h = answered-grows (outside h a) a rs cs g h

  step-grows : (s : State) → Prefix (shown s).acts (shown (step outside address p s)).acts
  step-grows (at [] g h) = prefix_refl h
  step-grows (at (c ∷ cs) g h) = after-grows (effect_of outside address p c g) _ cs g h
  step-grows (done h e) = prefix_refl h

  run-grows : (n : ℕ) (s : State) → Prefix (shown s).acts (shown (run outside address p n s)).acts
  run-grows zero s = prefix_refl _
  run-grows (suc n) s = prefix_trans (step-grows s) (run-grows n (step outside address p s))

  pub run_add : (k n : ℕ) (s : State) → run outside address p (k + n) s ≡ run outside address p n (run outside address p k s)
  run_add zero n s = rw zero-add
  run_add (suc k) n s = rw suc-add (run_add k n (step outside address p s))

  pub run-done : (n : ℕ) (h : List Act) (e : End) → run outside address p n (done h e) ≡ done h e
  run-done zero h e = refl
  run-done (suc n) h e = run-done n h e

  stays : (n : ℕ) (s : State) (e : End) → (shown s).end ≡ Some e → shown (run outside address p n s) ≡ shown s
  stays n (at cs g h) e x = let z : ◌≡◌ {A = ℕ} 0 1 = cc in absurd (omega arith)
  stays n (done h e') e x = rw run-done

  module _ (block : ℕ) (g : Regs) where
    -- more instructions, and no act less
    pub grows : (n m : ℕ) → n ≤ m → Prefix (shows outside address p block g n).acts (shows outside address p block g m).acts
    grows n m l =
        let s = start outside address p block g in
        let e : n + (m - n) ≡ m = omega arith in
        subst (λ z. Prefix (shown (run outside address p n s)).acts (shown (run outside address p z s)).acts) e
        (rw run_add (run-grows (m - n) (run outside address p n s)))

    -- "after the end nothing more is done"
    pub ended : (n m : ℕ) (e : End) → n ≤ m → (shows outside address p block g n).end ≡ Some e
        → shows outside address p block g m ≡ shows outside address p block g n
    ended n m e l x =
        let s = start outside address p block g in
        let q : n + (m - n) ≡ m = omega arith in
        subst (λ z. shown (run outside address p z s) ≡ shown (run outside address p n s)) q
        (rw run_add (stays (m - n) (run outside address p n s) e x))

pub reads : (outside : Outside) (address : Address) (p q : Procedure) (block : ℕ) (g g' : Regs) (bound : ℕ → ℕ)
    → Alike bound (shows outside address p block g) (shows outside address q block g')
    → Reads bound (shows outside address p block g) (shows outside address q block g')
reads outside address p q block g g' bound a =
    record {
      does = λ N. let t = a.there N in rw (← t.2) (grows outside address q block g' t.0 (bound N) t.1);
      no_other = λ M. let t = a.back M in (t.0, rw t.1 (prefix_refl _));
      ends_if = λ N e x.
          let t = a.there N in
          ended outside address q block g' t.0 (bound N) e t.1 (ap (λ (o : Shown). o.end) t.2 ∙ x) ∙ t.2;
      ends_only_if = λ M e x. let t = a.back M in (t.0, sym t.1);
    }
