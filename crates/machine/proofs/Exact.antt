-- Alike asks no more than the sentence: of two runs under one outside, the clauses of Reads give it back.
use Prim.Native.Nat.{ℕ, zero, suc, ◌≤◌, zero-le}
use mathlib.Core.Path.{◌≡◌, refl, sym, ap, ◌∙◌}
use mathlib.Core.Logic.{◌⊎◌, inl, inr}
use mathlib.Core.List.{List, [], ◌∷◌, ◌++◌}
use Rattle.std.proofs.Common.{Option, None, Some}
use native.Mathlib.Omega.{arith}
use Rattle.std.proofs.lemmas.List.{same_from_push}
use Rattle.inst.specs.declared.Code.{Code}
use Rattle.procedure.specs.Procedure.{Procedure}
use Rattle.machine.specs.Act.{Act}
use Rattle.machine.specs.Machine.{Regs, Address, Outside, End, Effect, writes, goes, ends, asks, State}
use Rattle.machine.specs.Machine.{at, done, Shown, shown, start, effect_of, answered, after, step, run}
use Rattle.machine.specs.Demand.{Alike, shows}
use Rattle.machine.proofs.Reading.{Prefix, Reads}

-- a first part of a list and one act more is a first part of the list, or all of it
split : (h xs : List Act) (a : Act) (rest : List Act) → h ++ rest ≡ xs ++ (a ∷ []) → Prefix h xs ⊎ (h ≡ xs ++ (a ∷ []))
split [] xs a rest e = inl (record { rest = xs; joins = refl })
split (x ∷ h) [] a rest e = inr (by h rest (cc) (cc))
  where
    by : (h rest : List Act) → h ++ rest ≡ [] → x ≡ a → x ∷ h ≡ a ∷ []
    by [] rest e i = cc
    by (y ∷ h) rest e i = let z : ◌≡◌ {A = ℕ} 0 1 = cc in absurd (omega arith)
split (x ∷ h) (y ∷ xs) a rest e = by (cc) (split h xs a rest (cc))
  where
    by : x ≡ y → Prefix h xs ⊎ (h ≡ xs ++ (a ∷ [])) → Prefix (x ∷ h) (y ∷ xs) ⊎ (x ∷ h ≡ y ∷ (xs ++ (a ∷ [])))
    by i (inl p) = inl (record { rest = p.rest; joins = cc p.joins })
    by i (inr e) = inr (cc)

-- the acts h are done and the run goes on, or the outside ends any run on the last of them
abbrev Stands : Outside → List Act → Shown → Type 0
Stands outside h o = (o ≡ record { acts = h; end = None }) ⊎ ((h₀ : List Act) × (a : Act) × (h ≡ h₀ ++ (a ∷ [])) × (outside h₀ a ≡ None))

-- a run that goes on was answered on its last act
abbrev Fed : Outside → State → Type 0
Fed outside s = (h₀ : List Act) (a : Act) → (shown s).end ≡ None → (shown s).acts ≡ h₀ ++ (a ∷ []) → outside h₀ a ≡ None → ⊥

module _ (outside : Outside) (address : Address) (p : Procedure) where
  answered_stands : (o : Option (List ℕ)) (a : Act) (rs : List ℕ) (cs : List Code) (g : Regs) (h h' : List Act) → outside h' a ≡ o
      → Prefix h (h' ++ (a ∷ [])) → Prefix h h' ⊎ Stands outside h (shown (answered outside address p o a rs cs g h'))
  answered_stands o a rs cs g h h' e x = by o e (split h h' a x.rest x.joins)
    where
      by : (o : Option (List ℕ)) → outside h' a ≡ o → Prefix h h' ⊎ (h ≡ h' ++ (a ∷ []))
          → Prefix h h' ⊎ Stands outside h (shown (answered outside address p o a rs cs g h'))
      by o e (inl y) = inl y
      by None e (inr y) = inr (inr (h', a, y, e))
      by (Some vs) e (inr y) = inr (inl (cc))

  acts_of : (o : Option (List ℕ)) (a : Act) (rs : List ℕ) (cs : List Code) (g : Regs) (h : List Act)
      → (shown (answered outside address p o a rs cs g h)).acts ≡ h ++ (a ∷ [])
  acts_of None a rs cs g h = refl
  acts_of (Some vs) a rs cs g h = refl

  after_stands : (x : Effect) (rs : List ℕ) (cs : List Code) (g : Regs) (h h' : List Act) → Prefix h (shown (after outside address p x rs cs g h')).acts
      → Prefix h h' ⊎ Stands outside h (shown (after outside address p x rs cs g h'))
  after_stands (writes vs) rs cs g h h' y = inl y
  after_stands (goes b) rs cs g h h' y = inl y
  after_stands (ends e) rs cs g h h' y = inl y
  after_stands (asks a) rs cs g h h' y = answered_stands (outside h' a) a rs cs g h h' refl (rw acts_of at y)

  step_stands : (s : State) (h : List Act) → Prefix h (shown (step outside address p s)).acts
      → Prefix h (shown s).acts ⊎ Stands outside h (shown (step outside address p s))
  step_stands (at [] g h') h y = inl y
  step_stands (at (c ∷ cs) g h') h y = after_stands (effect_of outside address p c g) _ cs g h h' y
  step_stands (done h' e) h y = inl y

  run_suc : (n : ℕ) (s : State) → run outside address p (suc n) s ≡ step outside address p (run outside address p n s)
  run_suc zero s = refl
  run_suc (suc n) s = run_suc n (step outside address p s)

  answered_fed : (o : Option (List ℕ)) (a : Act) (rs : List ℕ) (cs : List Code) (g : Regs) (h : List Act) → outside h a ≡ o
      → Fed outside (answered outside address p o a rs cs g h)
  answered_fed None a rs cs g h e h₀ b x y z = let w : ◌≡◌ {A = ℕ} 0 1 = cc in omega arith
  answered_fed (Some vs) a rs cs g h e h₀ b x y z =
      let t = same_from_push h h₀ a b y in
      let i = t.0 in
      let j = t.1 in
      let w : ◌≡◌ {A = ℕ} 0 1 = cc in
      omega arith

  after_fed : (x : Effect) (rs : List ℕ) (cs : List Code) (g : Regs) (h : List Act) → Fed outside (at cs g h)
      → Fed outside (after outside address p x rs cs g h)
  after_fed (writes vs) rs cs g h f = f
  after_fed (goes b) rs cs g h f = f
  after_fed (ends e) rs cs g h f = λ h₀ b x y z. let w : ◌≡◌ {A = ℕ} 0 1 = cc in omega arith
  after_fed (asks a) rs cs g h f = answered_fed (outside h a) a rs cs g h refl

  step_fed : (s : State) → Fed outside s → Fed outside (step outside address p s)
  step_fed (at [] g h) f = λ h₀ b x y z. let w : ◌≡◌ {A = ℕ} 0 1 = cc in omega arith
  step_fed (at (c ∷ cs) g h) f = after_fed (effect_of outside address p c g) _ cs g h f
  step_fed (done h e) f = f

  run_fed : (n : ℕ) (s : State) → Fed outside s → Fed outside (run outside address p n s)
  run_fed zero s f = f
  run_fed (suc n) s f = run_fed n (step outside address p s) (step_fed s f)

  module _ (block : ℕ) (g : Regs) where
    abbrev s₀ : State
    s₀ = start outside address p block g

    fed : (n : ℕ) → Fed outside (run outside address p n s₀)
    fed n = run_fed n s₀ (λ h₀ a x y z. by h₀ a y)
      where
        by : (h₀ : List Act) (a : Act) → [] ≡ h₀ ++ (a ∷ []) → ⊥
        by [] a y = let w : ◌≡◌ {A = ℕ} 0 1 = cc in omega arith
        by (b ∷ h₀) a y = let w : ◌≡◌ {A = ℕ} 0 1 = cc in omega arith

    -- a run that has done some acts has stood behind each of them
    reach : (n : ℕ) (h : List Act) → Prefix h (shows outside address p block g n).acts
        → (M : ℕ) × (M ≤ n) × Stands outside h (shows outside address p block g M)
    reach zero h y = (0, zero-le, inl (by h y.rest y.joins))
      where
        by : (h rest : List Act) → h ++ rest ≡ [] → shown s₀ ≡ record { acts = h; end = None }
        by [] rest e = refl
        by (a ∷ h) rest e = let w : ◌≡◌ {A = ℕ} 0 1 = cc in absurd (omega arith)
    reach (suc n) h y = by (step_stands (run outside address p n s₀) h (rw run_suc at y)) (reach n h)
      where
        by : Prefix h (shows outside address p block g n).acts ⊎ Stands outside h (shown (step outside address p (run outside address p n s₀)))
            → (Prefix h (shows outside address p block g n).acts → (M : ℕ) × (M ≤ n) × Stands outside h (shows outside address p block g M))
            → (M : ℕ) × (M ≤ suc n) × Stands outside h (shows outside address p block g M)
        by (inl z) k = let t = k z in (t.0, omega (arith, t.1), t.2)
        by (inr z) k = (suc n, omega arith, rw run_suc z)

module _ (outside : Outside) (address : Address) (p q : Procedure) (block : ℕ) (g g' : Regs) (bound : ℕ → ℕ) where
  abbrev P : ℕ → Shown
  P = shows outside address p block g

  abbrev Q : ℕ → Shown
  Q = shows outside address q block g'

  pub exact : Reads bound P Q → Alike bound P Q
  exact r = record { there = λ N. forth N _ refl; back = λ M. back M _ refl }
    where
      stood : (N : ℕ) → (P N).end ≡ None → {o : Shown} → Stands outside (P N).acts o → o ≡ P N
      stood N x (inl e) = e ∙ ap (λ z. record { acts = (P N).acts; end = z }) (sym x)
      stood N x (inr (h₀, a, e, z)) = absurd (fed outside address p block g N h₀ a x e z)

      stood' : (M : ℕ) → (Q M).end ≡ None → {o : Shown} → Stands outside (Q M).acts o → o ≡ Q M
      stood' M x (inl e) = e ∙ ap (λ z. record { acts = (Q M).acts; end = z }) (sym x)
      stood' M x (inr (h₀, a, e, z)) = absurd (fed outside address q block g' M h₀ a x e z)

      forth : (N : ℕ) (o : Option End) → (P N).end ≡ o → (M : ℕ) × (M ≤ bound N) × (Q M ≡ P N)
      forth N (Some e) x = (bound N, omega arith, r.ends_if N e x)
      forth N None x = let t = reach outside address q block g' (bound N) (P N).acts (r.does N) in (t.0, t.1, stood N x t.2)

      back : (M : ℕ) (o : Option End) → (Q M).end ≡ o → (N : ℕ) × (Q M ≡ P N)
      back M (Some e) x = let t = r.ends_only_if M e x in (t.0, sym t.1)
      back M None x =
          let t = r.no_other M in
          let u = reach outside address p block g t.0 (Q M).acts t.1 in
          (u.0, sym (stood' M x u.2))
