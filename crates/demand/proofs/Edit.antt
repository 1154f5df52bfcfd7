-- One block's end replaced: the two runs stay related. Registers agree where they aren't local, or are exposed in what the new run has left of its block.
use Prim.Native.Nat.{ℕ, ◌*◌, ◌≤◌}
use mathlib.Core.Path.{◌≡◌, refl, sym, ap, subst₂, ◌∙◌}
use mathlib.Core.Logic.{◌⊎◌, inl, inr}
use mathlib.Core.List.{List, [], ◌∷◌, ◌++◌}
use Rattle.std.proofs.Common.{Option, None, Some}
use mathlib.Core.Bool.{false}
use native.Mathlib.Omega.{arith}
use lib.ListN.{get_or}
use Rattle.inst.specs.declared.Code.{Code}
use Rattle.machine.specs.Act.{Act}
use Rattle.machine.specs.Machine.{Regs, End, Effect, writes, goes, ends, asks, State, at}
use Rattle.machine.specs.Machine.{done, stores, shown, answered, after, effect, step, entry, entry_of, ran_out}
use Rattle.machine.proofs.Shorter.{Mach, Shorter, Stretch, simulates, together, mach}
use Rattle.demand.specs.Setting.{Each, Setting, code, does, defs_at, reads_at, Exposed, Hidden, Fine, Loaded, Passes, Behind}
use Rattle.demand.proofs.Basics.{map_same, stores_agree}
use Rattle.demand.proofs.Effects.{effect_is, keeps}
use Rattle.demand.proofs.Stretches.{widen}

module _ (E : Setting) where
  abbrev pub Meet : Regs → Regs → Type 0
  Meet g g' = (r : ℕ) → E.local r ≡ false → g r ≡ g' r

  -- a register that isn't local, or is exposed in some code
  abbrev pub Live : List Code → ℕ → Type 0
  Live c r = (E.local r ≡ false) ⊎ Exposed E.operands c r

  abbrev pub Agree : List Code → Regs → Regs → Type 0
  Agree c g g' = (r : ℕ) → Live c r → g r ≡ g' r

  pub meet : (c : List Code) (g g' : Regs) → Agree c g g' → Meet g g'
  meet c g g' a r e = a r (inl e)

  pub agree : (c : List Code) (g g' : Regs) → Hidden E c → Meet g g' → Agree c g g'
  agree c g g' k a r (inl e) = a r e
  agree c g g' k a r (inr x) = a r (k r x)

  -- an instruction that both have before them does the same in both
  pub same-does : (x : Code) (c : List Code) (g g' : Regs) → Agree (x ∷ c) g g' → does E x g ≡ does E x g'
  same-does x c g g' a =
      ap (λ vs. effect E.address E.tables x.stmt.0 [] vs x.inst) (map_same g g' (reads_at E.operands x) (λ r m. a r (inr (inl m))))

  agree_stores : (x : Code) (c : List Code) (g g' : Regs) (vs : List ℕ) → Agree (x ∷ c) g g' → Agree c (stores (defs_at x) vs g) (stores (defs_at x) vs g')
  agree_stores x c g g' vs a r (inl e) = stores_agree (defs_at x) vs g g' r (λ n. a r (inl e))
  agree_stores x c g g' vs a r (inr y) = stores_agree (defs_at x) vs g g' r (λ n. a r (inr (inr (n, y))))

  module _ (rs : List ℕ) (P : List (List Code)) where
    pub step_is : (x : Code) (c : List Code) (g : Regs) (h : List Act)
        → step E.outside E.address (code E rs P) (at (x ∷ c) g h) ≡ after E.outside E.address (code E rs P) (does E x g) (defs_at x) c g h
    step_is x c g h = ap (λ e. after E.outside E.address (code E rs P) e (defs_at x) c g h) (effect_is E rs P x g)

    pub entry-is : (x : Code) (c : List Code) (g : Regs) (h : List Act)
        → entry E.outside E.address (code E rs P) (at (x ∷ c) g h) ≡ entry_of E.outside E.address (code E rs P) (does E x g)
    entry-is x c g h = ap (entry_of E.outside E.address (code E rs P)) (effect_is E rs P x g)

  module _ (κ : ℕ) (rs rs' : List ℕ) (P P' : List (List Code)) where
    abbrev pub old : Mach
    old = mach E.outside E.address κ (code E rs P)

    abbrev pub new : Mach
    new = mach E.outside E.address κ (code E rs' P')

    -- both come to one block, or have ended alike
    pub data Same : State → State → Type 0 where
      entering : (b : ℕ) (g g' : Regs) (h : List Act) → Loaded E g → Meet g g' → Same (at (get_or P b []) g h) (at (get_or P' b []) g' h)
      both : (h : List Act) (e : End) → Same (done h e) (done h e)

    entry-same : (e : Effect) → entry_of E.outside E.address (code E rs P) e ≡ entry_of E.outside E.address (code E rs' P') e
    entry-same (writes vs) = refl
    entry-same (goes b) = refl
    entry-same (ends e) = refl
    entry-same (asks a) = refl

    -- an instruction with one effect costs the same in both
    pub weigh : (x x' : Code) (c c' : List Code) (g g' : Regs) (h h' : List Act) → does E x g ≡ does E x' g'
        → new.cost (at (x' ∷ c') g' h') ≤ old.cost (at (x ∷ c) g h)
    weigh x x' c c' g g' h h' e =
        let p : entry E.outside E.address (code E rs' P') (at (x' ∷ c') g' h') ≡ entry E.outside E.address (code E rs P) (at (x ∷ c) g h) =
        entry-is rs' P' x' c' g' h' ∙ ap (entry_of E.outside E.address (code E rs' P')) (sym e) ∙ sym (entry-same (does E x g))
        ∙ sym (entry-is rs P x c g h) in
        omega (arith, ap (λ z. κ * z) p)

    module _ (Q : Regs → Type 0) where
      -- the ends of a block, run from where Q holds
      abbrev pub Tail : List Code → List Code → Type 0
      Tail d d' = (g g' : Regs) (h : List Act) → Loaded E g → Q g → Agree d' g g' → Stretch old new Same (at d g h) (at d' g' h)

      pub data Block : List Code → List Code → Type 0 where
        whole : (c : List Code) → Each (Fine E) c → Hidden E c → Block c c
        part : (pre d d' : List Code) → Each (Fine E) pre → Hidden E (pre ++ d') → ((g : Regs) → Loaded E g → Behind E Q pre g) → Tail d d'
            → Block (pre ++ d) (pre ++ d')

      data R : State → State → Type 0 where
        ran : (c : List Code) (g g' : Regs) (h : List Act) → Each (Fine E) c → Loaded E g → Agree c g g' → R (at c g h) (at c g' h)
        near : (pre d d' : List Code) (g g' : Regs) (h : List Act) → Each (Fine E) pre → Behind E Q pre g → Tail d d' → Loaded E g
            → Agree (pre ++ d') g g' → R (at (pre ++ d) g h) (at (pre ++ d') g' h)
        over : (h : List Act) (e : End) → R (done h e) (done h e)

      module _ (blocks : (b : ℕ) → Block (get_or P b []) (get_or P' b [])) where
        entered : (c c' : List Code) → Block c c' → (g g' : Regs) (h : List Act) → Loaded E g → Meet g g' → R (at c g h) (at c' g' h)
        entered c c' (whole d f k) g g' h l a = ran d g g' h f l (agree d g g' k a)
        entered c c' (part pre d d' f k b t) g g' h l a = near pre d d' g g' h f (b g l) t l (agree (pre ++ d') g g' k a)

        from-same : (s s' : State) → Same s s' → R s s'
        from-same s s' (entering b g g' h l a) = entered _ _ (blocks b) g g' h l a
        from-same s s' (both h e) = over h e

        -- after an effect of both; the code that is left is c, or a part before the ends
        data Rest : List Code → List Code → Type 0 where
          alike : (c : List Code) → Each (Fine E) c → Rest c c
          apart : (pre d d' : List Code) → Each (Fine E) pre → Tail d d' → Rest (pre ++ d) (pre ++ d')

        abbrev Ahead : {c c' : List Code} → Rest c c' → Regs → Type 0
        Ahead (alike c f) g = Unit {0}
        Ahead (apart pre d d' f t) g = Behind E Q pre g

        rest : {c c' : List Code} (y : Rest c c') (g g' : Regs) (h : List Act) → Ahead y g → Loaded E g → Agree c' g g' → R (at c g h) (at c' g' h)
        rest (alike c f) g g' h b l a = ran c g g' h f l a
        rest (apart pre d d' f t) g g' h b l a = near pre d d' g g' h f b t l a

        module _ (x : Code) {c c' : List Code} (y : Rest c c') (g g' : Regs) (h : List Act) (l : Loaded E g) (a : Agree (x ∷ c') g g') where
          answer_on : (o : Option (List ℕ)) (q : Act) → ((vs : List ℕ) → Loaded E (stores (defs_at x) vs g))
              → ((vs : List ℕ) → Ahead y (stores (defs_at x) vs g))
              → R (answered E.outside E.address (code E rs P) o q (defs_at x) c g h)
              (answered E.outside E.address (code E rs' P') o q (defs_at x) c' g' h)
          answer_on None q k b = over _ _
          answer_on (Some vs) q k b = rest y _ _ _ (b vs) (k vs) (agree_stores x c' g g' vs a)

          go : (e : Effect) → Passes e (defs_at x) (Loaded E) g → Passes e (defs_at x) (Ahead y) g
              → R (after E.outside E.address (code E rs P) e (defs_at x) c g h) (after E.outside E.address (code E rs' P') e (defs_at x) c' g' h)
          go (writes vs) k b = rest y _ _ h b k (agree_stores x c' g g' vs a)
          go (goes t) k b = entered _ _ (blocks t) g g' h l (meet (x ∷ c') g g' a)
          go (ends e) k b = over h e
          go (asks q) k b = answer_on (E.outside h q) q k b

          both_step : Fine E x → Passes (does E x g) (defs_at x) (Ahead y) g → Stretch old new R (at (x ∷ c) g h) (at (x ∷ c') g' h)
          both_step f b =
              let e = same-does x c' g g' a in
              together old new R _ _ (weigh x x c c' g g' h h e)
              (subst₂ R (sym (step_is rs P x c g h))
              (sym (step_is rs' P' x c' g' h ∙ ap (λ z. after E.outside E.address (code E rs' P') z (defs_at x) c' g' h) (sym e)))
              (go (does E x g) (keeps E x g f l) b))

        passes_unit : (e : Effect) (ws : List ℕ) (g : Regs) → Passes e ws (λ g. Unit {0}) g
        passes_unit (writes vs) ws g = tt
        passes_unit (goes b) ws g = tt
        passes_unit (ends e) ws g = tt
        passes_unit (asks a) ws g = λ vs. tt

        go_on : (s s' : State) → R s s' → Stretch old new R s s'
        go_on s s' (ran [] g g' h f l a) = together old new R _ _ (omega arith) (over h ran_out)
        go_on s s' (ran (x ∷ c) g g' h f l a) = both_step x (alike c f.1) g g' h l a f.0 (passes_unit (does E x g) (defs_at x) g)
        go_on s s' (near [] d d' g g' h f b t l a) = widen old new Same R from-same _ _ (t g g' h l b a)
        go_on s s' (near (x ∷ pre) d d' g g' h f b t l a) = both_step x (apart pre d d' f.1 t) g g' h l a f.0 b
        go_on s s' (over h e) = together old new R _ _ (omega arith) (over h e)

        same : (s s' : State) → R s s' → shown s ≡ shown s'
        same s s' (ran c g g' h f l a) = refl
        same s s' (near pre d d' g g' h f b t l a) = refl
        same s s' (over h e) = refl

        -- the new run is shorter, from any block
        pub edited : (b : ℕ) (g g' : Regs) (h : List Act) → Loaded E g → Meet g g' → Shorter old new (at (get_or P b []) g h) (at (get_or P' b []) g' h)
        edited b g g' h l a = simulates old new R same go_on _ _ (entered _ _ (blocks b) g g' h l a)
