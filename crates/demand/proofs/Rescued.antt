-- Single constants written once more at the front of block 0: they hold already, and each entry into block 0 pays for them.
use Prim.Native.Nat.{ℕ, zero, suc, ◌*◌, ◌≤◌, ◌<◌}
use mathlib.Core.Path.{◌≡◌, refl, sym, ap, subst, subst₂, ◌∙◌, fun_ext}
use mathlib.Core.Logic.{◌⊎◌, inl, inr}
use mathlib.Core.List.{List, [], ◌∷◌, ◌++◌}
use Rattle.std.proofs.Common.{Option, None, Some}
use native.Mathlib.Omega.{arith}
use native.Mathlib.Decide.{ℕ_discrete}
use lib.ListN.{length, get_or}
use Rattle.inst.specs.declared.Code.{Code}
use Rattle.steps.specs.Emit.{onto_front}
use Rattle.machine.specs.Act.{Act}
use Rattle.machine.specs.Machine.{Regs, End, Effect, writes, goes, ends, asks, State, at, done, stores}
use Rattle.machine.specs.Machine.{upd, shown, ran_out, start, answered, after, step, run, entry, entry_of, into_zero}
use Rattle.machine.specs.Single.{constant_of}
use Rattle.machine.specs.Demand.{shows}
use Rattle.machine.proofs.Shorter.{Mach, Shorter, Stretch, simulates, together, mach, steps, seen, steps_run, spent_is, at_once}
use Rattle.demand.specs.Setting.{Each, Setting, code, does, defs_at, Fine, Loaded, Passes}
use Rattle.demand.proofs.Basics.{upd_same, upd_other}
use Rattle.demand.proofs.Effects.{keeps, constant_does}
use Rattle.demand.proofs.Edit.{step_is, entry-is}

-- a write of the value that a register holds
upd_idle : (d v : ℕ) (g : Regs) → g d ≡ v → upd d v g ≡ g
upd_idle d v g e = fun_ext (λ r. by r (ℕ_discrete r d))
  where
    by : (r : ℕ) → Dec (r ≡ d) → upd d v g r ≡ g r
    by r (yes x) = upd_same d v g r x ∙ sym e ∙ ap g (sym x)
    by r (no n) = upd_other d v g r n

module _ (E : Setting) where
  -- a single constant's own instruction
  pub record Constant (x : Code) : Type 0 where
    pub d : ℕ
    pub v : ℕ
    pub one : defs_at x ≡ d ∷ []
    pub single : E.single d ≡ Some v
    pub writes_v : constant_of E.address x.inst ≡ Some v

  module _ (qs : List ℕ) (Q : List (List Code)) where
    abbrev next : State → State
    next = step E.outside E.address (code E qs Q)

    idle : (x : Code) → Constant x → (c : List Code) (g : Regs) (h : List Act) → Loaded E g → next (at (x ∷ c) g h) ≡ at c g h
    idle x k c g h l =
        step_is E qs Q x c g h ∙ rw (constant_does E x k.v g k.writes_v, k.one)
        (ap (λ g. at c g h) (upd_idle k.d k.v g (l k.d k.v k.single)))

    idle_run : (k : List Code) → Each Constant k → (c : List Code) (g : Regs) (h : List Act) → Loaded E g
        → run E.outside E.address (code E qs Q) (length k) (at (k ++ c) g h) ≡ at c g h
    idle_run [] p c g h l = refl
    idle_run (x ∷ k) p c g h l =
        ap (run E.outside E.address (code E qs Q) (length k)) (idle x p.0 (k ++ c) g h l) ∙ idle_run k p.1 c g h l

    idle_quiet : (k : List Code) → Each Constant k → (c : List Code) (g : Regs) (h : List Act) → Loaded E g → (j : ℕ) → j ≤ length k
        → shown (run E.outside E.address (code E qs Q) j (at (k ++ c) g h)) ≡ record { acts = h; end = None }
    idle_quiet k p c g h l zero n = refl
    idle_quiet [] p c g h l (suc j) n = absurd (omega arith)
    idle_quiet (x ∷ k) p c g h l (suc j) n =
        ap (λ s. shown (run E.outside E.address (code E qs Q) j s)) (idle x p.0 (k ++ c) g h l) ∙ idle_quiet k p.1 c g h l j (omega arith)

  module _ (rs rs' : List ℕ) (P : List (List Code)) (k : List Code) (constants : Each Constant k) (fine : (b : ℕ) → Each (Fine E) (get_or P b []))
      (some_block : (0 < length P) ⊎ (k ≡ [])) where
    abbrev P' : List (List Code)
    P' = onto_front k P

    abbrev m : Mach
    m = mach E.outside E.address (length k) (code E rs P)

    abbrev m' : Mach
    m' = mach E.outside E.address 0 (code E rs' P')

    pub at_front : get_or P' 0 [] ≡ k ++ get_or P 0 []
    at_front = by P some_block
      where
        by : (P : List (List Code)) → (0 < length P) ⊎ (k ≡ []) → get_or (onto_front k P) 0 [] ≡ k ++ get_or P 0 []
        by [] (inl l) = absurd (omega arith)
        by [] (inr q) = rw q
        by (c ∷ P) l = refl

    pub elsewhere : (b : ℕ) → get_or P' (suc b) [] ≡ get_or P (suc b) []
    elsewhere b = by P
      where
        by : (P : List (List Code)) → get_or (onto_front k P) (suc b) [] ≡ get_or P (suc b) []
        by [] = refl
        by (c ∷ P) = refl

    data R : State → State → Type 0 where
      ran : (c : List Code) (g : Regs) (h : List Act) → Each (Fine E) c → Loaded E g → R (at c g h) (at c g h)
      over : (h : List Act) (e : End) → R (done h e) (done h e)

    module _ (x : Code) (c : List Code) (g : Regs) (h : List Act) (f : Each (Fine E) c) (l : Loaded E g) where
      abbrev s₀ : State
      s₀ = at (x ∷ c) g h

      -- both are at y and y' after one step
      one : (d : Effect) → does E x g ≡ d → R (after E.outside E.address (code E rs P) d (defs_at x) c g h)
          (after E.outside E.address (code E rs' P') d (defs_at x) c g h) → Stretch m m' R s₀ s₀
      one d q r =
          together m m' R _ _ (omega arith)
          (subst₂ R (sym (step_is E rs P x c g h ∙ ap (λ d. after E.outside E.address (code E rs P) d (defs_at x) c g h) q))
          (sym (step_is E rs' P' x c g h ∙ ap (λ d. after E.outside E.address (code E rs' P') d (defs_at x) c g h) q)) r)

      answer_on : (o : Option (List ℕ)) (a : Act) → ((vs : List ℕ) → Loaded E (stores (defs_at x) vs g))
          → R (answered E.outside E.address (code E rs P) o a (defs_at x) c g h)
          (answered E.outside E.address (code E rs' P') o a (defs_at x) c g h)
      answer_on None a n = over _ _
      answer_on (Some vs) a n = ran c _ _ f (n vs)

      hop : (d : Effect) → does E x g ≡ d → Passes d (defs_at x) (Loaded E) g → Stretch m m' R s₀ s₀
      hop (writes vs) q n = one (writes vs) q (ran c _ h f n)
      hop (goes zero) q n =
          record {
            k = 0;
            k' = length k;
            rel = subst₂ R (sym left) (sym right) (ran _ g h (fine 0) l);
            cheap = omega (arith, spent_is E.outside E.address (code E rs' P') 0 (suc (length k)) s₀, ap (λ z. length k * z) paid);
            quiet = at_once m s₀;
            quiet' = quiet;
          }
        where
          paid : entry E.outside E.address (code E rs P) s₀ ≡ 1
          paid = entry-is E rs P x c g h ∙ ap (entry_of E.outside E.address (code E rs P)) q

          left : next rs P s₀ ≡ at (get_or P 0 []) g h
          left = step_is E rs P x c g h ∙ ap (λ d. after E.outside E.address (code E rs P) d (defs_at x) c g h) q

          enter : next rs' P' s₀ ≡ at (k ++ get_or P 0 []) g h
          enter = step_is E rs' P' x c g h ∙ ap (λ d. after E.outside E.address (code E rs' P') d (defs_at x) c g h) q ∙ ap (λ d. at d g h) at_front

          right : steps m' (suc (length k)) s₀ ≡ at (get_or P 0 []) g h
          right = ap (steps m' (length k)) enter ∙ steps_run E.outside E.address (code E rs' P') 0 (length k) _
              ∙ idle_run rs' P' k constants (get_or P 0 []) g h l

          quiet : (j : ℕ) → j ≤ length k → seen m' j s₀ ≡ shown s₀
          quiet zero n = refl
          quiet (suc j) n =
              ap (λ s. shown (steps m' j s)) enter ∙ ap shown (steps_run E.outside E.address (code E rs' P') 0 j _)
              ∙ idle_quiet rs' P' k constants (get_or P 0 []) g h l j (omega arith)
      hop (goes (suc b)) q n = one (goes (suc b)) q (subst (λ d. R (at (get_or P (suc b) []) g h) (at d g h)) (sym (elsewhere b)) (ran _ g h (fine (suc b)) l))
      hop (ends e) q n = one (ends e) q (over h e)
      hop (asks a) q n = one (asks a) q (answer_on (E.outside h a) a n)

    go_on : (s s' : State) → R s s' → Stretch m m' R s s'
    go_on s s' (ran [] g h f l) = together m m' R _ _ (omega arith) (over h ran_out)
    go_on s s' (ran (x ∷ c) g h f l) = hop x c g h f.1 l (does E x g) refl (keeps E x g f.0 l)
    go_on s s' (over h e) = together m m' R _ _ (omega arith) (over h e)

    same : (s s' : State) → R s s' → shown s ≡ shown s'
    same s s' (ran c g h f l) = refl
    same s s' (over h e) = refl

    pub rescued_runs : (b : ℕ) (g : Regs) (h : List Act) → Loaded E g → Shorter m m' (at (get_or P b []) g h) (at (get_or P b []) g h)
    rescued_runs b g h l = simulates m m' R same go_on _ _ (ran (get_or P b []) g h (fine b) l)

    -- from any block: the front of block 0 first, if the start is there
    pub rescued-front : (b : ℕ) (g : Regs) → Loaded E g
        → run E.outside E.address (code E rs' P') (length k * into_zero b) (start E.outside E.address (code E rs' P') b g) ≡ at (get_or P b []) g []
    rescued-front zero g l =
        let e : length k * 1 ≡ length k = omega arith in
        rw (e, at_front) (idle_run rs' P' k constants (get_or P 0 []) g [] l)
    rescued-front (suc b) g l = let e : length k * 0 ≡ 0 = omega arith in rw (e, elsewhere b)

    pub rescued_quiet : (b : ℕ) (g : Regs) → Loaded E g → (i : ℕ) → i ≤ length k * into_zero b
        → shows E.outside E.address (code E rs' P') b g i ≡ record { acts = []; end = None }
    rescued_quiet zero g l i n = rw at_front (idle_quiet rs' P' k constants (get_or P 0 []) g [] l i (omega arith))
    rescued_quiet (suc b) g l zero n = refl
    rescued_quiet (suc b) g l (suc i) n = absurd (omega arith)
