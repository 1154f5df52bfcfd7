-- Ends of blocks that both go somewhere: at once to one block, or over lone branches.
use Prim.Native.Nat.{ℕ, zero, suc}
use mathlib.Core.Path.{◌≡◌, refl, sym, ap, subst₂, ◌∙◌}
use mathlib.Core.List.{List, [], ◌∷◌}
use mathlib.Core.Bool.{Bool, true, false, cond}
use native.Mathlib.Omega.{arith}
use lib.Dec.{eqb}
use lib.ListN.{get_or}
use borrow.Author.Tests.{eqb-true}
use Rattle.inst.specs.declared.Code.{Code}
use Rattle.word.specs.Word.{choose}
use Rattle.ends.specs.declared.End.{End}
use Rattle.ends.specs.declared.End.TheVariants as e
use Rattle.ends.specs.Ends.{lone_of}
use Rattle.steps.specs.EqualArms.{past, follow}
use Rattle.steps.specs.Thread.{matching}
use Rattle.machine.specs.Act.{Act}
use Rattle.machine.specs.Machine.{Regs, State, at, goes, after, step}
use Rattle.machine.proofs.Shorter.{Stretch, together}
use Rattle.demand.specs.Setting.{Setting, code, does, defs_at, Loaded}
use Rattle.demand.proofs.Stretches.{ahead}
use Rattle.demand.proofs.Codes.{lone_is}
use Rattle.demand.proofs.Edit.{Meet, step_is, old, new, Same, entering, weigh}
use Rattle.demand.proofs.Branches.{br_does, cond_does}

module _ (E : Setting) (κ : ℕ) (rs rs' : List ℕ) (P P' : List (List Code)) where
  abbrev pub St : State → State → Type 0
  St s s' = Stretch (old E κ rs rs' P P') (new E κ rs rs' P P') (Same E κ rs rs' P P') s s'

  pub goes-is : (qs : List ℕ) (Q : List (List Code)) (x : Code) (c : List Code) (g : Regs) (h : List Act) (b : ℕ) → does E x g ≡ goes b
      → step E.outside E.address (code E qs Q) (at (x ∷ c) g h) ≡ at (get_or Q b []) g h
  goes-is qs Q x c g h b q = step_is E qs Q x c g h ∙ ap (λ z. after E.outside E.address (code E qs Q) z (defs_at x) c g h) q

  -- the new code's branch
  module _ (y : Code) (c' : List Code) (g g' : Regs) (h : List Act) (l : Loaded E g) (a : Meet E g g') where
    -- both go to one block
    pub both_go : (x : Code) (c : List Code) (b : ℕ) → does E x g ≡ goes b → does E y g' ≡ goes b → St (at (x ∷ c) g h) (at (y ∷ c') g' h)
    both_go x c b p q =
        together _ _ _ _ _ (weigh E κ rs rs' P P' x y c c' g g' h h (p ∙ sym q))
        (subst₂ (Same E κ rs rs' P P') (sym (goes-is rs P x c g h b p)) (sym (goes-is rs' P' y c' g' h b q)) (entering b g g' h l a))

    -- the old one goes over one branch more
    pub one_more : (x : Code) (c : List Code) (b : ℕ) (z : Code) (d : List Code) → does E x g ≡ goes b → get_or P b [] ≡ z ∷ d
        → St (at (z ∷ d) g h) (at (y ∷ c') g' h) → St (at (x ∷ c) g h) (at (y ∷ c') g' h)
    one_more x c b z d p q s = ahead _ _ _ _ (at (z ∷ d) g h) _ (goes-is rs P x c g h b p ∙ ap (λ w. at w g h) q) refl s

    -- and over lone Brs
    pub chase : (k b : ℕ) (x : Code) (c : List Code) → does E x g ≡ goes b → does E y g' ≡ goes (follow k P b) → St (at (x ∷ c) g h) (at (y ∷ c') g' h)
    unfolding follow
    chase zero b x c p q = both_go x c b p q
    chase (suc k) b x c p q = by (lone_of (get_or P b [])) refl q (λ b x c p q. chase k b x c p q)
      where
        by : (v : End) → lone_of (get_or P b []) ≡ v → does E y g' ≡ goes (follow k P (past b v))
            → ((b : ℕ) (x : Code) (c : List Code) → does E x g ≡ goes b → does E y g' ≡ goes (follow k P b) → St (at (x ∷ c) g h) (at (y ∷ c') g' h))
            → St (at (x ∷ c) g h) (at (y ∷ c') g' h)
        by (e.Br to) s q ih = at_br (eqb to.0 b) q
          where
            at_br : (t : Bool) → does E y g' ≡ goes (follow k P (cond t b to.0)) → St (at (x ∷ c) g h) (at (y ∷ c') g' h)
            at_br true q = ih b x c p q
            at_br false q =
                let t = lone_is (get_or P b []) (e.Br to) s (λ z. let w : ◌≡◌ {A = ℕ} 0 1 = cc in omega arith) in
                one_more x c b t.0 [] p t.1 (ih to.0 t.0 [] (br_does E t.0 to g t.2) q)
        by (e.CondBr d m n) s q ih = ih b x c p q
        by (e.Case n) s q ih = ih b x c p q
        by e.Other s q ih = ih b x c p q

    -- or over a lone CondBr on a register that is known to hold or not
    pub matched : (truth : Bool) (r b : ℕ) → ((s t : ℕ) → choose (g r) s t ≡ cond truth s t) → (x : Code) (c : List Code) → does E x g ≡ goes b
        → does E y g' ≡ goes (matching truth r b (lone_of (get_or P b []))) → St (at (x ∷ c) g h) (at (y ∷ c') g' h)
    matched truth r b known x c p q = by (lone_of (get_or P b [])) refl q
      where
        by : (v : End) → lone_of (get_or P b []) ≡ v → does E y g' ≡ goes (matching truth r b v) → St (at (x ∷ c) g h) (at (y ∷ c') g' h)
        by (e.Br to) s q = both_go x c b p q
        by (e.CondBr d m n) s q = on (eqb d.0 r) refl q
          where
            on : (t : Bool) → eqb d.0 r ≡ t → does E y g' ≡ goes (cond t (cond truth m.0 n.0) b) → St (at (x ∷ c) g h) (at (y ∷ c') g' h)
            on true z q =
                let t = lone_is (get_or P b []) (e.CondBr d m n) s (λ z. let w : ◌≡◌ {A = ℕ} 0 1 = cc in omega arith) in
                let u = cond_does E t.0 d m n t.2 in
                let same : choose (g d.0) m.0 n.0 ≡ cond truth m.0 n.0 = ap (λ w. choose (g w) m.0 n.0) (eqb-true d.0 r z)
                ∙ known m.0 n.0 in
                one_more x c b t.0 [] p t.1 (both_go t.0 [] (cond truth m.0 n.0) (u.goes_to g ∙ ap goes same) q)
            on false z q = both_go x c b p q
        by (e.Case n) s q = both_go x c b p q
        by e.Other s q = both_go x c b p q
