-- The 24 kinds in seven shapes: what an instruction's effect is made of. Everything else that the proof knows of a kind follows from its shape.
use Prim.Native.Nat.{ℕ, zero, suc, ◌≤◌}
use mathlib.Core.Path.{◌≡◌, refl, sym, subst, ◌∙◌}
use mathlib.Core.Logic.{inl, inr}
use mathlib.Core.List.{List, [], ◌∷◌, ◌++◌, map}
use Rattle.std.proofs.Common.{Option, None, Some}
use mathlib.Core.Bool.{Bool, true, false, cond}
use native.Mathlib.Omega.{arith}
use native.Mathlib.Decide.{ℕ_discrete}
use lib.ListN.{length, get_or}
use borrow.Author.Clash.{clash}
use Rattle.inst.specs.declared.Reg.{Reg}
use Rattle.inst.specs.declared.BlockId.{BlockId}
use Rattle.inst.specs.declared.Inst.{Inst}
use Rattle.inst.specs.declared.Inst.TheVariants as i
use Rattle.real.specs.Real.{bits_of}
use Rattle.roles.specs.Roles.{defs_of, uses_of, list_of, no_list}
use Rattle.procedure.specs.Procedure.{Arm, Table, table_at, first_of}
use Rattle.ends.specs.declared.End.TheVariants as e
use Rattle.ends.specs.Forms.{Fixed, word, real, address, varying, form_of, fixed_of, is_fixed}
use Rattle.ends.specs.Ends.{terminator_of, view_of}
use Rattle.steps.specs.Small.{dupable}
use Rattle.word.specs.Word.{choose, compares, tests, within, arm_of, target_of}
use Rattle.machine.specs.Act.{op_of, act_of}
use Rattle.inst.specs.declared.Code.{Code}
use Rattle.machine.specs.Machine.{Address, Regs, End, Effect, writes, goes, ends, asks, returned, unreachable, effect, effect_of, stores, upd}
use Rattle.machine.specs.Single.{constant_of}
use Rattle.demand.proofs.Basics.{clash_some, dec_in, upd_same, upd_other, stores-other}
use Rattle.demand.specs.Setting.{In, Setting, code, does, defs_at, Fine, Loaded, Passes}

-- an arm is one of the table's targets
pub arm_in_lem : (arms : List Arm) (d v : ℕ) → In (arm_of arms d v) (map (λ a. a.target) arms ++ (d ∷ []))
arm_in_lem [] d v = inl refl
arm_in_lem (arm ∷ arms) d v = by (within arm v) (arm_in_lem arms d v)
  where
    by : (b : Bool) → In (arm_of arms d v) (map (λ a. a.target) arms ++ (d ∷ []))
        → In (cond b arm.target (arm_of arms d v)) (arm.target ∷ (map (λ a. a.target) arms ++ (d ∷ [])))
    by true m = inl refl
    by false m = inr m

pub choose-in : (v t f : ℕ) → In (choose v t f) (t ∷ f ∷ [])
choose-in zero t f = inr (inl refl)
choose-in (suc v) t f = inl refl

-- a Const or ConstF, or what isn't fixed
abbrev pub plain : Fixed → Bool
plain (word v) = true
plain real = true
plain (address up) = false
plain varying = true

module _ (address : Address) where
  -- an effect, whatever the tables, the statement, the kinds and the values read
  abbrev Always : Inst → (List Table → ℕ → List ℕ → Effect) → Type 0
  Always x F = (tables : List Table) (s : ℕ) (kinds values : List ℕ) → effect address tables s kinds values x ≡ F tables s values

  -- what an instruction is that ends no block
  pub record Inner (x : Inst) (fixed : Bool) : Type 0 where
    pub is-fixed : is_fixed (fixed_of x) ≡ fixed
    pub no_end : terminator_of x ≡ false
    pub view : view_of x ≡ e.Other

  -- and one that does
  pub record Outer (x : Inst) : Type 0 where
    pub none : defs_of x ≡ []
    pub unlisted : list_of x ≡ no_list
    pub varies : is_fixed (fixed_of x) ≡ false
    pub no_copy : dupable x ≡ false
    pub few : length (uses_of x) ≤ 1
    pub ends-block : terminator_of x ≡ true

  pub data Shape (x : Inst) : Type 0 where
    -- Const, ConstF, AddrOf
    constant : (d v : ℕ) → defs_of x ≡ d ∷ [] → uses_of x ≡ [] → list_of x ≡ no_list → dupable x ≡ plain (fixed_of x) → Inner x true
        → Always x (λ tables s vs. writes (v ∷ [])) → Shape x
    -- Move, Select, Cmp, Bool
    computed : (d : ℕ) (F : List ℕ → ℕ) → defs_of x ≡ d ∷ [] → list_of x ≡ no_list → Inner x false → Always x (λ tables s vs. writes (F vs ∷ [])) → Shape x
    acting : dupable x ≡ false → Inner x false → Always x (λ tables s vs. asks (act_of x s vs)) → Shape x
    -- Br
    going : (l : BlockId) → view_of x ≡ e.Br l → Outer x → Always x (λ tables s vs. goes l.0) → Shape x
    -- CondBr
    testing : (c : Reg) (l m : BlockId) → view_of x ≡ e.CondBr c l m → uses_of x ≡ c.0 ∷ [] → Outer x
        → Always x (λ tables s vs. goes (choose (get_or vs 0 0) l.0 m.0)) → Shape x
    -- Case
    casing : (n : ℕ) → view_of x ≡ e.Case n → Outer x → Always x (λ tables s vs. goes (target_of (table_at tables n) (get_or vs 0 0))) → Shape x
    -- Ret, Unreachable
    ending : (F : ℕ → List ℕ → End) → view_of x ≡ e.Other → Outer x → Always x (λ tables s vs. ends (F s vs)) → Shape x

  inner : (x : Inst) (b : Bool) → is_fixed (fixed_of x) ≡ b → terminator_of x ≡ false → view_of x ≡ e.Other → Inner x b
  inner x b p q r = record { is-fixed = p; no_end = q; view = r }

  outer : (x : Inst) → defs_of x ≡ [] → list_of x ≡ no_list → is_fixed (fixed_of x) ≡ false → dupable x ≡ false → length (uses_of x) ≤ 1
      → terminator_of x ≡ true → Outer x
  outer x p q r s t u = record { none = p; unlisted = q; varies = r; no_copy = s; few = t; ends-block = u }

  pub shape : (x : Inst) → Shape x
  unfolding effect op_of fixed_of form_of view_of compares
  shape (i.Const d v) = constant d.0 v refl refl refl refl (inner _ _ refl refl refl) (λ t s k w. refl)
  shape (i.ConstF d v) = constant d.0 (bits_of v) refl refl refl refl (inner _ _ refl refl refl) (λ t s k w. refl)
  shape (i.Move d a) = computed d.0 (λ vs. get_or vs 0 0) refl refl (inner _ _ refl refl refl) (λ t s k w. refl)
  shape (i.AddrOf d a f) = constant d.0 (address a f) refl refl refl refl (inner _ _ refl refl refl) (λ t s k w. refl)
  shape (i.Select d c a b) =
      computed d.0 (λ vs. choose (get_or vs 0 0) (get_or vs 1 0) (get_or vs 2 0)) refl refl (inner _ _ refl refl refl) (λ t s k w. refl)
  shape (i.Cmp op d a b) = computed d.0 (λ vs. compares 0 0 op (get_or vs 0 0) (get_or vs 1 0)) refl refl (inner _ _ refl refl refl) (λ t s k w. refl)
  shape (i.Bool op d a b) = computed d.0 (λ vs. tests op (get_or vs 0 0) (get_or vs 1 0)) refl refl (inner _ _ refl refl refl) (λ t s k w. refl)
  shape (i.Bin op d a b) = acting refl (inner _ _ refl refl refl) (λ t s k w. refl)
  shape (i.BinRange op d a b l h w) = acting refl (inner _ _ refl refl refl) (λ t s k v. refl)
  shape (i.Load d a w) = acting refl (inner _ _ refl refl refl) (λ t s k v. refl)
  shape (i.Store a b w) = acting refl (inner _ _ refl refl refl) (λ t s k v. refl)
  shape (i.Check c v l h w) = acting refl (inner _ _ refl refl refl) (λ t s k u. refl)
  shape (i.MakeDope a p) = acting refl (inner _ _ refl refl refl) (λ t s k w. refl)
  shape (i.DopeLen d p n) = acting refl (inner _ _ refl refl refl) (λ t s k w. refl)
  shape (i.BoundsLen d l r e) = acting refl (inner _ _ refl refl refl) (λ t s k w. refl)
  shape (i.Alloc d a) = acting refl (inner _ _ refl refl refl) (λ t s k w. refl)
  shape (i.TakeBounds l r e) = acting refl (inner _ _ refl refl refl) (λ t s k w. refl)
  shape (i.CallNative n a d) = acting refl (inner _ _ refl refl refl) (λ t s k w. refl)
  shape (i.Br l) = going l refl (outer _ refl refl refl refl (omega arith) refl) (λ t s k w. refl)
  shape (i.CondBr c l m) = testing c l m refl refl (outer _ refl refl refl refl (omega arith) refl) (λ t s k w. refl)
  shape (i.Case v n) = casing n refl (outer _ refl refl refl refl (omega arith) refl) (λ t s k w. refl)
  shape (i.Ret (Some v)) = ending (λ s vs. returned (first_of vs) s) refl (outer _ refl refl refl refl (omega arith) refl) (λ t s k w. refl)
  shape (i.Ret None) = ending (λ s vs. returned (first_of vs) s) refl (outer _ refl refl refl refl (omega arith) refl) (λ t s k w. refl)
  shape (i.Unreachable w) = ending (λ s vs. unreachable w s) refl (outer _ refl refl refl refl (omega arith) refl) (λ t s k v. refl)
  shape i.Stmt = acting refl (inner _ _ refl refl refl) (λ t s k w. refl)

  -- the kinds of the registers matter to no effect
  pub no_kinds : (x : Inst) (tables : List Table) (s : ℕ) (kinds kinds' values : List ℕ)
      → effect address tables s kinds values x ≡ effect address tables s kinds' values x
  no_kinds x tables s kinds kinds' values = by (shape x)
    where
      by : Shape x → effect address tables s kinds values x ≡ effect address tables s kinds' values x
      by (constant d v e u l c f a) = a tables s kinds values ∙ sym (a tables s kinds' values)
      by (computed d F e l f a) = a tables s kinds values ∙ sym (a tables s kinds' values)
      by (acting u f a) = a tables s kinds values ∙ sym (a tables s kinds' values)
      by (going l q f a) = a tables s kinds values ∙ sym (a tables s kinds' values)
      by (testing c l m q u f a) = a tables s kinds values ∙ sym (a tables s kinds' values)
      by (casing n q f a) = a tables s kinds values ∙ sym (a tables s kinds' values)
      by (ending F q f a) = a tables s kinds values ∙ sym (a tables s kinds' values)

  -- what a Const, ConstF or AddrOf writes it writes whatever is read, and nothing else is a constant
  pub record Fixes (x : Inst) (v : ℕ) : Type 0 where
    pub d : ℕ
    pub one : defs_of x ≡ d ∷ []
    pub alone : uses_of x ≡ []
    pub unlisted : list_of x ≡ no_list
    pub always : (tables : List Table) (s : ℕ) (kinds values : List ℕ) → effect address tables s kinds values x ≡ writes (v ∷ [])

  pub varies : (x : Inst) → is_fixed (fixed_of x) ≡ false → constant_of address x ≡ None
  unfolding constant_of
  varies x e = rw e

  pub fixed_constant : (x : Inst) → is_fixed (fixed_of x) ≡ true → (v : ℕ) × (constant_of address x ≡ Some v) × Fixes x v
  unfolding constant_of
  fixed_constant x y = by (shape x)
    where
      by : Shape x → (v : ℕ) × (constant_of address x ≡ Some v) × Fixes x v
      by (constant d v e u l c f a) = (v, rw (y, a [] 0 [] []), record { d = d; one = e; alone = u; unlisted = l; always = a })
      by (computed d F e l f a) = clash _ y f.is-fixed
      by (acting u f a) = clash _ y f.is-fixed
      by (going l q f a) = clash _ y f.varies
      by (testing c l m q u f a) = clash _ y f.varies
      by (casing n q f a) = clash _ y f.varies
      by (ending F q f a) = clash _ y f.varies

  pub constant_fixes : (x : Inst) (v : ℕ) → constant_of address x ≡ Some v → Fixes x v
  constant_fixes x v c = by (is_fixed (fixed_of x)) refl
    where
      by : (b : Bool) → is_fixed (fixed_of x) ≡ b → Fixes x v
      by true e = let t = fixed_constant x e in let w : t.0 ≡ v = cc t.1 in subst (Fixes x) w t.2
      by false e = clash_some c (varies x e)

-- where an instruction goes on, a fact holds that holds whatever is stored
pub passes_any : (Q : Regs → Type 0) (e : Effect) (rs : List ℕ) (g : Regs) → ((vs : List ℕ) → Q (stores rs vs g)) → Passes e rs Q g
passes_any Q (writes vs) rs g f = f vs
passes_any Q (goes b) rs g f = tt
passes_any Q (ends e) rs g f = tt
passes_any Q (asks a) rs g f = f

pub passes-map : (Q Q' : Regs → Type 0) (e : Effect) (rs : List ℕ) (g : Regs) → ((g : Regs) → Q g → Q' g) → Passes e rs Q g → Passes e rs Q' g
passes-map Q Q' (writes vs) rs g f q = f _ q
passes-map Q Q' (goes b) rs g f q = tt
passes-map Q Q' (ends e) rs g f q = tt
passes-map Q Q' (asks a) rs g f q = λ vs. f _ (q vs)

pub passes_both : (Q Q' : Regs → Type 0) (e : Effect) (rs : List ℕ) (g : Regs) → Passes e rs Q g → Passes e rs Q' g → Passes e rs (λ g. Q g × Q' g) g
passes_both Q Q' (writes vs) rs g q q' = (q, q')
passes_both Q Q' (goes b) rs g q q' = tt
passes_both Q Q' (ends e) rs g q q' = tt
passes_both Q Q' (asks a) rs g q q' = λ vs. (q vs, q' vs)

module _ (E : Setting) where
  pub effect_is : (rs : List ℕ) (P : List (List Code)) (x : Code) (g : Regs) → effect_of E.outside E.address (code E rs P) x g ≡ does E x g
  effect_is rs P x g = no_kinds E.address x.inst _ _ _ _ _

  pub constant_does : (x : Code) (v : ℕ) (g : Regs) → constant_of E.address x.inst ≡ Some v → does E x g ≡ writes (v ∷ [])
  constant_does x v g c = (constant_fixes E.address x.inst v c).always _ _ _ _

  -- single constants stay loaded
  pub keeps : (x : Code) (g : Regs) → Fine E x → Loaded E g → Passes (does E x g) (defs_at x) (Loaded E) g
  keeps x g fine l = by (constant_of E.address x.inst) refl
    where
      by : (o : Option ℕ) → constant_of E.address x.inst ≡ o → Passes (does E x g) (defs_at x) (Loaded E) g
      by None c = passes_any (Loaded E) (does E x g) (defs_at x) g (λ vs r w e. other vs r w e (dec_in r (defs_at x)))
        where
          other : (vs : List ℕ) (r w : ℕ) → E.single r ≡ Some w → Dec (In r (defs_at x)) → stores (defs_at x) vs g r ≡ w
          other vs r w e (yes m) = clash_some e (fine r m (E.single-one r w e) ∙ c)
          other vs r w e (no n) = stores-other (defs_at x) vs g r n ∙ l r w e
      by (Some v) c = rw (constant_does x v g c, f.one) (λ r w e. at_one r w e (ℕ_discrete r f.d))
        where
          f : Fixes E.address x.inst v
          f = constant_fixes E.address x.inst v c

          at_one : (r w : ℕ) → E.single r ≡ Some w → Dec (r ≡ f.d) → upd f.d v g r ≡ w
          at_one r w e (yes q) =
              let m : In r (defs_at x) = rw f.one (inl q) in
              upd_same f.d v g r q ∙ cc (fine r m (E.single-one r w e))
          at_one r w e (no n) = upd_other f.d v g r n ∙ l r w e
