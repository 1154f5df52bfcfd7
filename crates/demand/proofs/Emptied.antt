-- Blocks that no run comes to may be anything.
use Prim.Native.Nat.{ℕ, zero, suc, ◌<◌}
use mathlib.Core.Path.{◌≡◌, refl, sym, subst, subst₂, ◌∙◌}
use mathlib.Core.Logic.{◌⊎◌, inl, inr}
use mathlib.Core.List.{List, [], ◌∷◌, map}
use Rattle.std.proofs.Common.{Option, None, Some}
use mathlib.Core.Bool.{Bool, true, false, cond}
use native.Mathlib.Omega.{arith}
use lib.ListN.{length, get_or}
use borrow.Author.Clash.{clash}
use Rattle.inst.specs.declared.Code.{Code}
use Rattle.inst.specs.declared.StmtId.{StmtId}
use Rattle.inst.specs.declared.Inst.TheVariants as i
use Rattle.codec.specs.Codec.{block_of}
use Rattle.procedure.specs.Procedure.{table_at}
use Rattle.ends.specs.declared.End.TheVariants as e
use Rattle.ends.specs.Ends.{terminator_of, view_of, end_of}
use Rattle.steps.specs.Facts.{Facts}
use Rattle.steps.specs.Emit.{leads, stays, emptied, empty_from, is_rescued, rescued_of, rescues}
use Rattle.machine.specs.Act.{Act}
use Rattle.machine.specs.Machine.{Regs, End, Effect, writes, goes, ends, asks, State, at, done, shown, ran_out, answered, after}
use Rattle.machine.proofs.Shorter.{Mach, Shorter, Stretch, simulates, together, mach}
use Rattle.demand.specs.Setting.{In, Each, Front, Setting, code, does, defs_at, reads_at}
use Rattle.demand.proofs.Effects.{Shape, constant, computed, acting, going, testing, casing, ending, shape, choose-in, arm_in_lem}
use Rattle.demand.proofs.Codes.{each_append}
use Rattle.demand.proofs.Branches.{NoEnd}
use Rattle.demand.proofs.Edit.{step_is, weigh}

-- a marked block stays as it is
pub kept_block : (n : ℕ) (marks : List Bool) (P : List (List Code)) (b : ℕ) → get_or marks b true ≡ true → get_or (empty_from n marks P) b [] ≡ get_or P b []
unfolding empty_from stays
kept_block n marks [] b q = refl
kept_block n [] (c ∷ P) b q = refl
kept_block n (m ∷ ms) (c ∷ P) zero q = rw q
kept_block n (m ∷ ms) (c ∷ P) (suc b) q = kept_block (suc n) ms P b q

-- there is a block, or nothing to rescue
pub some_or_none : (f : Facts) (marks : List Bool) (P : List (List Code)) → (0 < length (empty_from 0 marks P)) ⊎ (rescues f marks P ≡ [])
unfolding empty_from rescues
some_or_none f marks [] = inr refl
some_or_none f [] (c ∷ P) = inl (omega arith)
some_or_none f (m ∷ ms) (c ∷ P) = inl (omega arith)

module _ (F : Code → Type 0) where
  -- of the instructions of all blocks, and of a Br
  pub emptied-each : ((l : ℕ) (s : StmtId) → F (record { inst = i.Br (block_of l); stmt = s })) → (n : ℕ) (marks : List Bool) (P : List (List Code))
      → ((b : ℕ) → Each F (get_or P b [])) → (b : ℕ) → Each F (get_or (empty_from n marks P) b [])
  unfolding empty_from
  emptied-each br n marks [] p b = tt
  emptied-each br n [] (c ∷ P) p b = p b
  emptied-each br n (m ∷ ms) (c ∷ P) p zero = by (stays m P c)
    where
      by : (t : Bool) → Each F (cond t c (emptied n c))
      by true = p 0
      by false = (br _ _, tt)
  emptied-each br n (m ∷ ms) (c ∷ P) p (suc b) = emptied-each br (suc n) ms P (λ b. p (suc b)) b

  rescued-each : (f : Facts) (c : List Code) → Each F c → Each (λ x. F x × (is_rescued f x ≡ true)) (rescued_of f c)
  unfolding rescued_of
  rescued-each f [] p = tt
  rescued-each f (x ∷ c) p = by (is_rescued f x) refl (rescued-each f c p.1)
    where
      by : (t : Bool) → is_rescued f x ≡ t → Each (λ x. F x × (is_rescued f x ≡ true)) (rescued_of f c)
          → Each (λ x. F x × (is_rescued f x ≡ true)) (cond t (x ∷ rescued_of f c) (rescued_of f c))
      by true q ih = ((p.0, q), ih)
      by false q ih = ih

  pub rescues-each : (f : Facts) (marks : List Bool) (P : List (List Code)) → ((b : ℕ) → Each F (get_or P b []))
      → Each (λ x. F x × (is_rescued f x ≡ true)) (rescues f marks P)
  unfolding rescues
  rescues-each f marks [] p = tt
  rescues-each f [] (c ∷ P) p = tt
  rescues-each f (m ∷ ms) (c ∷ P) p =
      each_append (λ x. F x × (is_rescued f x ≡ true)) (cond (stays m P c) [] (rescued_of f c)) (rescues f ms P) (by (stays m P c))
      (rescues-each f ms P (λ b. p (suc b)))
    where
      by : (t : Bool) → Each (λ x. F x × (is_rescued f x ≡ true)) (cond t [] (rescued_of f c))
      by true = tt
      by false = rescued-each f c (p 0)

module _ (E : Setting) where
  -- an instruction that ends no block goes nowhere
  stays-in : (x : Code) (g : Regs) (b : ℕ) → terminator_of x.inst ≡ false → does E x g ≡ goes b → ⊥
  stays-in x g b q d = by (shape E.address x.inst)
    where
      by : Shape E.address x.inst → ⊥
      by (constant c v p u l n f a) = let w = sym (a _ _ _ _) ∙ d in let z : ◌≡◌ {A = ℕ} 0 1 = cc in omega arith
      by (computed c F p l f a) = let w = sym (a _ _ _ _) ∙ d in let z : ◌≡◌ {A = ℕ} 0 1 = cc in omega arith
      by (acting u f a) = let w = sym (a _ _ _ _) ∙ d in let z : ◌≡◌ {A = ℕ} 0 1 = cc in omega arith
      by (going l w f a) = clash _ f.ends-block q
      by (testing c l m w u f a) = clash _ f.ends-block q
      by (casing n w f a) = clash _ f.ends-block q
      by (ending F w f a) = clash _ f.ends-block q

  -- a branch goes where its block leads
  goes_in : (x : Code) (g : Regs) (b : ℕ) → does E x g ≡ goes b → In b (leads E.tables (view_of x.inst))
  goes_in x g b d = by (shape E.address x.inst)
    where
      vs : List ℕ
      vs = map g (reads_at E.operands x)

      named : {s t : ℕ} → goes s ≡ goes t → s ≡ t
      named z = cc

      by : Shape E.address x.inst → In b (leads E.tables (view_of x.inst))
      by (constant c v p u l n f a) = let w = sym (a _ _ _ _) ∙ d in let z : ◌≡◌ {A = ℕ} 0 1 = cc in absurd (omega arith)
      by (computed c F p l f a) = let w = sym (a _ _ _ _) ∙ d in let z : ◌≡◌ {A = ℕ} 0 1 = cc in absurd (omega arith)
      by (acting u f a) = let w = sym (a _ _ _ _) ∙ d in let z : ◌≡◌ {A = ℕ} 0 1 = cc in absurd (omega arith)
      by (going l w f a) = let y = sym (a _ _ _ _) ∙ d in let z : l.0 ≡ b = cc in rw (w, z) (inl refl)
      by (testing c l m w u f a) =
          rw w (subst (λ t. In t (l.0 ∷ m.0 ∷ [])) (named (sym (a _ _ _ _) ∙ d)) (choose-in (get_or vs 0 0) l.0 m.0))
      by (casing n w f a) =
          let t = table_at E.tables n in
          rw w (subst (λ t. In t (leads E.tables (e.Case n))) (named (sym (a _ _ _ _) ∙ d)) (arm_in_lem t.arms t.default (get_or vs 0 0)))
      by (ending F w f a) = let y = sym (a _ _ _ _) ∙ d in let z : ◌≡◌ {A = ℕ} 0 1 = cc in absurd (omega arith)

  module _ (S : ℕ → Type 0) where
    -- where an instruction goes
    abbrev pub Leads : Code → Type 0
    Leads x = (g : Regs) (b : ℕ) → does E x g ≡ goes b → S b

    pub block-leads : (c : List Code) → Front (NoEnd E) c → ((t : ℕ) → In t (leads E.tables (end_of c)) → S t) → Each Leads c
    unfolding end_of
    block-leads [] n p = tt
    block-leads (x ∷ []) n p = (λ g b d. p b (goes_in x g b d), tt)
    block-leads (x ∷ y ∷ c) n p = (λ g b d. absurd (stays-in x g b n.0 d), block-leads (y ∷ c) n.1 p)

    module _ (κ : ℕ) (rs rs' : List ℕ) (P P' : List (List Code)) (closed : (b : ℕ) → S b → Each Leads (get_or P b []))
        (kept : (b : ℕ) → S b → get_or P' b [] ≡ get_or P b []) where
      abbrev m : Mach
      m = mach E.outside E.address κ (code E rs P)

      abbrev m' : Mach
      m' = mach E.outside E.address κ (code E rs' P')

      data R : State → State → Type 0 where
        ran : (c : List Code) (g : Regs) (h : List Act) → Each Leads c → R (at c g h) (at c g h)
        over : (h : List Act) (e : End) → R (done h e) (done h e)

      module _ (x : Code) (c : List Code) (g : Regs) (h : List Act) (p : Each Leads (x ∷ c)) where
        answer_on : (o : Option (List ℕ)) (q : Act) → R (answered E.outside E.address (code E rs P) o q (defs_at x) c g h)
            (answered E.outside E.address (code E rs' P') o q (defs_at x) c g h)
        answer_on None q = over _ _
        answer_on (Some vs) q = ran c _ _ p.1

        go : (d : Effect) → does E x g ≡ d → R (after E.outside E.address (code E rs P) d (defs_at x) c g h)
            (after E.outside E.address (code E rs' P') d (defs_at x) c g h)
        go (writes vs) q = ran c _ h p.1
        go (goes b) q = let s = p.0 g b q in subst (λ d. R (at (get_or P b []) g h) (at d g h)) (sym (kept b s)) (ran _ g h (closed b s))
        go (ends e) q = over h e
        go (asks a) q = answer_on (E.outside h a) a

      go_on : (s s' : State) → R s s' → Stretch m m' R s s'
      go_on s s' (ran [] g h p) = together m m' R _ _ (omega arith) (over h ran_out)
      go_on s s' (ran (x ∷ c) g h p) =
          together m m' R _ _ (weigh E κ rs rs' P P' x x c c g g h h refl)
          (subst₂ R (sym (step_is E rs P x c g h)) (sym (step_is E rs' P' x c g h)) (go x c g h p (does E x g) refl))
      go_on s s' (over h e) = together m m' R _ _ (omega arith) (over h e)

      same : (s s' : State) → R s s' → shown s ≡ shown s'
      same s s' (ran c g h p) = refl
      same s s' (over h e) = refl

      pub unreached : (b : ℕ) → S b → (g : Regs) (h : List Act) → Shorter m m' (at (get_or P b []) g h) (at (get_or P' b []) g h)
      unreached b s g h = subst (λ d. Shorter m m' (at (get_or P b []) g h) (at d g h)) (sym (kept b s))
          (simulates m m' R same go_on _ _ (ran (get_or P b []) g h (closed b s)))
