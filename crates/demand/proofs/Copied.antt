-- The code that is copied, and what becomes of each instruction in the copy.
use Prim.Native.Nat.{ℕ, ◌≤◌}
use mathlib.Core.Path.{◌≡◌, refl, sym, ap, subst, ◌∙◌}
use mathlib.Core.Logic.{inl, inr}
use mathlib.Core.List.{List, [], ◌∷◌, map, map-map, append-nil}
use Rattle.std.proofs.Common.{None, Some}
use mathlib.Core.Bool.{Bool, true, false, ◌&&◌, ◌||◌, cond}
use lib.Dec.{eqb, ltb}
use lib.ListN.{length}
use borrow.Author.Clash.{clash}
use borrow.Author.Tests.{eqb-true}
use Rattle.std.proofs.lemmas.Bool.{and_parts}
use Rattle.inst.specs.Inst.{kind_of}
use Rattle.inst.specs.declared.Code.{Code}
use Rattle.inst.specs.declared.Inst.{Inst}
use Rattle.inst.specs.declared.Inst.TheVariants as i
use Rattle.roles.specs.Roles.{uses_of, list_of, no_list}
use Rattle.ends.specs.Forms.{Fixed, word, real, address, varying, form_of, fixed_of, is_fixed}
use Rattle.codec.specs.Codec.{with_inst}
use Rattle.read.specs.Structure.{terminator_kind}
use Rattle.ends.specs.Ends.{terminator_of}
use Rattle.steps.specs.Small.{dupable, small_end_kind, small_end, copyable}
use Rattle.steps.specs.Facts.{Facts}
use Rattle.roles.specs.Exchange.{exchanged}
use Rattle.roles.proofs.Exchanged.{defs-exchanged, uses-exchanged, list-exchanged}
use Rattle.steps.specs.Copy.{How, left_out, renumbered, kept, how_fixed, how_single, how_of}
use Rattle.machine.specs.Machine.{Regs, Effect, writes, goes, ends, asks, effect}
use Rattle.machine.specs.Single.{constant_of}
use Rattle.machine.proofs.Exchanged.{effect-exchanged}
use Rattle.demand.specs.Setting.{In, Setting, does, defs_at, reads_at}
use Rattle.demand.proofs.Effects.{Shape, constant, computed, acting, going, testing, casing, ending, shape, plain, varies, fixed_constant}

-- an effect that leaves the block
abbrev pub Leaves : Effect → Type 0
Leaves (writes vs) = ⊥
Leaves (goes b) = Unit {0}
Leaves (ends e) = Unit {0}
Leaves (asks a) = ⊥

small-ends : (k : ℕ) → small_end_kind k ≡ true → terminator_kind k ≡ true
small-ends k q = by (eqb k 18) (eqb k 19) (eqb k 21) refl refl refl q
  where
    by : (a b c : Bool) → eqb k 18 ≡ a → eqb k 19 ≡ b → eqb k 21 ≡ c → (a || b || c) ≡ true → terminator_kind k ≡ true
    by true b c p p' p'' q = rw (eqb-true k 18 p)
    by false true c p p' p'' q = rw (eqb-true k 19 p')
    by false false true p p' p'' q = rw (eqb-true k 21 p'')
    by false false false p p' p'' q = clash _ q refl

-- an exchange of registers keeps the kind and whether a constant is written
exchanged-alike : (σ τ : ℕ → ℕ) (x : Inst) → (kind_of (exchanged σ τ x) ≡ kind_of x) × (is_fixed (fixed_of (exchanged σ τ x)) ≡ is_fixed (fixed_of x))
unfolding exchanged fixed_of form_of
exchanged-alike σ τ (i.Const d v) = (refl, refl)
exchanged-alike σ τ (i.ConstF d v) = (refl, refl)
exchanged-alike σ τ (i.Move d s) = (refl, refl)
exchanged-alike σ τ (i.AddrOf d s f) = (refl, refl)
exchanged-alike σ τ (i.Select d c x y) = (refl, refl)
exchanged-alike σ τ (i.Cmp op d x y) = (refl, refl)
exchanged-alike σ τ (i.Bool op d x y) = (refl, refl)
exchanged-alike σ τ (i.Bin op d x y) = (refl, refl)
exchanged-alike σ τ (i.BinRange op d x y l h w) = (refl, refl)
exchanged-alike σ τ (i.Load d a w) = (refl, refl)
exchanged-alike σ τ (i.Store a s w) = (refl, refl)
exchanged-alike σ τ (i.Check c v l h w) = (refl, refl)
exchanged-alike σ τ (i.MakeDope a p) = (refl, refl)
exchanged-alike σ τ (i.DopeLen d p n) = (refl, refl)
exchanged-alike σ τ (i.BoundsLen d l r e) = (refl, refl)
exchanged-alike σ τ (i.Alloc d s) = (refl, refl)
exchanged-alike σ τ (i.TakeBounds l r e) = (refl, refl)
exchanged-alike σ τ (i.CallNative n a d) = (refl, refl)
exchanged-alike σ τ (i.Br t) = (refl, refl)
exchanged-alike σ τ (i.CondBr c t f) = (refl, refl)
exchanged-alike σ τ (i.Case v t) = (refl, refl)
exchanged-alike σ τ (i.Ret v) = (refl, refl)
exchanged-alike σ τ (i.Unreachable w) = (refl, refl)
exchanged-alike σ τ i.Stmt = (refl, refl)

pub terminator-exchanged : (σ τ : ℕ → ℕ) (x : Inst) → terminator_of (exchanged σ τ x) ≡ terminator_of x
terminator-exchanged σ τ x = ap terminator_kind (exchanged-alike σ τ x).0

module _ (E : Setting) where
  -- an instruction that writes one register, from what it reads, and shows nothing
  pub record Silent (x : Code) : Type 0 where
    pub d : ℕ
    pub value : List ℕ → ℕ
    pub one : defs_at x ≡ d ∷ []
    pub unlisted : list_of x.inst ≡ no_list
    pub does_write : (g : Regs) → does E x g ≡ writes (value (map g (reads_at E.operands x)) ∷ [])
    pub copied : plain (fixed_of x.inst) ≡ true
    pub no_end : terminator_of x.inst ≡ false

  pub record Last (x : Code) : Type 0 where
    pub none : defs_at x ≡ []
    pub unlisted : list_of x.inst ≡ no_list
    pub leaves : (g : Regs) → Leaves (does E x g)
    pub few : length (uses_of x.inst) ≤ 1

  -- "A target has at most four instructions": the last one leaves, the others are silent
  abbrev pub Small : List Code → Type 0
  Small [] = ⊥
  Small (x ∷ []) = Last x
  Small (x ∷ y ∷ c) = Silent x × Small (y ∷ c)

  plain-varying : (x : Fixed) → is_fixed x ≡ false → plain x ≡ true
  plain-varying (word v) q = refl
  plain-varying real q = refl
  plain-varying (address up) q = clash _ refl q
  plain-varying varying q = refl

  silent : (x : Code) → dupable x.inst ≡ true → Silent x
  silent x q = by (shape E.address x.inst)
    where
      by : Shape E.address x.inst → Silent x
      by (constant d v e u l c f a) =
          record { d = d; value = λ vs. v; one = e; unlisted = l; does_write = λ g. a _ _ _ _; copied = sym c ∙ q; no_end = f.no_end }
      by (computed d F e l f a) =
          record {
            d = d;
            value = F;
            one = e;
            unlisted = l;
            does_write = λ g. a _ _ _ _;
            copied = plain-varying (fixed_of x.inst)
                f.is-fixed;
            no_end = f.no_end;
          }
      by (acting u f a) = clash _ q u
      by (going l w f a) = clash _ q f.no_copy
      by (testing c l m w u f a) = clash _ q f.no_copy
      by (casing n w f a) = clash _ q f.no_copy
      by (ending F w f a) = clash _ q f.no_copy

  last : (x : Code) → small_end x.inst ≡ true → Last x
  last x q = by (shape E.address x.inst)
    where
      t : terminator_of x.inst ≡ true
      t = small-ends (kind_of x.inst) q

      by : Shape E.address x.inst → Last x
      by (constant d v e u l c f a) = clash _ t f.no_end
      by (computed d F e l f a) = clash _ t f.no_end
      by (acting u f a) = clash _ t f.no_end
      by (going l w f a) = record { none = f.none; unlisted = f.unlisted; leaves = λ g. subst Leaves (sym (a _ _ _ _)) tt; few = f.few }
      by (testing c l m w u f a) = record { none = f.none; unlisted = f.unlisted; leaves = λ g. subst Leaves (sym (a _ _ _ _)) tt; few = f.few }
      by (casing n w f a) = record { none = f.none; unlisted = f.unlisted; leaves = λ g. subst Leaves (sym (a _ _ _ _)) tt; few = f.few }
      by (ending F w f a) = record { none = f.none; unlisted = f.unlisted; leaves = λ g. subst Leaves (sym (a _ _ _ _)) tt; few = f.few }

  pub small_is : (c : List Code) → copyable c ≡ true → Small c
  unfolding copyable
  small_is [] q = clash _ q refl
  small_is (x ∷ []) q = last x q
  small_is (x ∷ y ∷ c) q = let t = and_parts (dupable x.inst) (copyable (y ∷ c)) q in (silent x t.0, small_is (y ∷ c) t.1)

  -- an instruction renamed: σ over what it reads, τ over what it writes
  module _ (σ τ : ℕ → ℕ) (x : Code) (unlisted : list_of x.inst ≡ no_list) where
    abbrev x' : Code
    x' = with_inst (exchanged σ τ x.inst) x

    pub renamed-defs : defs_at x' ≡ map τ (defs_at x)
    renamed-defs = defs-exchanged σ τ x.inst

    pub renamed-reads : reads_at E.operands x' ≡ map σ (reads_at E.operands x)
    renamed-reads =
        rw (uses-exchanged σ τ x.inst, list-exchanged σ τ x.inst, unlisted)
        (append-nil (map σ (uses_of x.inst)) ∙ ap (map σ) (sym (append-nil (uses_of x.inst))))

    pub renamed-does : (g g' : Regs) → map (λ r. g' (σ r)) (reads_at E.operands x) ≡ map g (reads_at E.operands x) → does E x' g' ≡ does E x g
    renamed-does g g' q =
        effect-exchanged σ τ E.address E.tables x.stmt.0 [] (map g' (reads_at E.operands x')) x.inst
        ∙ ap (λ vs. effect E.address E.tables x.stmt.0 [] vs x.inst) (ap (map g') renamed-reads ∙ map-map g' σ (reads_at E.operands x) ∙ q)

    pub renamed_constant : constant_of E.address x'.inst ≡ constant_of E.address x.inst
    unfolding constant_of
    renamed_constant = rw ((exchanged-alike σ τ x.inst).1, effect-exchanged σ τ E.address [] 0 [] [] x.inst)

  module _ (f : Facts) (same-one : (r : ℕ) → (ltb r (length f.registers) && f.single r) ≡ E.one r) (own : ℕ → ℕ) where
    -- all its counted uses are in the code that is copied
    abbrev pub all_own : ℕ → Bool
    all_own r = eqb (f.uses r) (own r)

    -- what each way says of the instruction
    pub data Way (x : Code) : How → Type 0 where
      way_out : (d v : ℕ) → defs_at x ≡ d ∷ [] → E.one d ≡ true → constant_of E.address x.inst ≡ Some v → Way x left_out
      way_new : (d : ℕ) → defs_at x ≡ d ∷ [] → E.one d ≡ true → all_own d ≡ true → constant_of E.address x.inst ≡ None → Way x (renumbered d)
      way_kept : ((d : ℕ) → In d (defs_at x) → E.one d ≡ true → all_own d ≡ true → ⊥) → Way x kept

    pub way_last : (x : Code) → Last x → Way x (how_of f own x.inst)
    unfolding how_of
    way_last x l = rw l.none (way_kept (λ d k. absurd (subst (In d) l.none k)))

    pub way_silent : (x : Code) → Silent x → Way x (how_of f own x.inst)
    unfolding how_of
    way_silent x s = rw s.one (by (ltb d (length f.registers) && f.single d) (same-one d))
      where
        d : ℕ
        d = s.d

        only : (r : ℕ) → In r (defs_at x) → r ≡ d
        only r k = at_head (subst (In r) s.one k)
          where
            at_head : In r (d ∷ []) → r ≡ d
            at_head (inl z) = z
            at_head (inr z) = absurd z

        own_is : (b : Bool) → all_own d ≡ b → E.one d ≡ true → is_fixed (fixed_of x.inst) ≡ false → Way x (cond b (renumbered d) kept)
        own_is true p q z = way_new d s.one q p (varies E.address x.inst z)
        own_is false p q z = way_kept (λ r k o a. clash _ (ap all_own (sym (only r k)) ∙ a) p)

        at_one : (y : Fixed) → fixed_of x.inst ≡ y → E.one d ≡ true → Way x (how_fixed f (own d) d y)
        at_one (word v) z q = let t = fixed_constant E.address x.inst (ap is_fixed z) in way_out d t.0 s.one q t.1
        at_one real z q = let t = fixed_constant E.address x.inst (ap is_fixed z) in way_out d t.0 s.one q t.1
        at_one (address up) z q = clash _ s.copied (ap plain z)
        at_one varying z q = own_is (all_own d) refl q (ap is_fixed z)

        by : (b : Bool) → b ≡ E.one d → Way x (how_single f (own d) d (fixed_of x.inst) b)
        by true q = at_one (fixed_of x.inst) refl (sym q)
        by false q = way_kept (λ r k o a. clash _ o (ap E.one (only r k) ∙ sym q))
