-- The end of one block rewritten: what every program of the steps keeps, and the branches' effects.
use Prim.Native.Nat.{ℕ, ◌≤◌, ◌<◌}
use mathlib.Core.Path.{◌≡◌, refl, sym, ap, subst, ◌∙◌}
use mathlib.Core.Logic.{◌⊎◌, inl, inr}
use mathlib.Core.List.{List, [], ◌∷◌, ◌++◌}
use mathlib.Core.Bool.{false}
use native.Mathlib.Omega.{arith}
use lib.ListN.{length, get_or, set}
use Rattle.inst.specs.declared.Code.{Code}
use Rattle.inst.specs.declared.Reg.{Reg}
use Rattle.inst.specs.declared.BlockId.{BlockId}
use Rattle.inst.specs.declared.Inst.{Inst}
use Rattle.inst.specs.declared.Inst.TheVariants as i
use Rattle.codec.specs.Codec.{reg_of, block_of}
use Rattle.roles.specs.Roles.{defs_of, reads_of}
use Rattle.word.specs.Word.{choose}
use Rattle.ends.specs.declared.End.{End}
use Rattle.ends.specs.declared.End.TheVariants as e
use Rattle.ends.specs.Ends.{terminator_of, view_of, front, with_end}
use Rattle.codec.specs.Codec.{with_inst}
use Rattle.machine.specs.Machine.{Regs, effect, goes}
use Rattle.demand.specs.Setting.{In, Each, Front, Setting, does, defs_at, reads_at, Written, Read, Exposed, Hidden, Fine, Loaded, Behind}
use Rattle.demand.proofs.Effects.{Shape, constant, computed, acting, going, testing, casing, ending, shape}
use Rattle.demand.proofs.Codes.{each_append, each_left, each_right, front-each, each-front}
use Rattle.demand.proofs.Codes.{exposed-left, exposed-right, exposed_split, read-exposed, Ended, set-block}
use Rattle.demand.proofs.Edit.{Tail, Block, whole, part}

-- two views of one instruction
apart : {A : Type 0} {v w : End} (x : Inst) → view_of x ≡ v → view_of x ≡ w → (v ≡ w → ⊥) → A
apart x p q n = absurd (n (sym p ∙ q))

pub br_other : (l : BlockId) → e.Br l ≡ e.Other → ⊥
br_other l q = let z : ◌≡◌ {A = ℕ} 0 1 = cc in omega arith

pub cond_other : (c : Reg) (l m : BlockId) → e.CondBr c l m ≡ e.Other → ⊥
cond_other c l m q = let z : ◌≡◌ {A = ℕ} 0 1 = cc in omega arith

module _ (E : Setting) where
  -- a Br
  pub br_does : (x : Code) (l : BlockId) (g : Regs) → view_of x.inst ≡ e.Br l → does E x g ≡ goes l.0
  br_does x l g q = by (shape E.address x.inst)
    where
      by : Shape E.address x.inst → does E x g ≡ goes l.0
      by (constant d v p u n w f a) = apart x.inst q f.view (br_other l)
      by (computed d F p n f a) = apart x.inst q f.view (br_other l)
      by (acting u f a) = apart x.inst q f.view (br_other l)
      by (going l' w f a) = a _ _ _ _ ∙ ap (λ z. goes z.0) (by_name (sym w ∙ q))
        where
          by_name : e.Br l' ≡ e.Br l → l' ≡ l
          by_name z = cc
      by (testing c s t w u f a) = apart x.inst q w (λ z. let y : ◌≡◌ {A = ℕ} 0 1 = cc in omega arith)
      by (casing n w f a) = apart x.inst q w (λ z. let y : ◌≡◌ {A = ℕ} 0 1 = cc in omega arith)
      by (ending F w f a) = apart x.inst q w (br_other l)

  -- a CondBr
  pub record Tests (x : Code) (c : Reg) (l m : BlockId) : Type 0 where
    pub reads : reads_at E.operands x ≡ c.0 ∷ []
    pub goes_to : (g : Regs) → does E x g ≡ goes (choose (g c.0) l.0 m.0)

  pub cond_does : (x : Code) (c : Reg) (l m : BlockId) → view_of x.inst ≡ e.CondBr c l m → Tests x c l m
  cond_does x c l m q = by (shape E.address x.inst)
    where
      by : Shape E.address x.inst → Tests x c l m
      by (constant d v p u n w f a) = apart x.inst q f.view (cond_other c l m)
      by (computed d F p n f a) = apart x.inst q f.view (cond_other c l m)
      by (acting u f a) = apart x.inst q f.view (cond_other c l m)
      by (going l' w f a) = apart x.inst q w (λ z. let y : ◌≡◌ {A = ℕ} 0 1 = cc in omega arith)
      by (testing c' l' m' w u f a) =
          let z : e.CondBr c' l' m' ≡ e.CondBr c l m = sym w ∙ q in
          let p : c' ≡ c = cc in
          let p₁ : l' ≡ l = cc in
          let p₂ : m' ≡ m = cc in
          let r : reads_at E.operands x ≡ c.0 ∷ [] = rw (u, f.unlisted, p) in
          record { reads = r; goes_to = λ g. rw r (a _ _ _ _ ∙ rw (p₁, p₂)) }
      by (casing n w f a) = apart x.inst q w (λ z. let y : ◌≡◌ {A = ℕ} 0 1 = cc in omega arith)
      by (ending F w f a) = apart x.inst q w (cond_other c l m)

  pub br_new : (l : ℕ) (x : Code) (g : Regs) → does E (with_inst (i.Br (block_of l)) x) g ≡ goes l
  unfolding effect
  br_new l x g = refl

  pub cond_new : (c l m : ℕ) (x : Code) (g : Regs) → does E (with_inst (i.CondBr (reg_of c) (block_of l) (block_of m)) x) g ≡ goes (choose (g c) l m)
  unfolding effect
  cond_new c l m x g = refl

  -- every register of an instruction is below a number
  abbrev pub Low : ℕ → Code → Type 0
  Low m x = (r : ℕ) → In r (defs_at x) ⊎ In r (reads_at E.operands x) → r < m

  abbrev pub NoEnd : Code → Type 0
  NoEnd x = terminator_of x.inst ≡ false

  -- what every program of the steps keeps; m is the next new number
  pub record Good (m : ℕ) (P : List (List Code)) : Type 0 where
    pub fine : (b : ℕ) → Each (Fine E) (get_or P b [])
    pub hidden : (b : ℕ) → Hidden E (get_or P b [])
    pub low : (b : ℕ) → Each (Low m) (get_or P b [])
    pub formed : (b : ℕ) → Front NoEnd (get_or P b [])

  module _ (m : ℕ) (P : List (List Code)) (good : Good m P) (a : ℕ) (range : a < length P) where
    -- block a with other code
    pub set_good : (m' : ℕ) (c : List Code) → m ≤ m' → Each (Fine E) c → Hidden E c → Each (Low m') c → Front NoEnd c → Good m' (set P a c)
    set_good m' c l f h w n =
        record {
          fine = λ b. on (Each (Fine E)) b f (good.fine b);
          hidden = λ b. on (Hidden E) b h (good.hidden b);
          low = λ b. on (Each (Low m')) b w (more (get_or P b []) (good.low b));
          formed = λ b. on (Front NoEnd) b n (good.formed b);
        }
      where
        on : (F : List Code → Type 0) (b : ℕ) → F c → F (get_or P b []) → F (get_or (set P a c) b [])
        on F b p q = by (set-block P a c range b)
          where
            by : ((b ≡ a) × (get_or (set P a c) b [] ≡ c)) ⊎ (get_or (set P a c) b [] ≡ get_or P b []) → F (get_or (set P a c) b [])
            by (inl s) = subst F (sym s.1) p
            by (inr s) = subst F (sym s) q

        more : (d : List Code) → Each (Low m) d → Each (Low m') d
        more [] p = tt
        more (x ∷ d) p = (λ r k. let y = p.0 r k in omega arith, more d p.1)

    -- block a with another end: only it differs
    pub part-blocks : (κ : ℕ) (rs rs' : List ℕ) (Q : Regs → Type 0) (pre d d' : List Code) → get_or P a [] ≡ pre ++ d → Each (Fine E) pre
        → Hidden E (pre ++ d') → ((g : Regs) → Loaded E g → Behind E Q pre g) → Tail E κ rs rs' P (set P a (pre ++ d')) Q d d'
        → (b : ℕ) → Block E κ rs rs' P (set P a (pre ++ d')) Q (get_or P b []) (get_or (set P a (pre ++ d')) b [])
    part-blocks κ rs rs' Q pre d d' is f h q t b = by (set-block P a (pre ++ d') range b)
      where
        by : ((b ≡ a) × (get_or (set P a (pre ++ d')) b [] ≡ pre ++ d')) ⊎ (get_or (set P a (pre ++ d')) b [] ≡ get_or P b [])
            → Block E κ rs rs' P (set P a (pre ++ d')) Q (get_or P b []) (get_or (set P a (pre ++ d')) b [])
        by (inl s) = rw (s.1, s.0, is) (part pre d d' f h q t)
        by (inr s) = rw s (whole (get_or P b []) (good.fine b) (good.hidden b))

    module _ (t : Ended (get_or P a [])) (x : Inst) (writes-none : defs_of x ≡ [])
        (reads_old : (r : ℕ) → In r (reads_of E.operands x) → Read E.operands (front (get_or P a [])) r ⊎ In r (reads_at E.operands t.last)) where
      abbrev pre : List Code
      pre = front (get_or P a [])

      abbrev y : Code
      y = with_inst x t.last

      end-hidden : Hidden E (pre ++ (y ∷ []))
      end-hidden r z = by (exposed_split E.operands pre (y ∷ []) r z)
        where
          was : Exposed E.operands (pre ++ (t.last ∷ [])) r → E.local r ≡ false
          was k = good.hidden a r (subst (λ c. Exposed E.operands c r) (sym t.is) k)

          from : ¬ (Written pre r) → Read E.operands pre r ⊎ In r (reads_at E.operands t.last) → E.local r ≡ false
          from n (inl k) = was (exposed-left E.operands pre (t.last ∷ []) r (read-exposed E.operands pre r k n))
          from n (inr k) = was (exposed-right E.operands pre (t.last ∷ []) r n (inl k))

          by : Exposed E.operands pre r ⊎ ((¬ (Written pre r)) × Exposed E.operands (y ∷ []) r) → E.local r ≡ false
          by (inl k) = was (exposed-left E.operands pre (t.last ∷ []) r k)
          by (inr (n, inl k)) = from n (reads_old r k)
          by (inr (n, inr k)) = absurd k.1

      pre_fine : Each (Fine E) pre
      pre_fine = each_left (Fine E) pre (t.last ∷ []) (subst (Each (Fine E)) t.is (good.fine a))

      end_low : Low m y
      end_low r (inl k) = absurd (subst (In r) writes-none k)
      end_low r (inr k) = by (reads_old r k)
        where
          all : Each (Low m) (pre ++ (t.last ∷ []))
          all = subst (Each (Low m)) t.is (good.low a)

          in_code : (c : List Code) → Each (Low m) c → Read E.operands c r → r < m
          in_code [] p z = absurd z
          in_code (u ∷ c) p (inl z) = p.0 r (inr z)
          in_code (u ∷ c) p (inr z) = in_code c p.1 z

          by : Read E.operands pre r ⊎ In r (reads_at E.operands t.last) → r < m
          by (inl z) = in_code pre (each_left (Low m) pre (t.last ∷ []) all) z
          by (inr z) = (each_right (Low m) pre (t.last ∷ []) all).0 r (inr z)

      pre_formed : Each NoEnd pre
      pre_formed = front-each NoEnd (get_or P a []) (good.formed a)

      pub end_good : Good m (set P a (with_end x (get_or P a [])))
      end_good =
          rw (t.rewritten x)
          (set_good m (pre ++ (y ∷ [])) (omega arith)
          (each_append (Fine E) pre (y ∷ []) pre_fine (λ r k. absurd (subst (In r) writes-none k), tt))
          end-hidden
          (each_append (Low m) pre (y ∷ []) (each_left (Low m) pre (t.last ∷ []) (subst (Each (Low m)) t.is (good.low a))) (end_low, tt))
          (each-front NoEnd pre (y ∷ []) pre_formed tt))

      pub end-blocks : (κ : ℕ) (rs rs' : List ℕ) (Q : Regs → Type 0) → ((g : Regs) → Loaded E g → Behind E Q pre g)
          → Tail E κ rs rs' P (set P a (pre ++ (y ∷ []))) Q (t.last ∷ []) (y ∷ [])
          → (b : ℕ) → Block E κ rs rs' P (set P a (pre ++ (y ∷ []))) Q (get_or P b []) (get_or (set P a (pre ++ (y ∷ []))) b [])
      end-blocks κ rs rs' Q q k = part-blocks κ rs rs' Q pre (t.last ∷ []) (y ∷ []) t.is pre_fine end-hidden q k
