-- The steps that rewrite the end of one block: equal arms, a fold by a known value, a turned CondBr.
use Prim.Native.Nat.{ℕ, zero, suc, ◌<◌}
use mathlib.Core.Path.{◌≡◌, refl, sym, ap, subst, ◌∙◌}
use mathlib.Core.Logic.{◌⊎◌, inl, inr}
use mathlib.Core.List.{List, [], ◌∷◌, ◌++◌}
use Rattle.std.proofs.Common.{Some}
use mathlib.Core.Bool.{Bool, true, false, ◌||◌, cond}
use lib.Dec.{eqb}
use lib.ListN.{length, get_or, set}
use Rattle.inst.specs.declared.Code.{Code}
use Rattle.inst.specs.declared.Reg.{Reg}
use Rattle.inst.specs.declared.BlockId.{BlockId}
use Rattle.inst.specs.declared.Inst.{Inst}
use Rattle.inst.specs.declared.Inst.TheVariants as i
use Rattle.codec.specs.Codec.{reg_of, block_of}
use Rattle.roles.specs.Roles.{defs_of, reads_of}
use Rattle.procedure.specs.Lists.{holds}
use Rattle.word.specs.Word.{choose}
use Rattle.ends.specs.declared.End.TheVariants as e
use Rattle.ends.specs.Ends.{end_of, lone_of, front, with_end}
use Rattle.codec.specs.Codec.{with_inst}
use Rattle.steps.specs.EqualArms.{reached_from}
use Rattle.steps.specs.Facts.{Facts}
use Rattle.steps.specs.Note.{Known, nothing, notes, source_of, value_of}
use Rattle.steps.specs.Thread.{Work, block_at, matching, arm_of}
use Rattle.machine.specs.Act.{Act}
use Rattle.machine.specs.Machine.{Regs, at, goes}
use Rattle.machine.proofs.Shorter.{Shorter, mach, shorter_trans}
use Rattle.demand.specs.Setting.{In, Each, Setting, code, does, defs_at, reads_at, Read, Fine, Loaded, Behind}
use Rattle.demand.proofs.Effects.{passes_any}
use Rattle.demand.proofs.Codes.{each_left, Ended, ends-in, in-range}
use Rattle.demand.proofs.Edit.{Meet, meet, Tail, whole, edited}
use Rattle.demand.proofs.Branches.{cond_other, Tests, cond_does, br_new, cond_new, Good, end_good, end-blocks}
use Rattle.demand.proofs.Noted.{Holds, nothing-holds, value-holds, source_holds, notes_hold, source_read}
use Rattle.demand.proofs.Sparse.{Sparse, sparse_end}
use Rattle.demand.proofs.Jumps.{St, both_go, chase, matched}

pub empty_end : end_of [] ≡ e.Other
unfolding end_of
empty_end = refl

module _ (E : Setting) where
  -- from any block, with the single constants loaded, the new program's run is the old one's and costs no more
  abbrev pub Shortens : List (List Code) → List (List Code) → Type 0
  Shortens P P' =
      (κ : ℕ) (rs rs' : List ℕ) (b : ℕ) (g : Regs) (h : List Act) → Loaded E g
      → Shorter (mach E.outside E.address κ (code E rs P)) (mach E.outside E.address κ (code E rs' P')) (at (get_or P b []) g h)
      (at (get_or P' b []) g h)

  -- one edit: m and m' are the next new numbers before and after it
  pub record Edited (m m' : ℕ) (P P' : List (List Code)) : Type 0 where
    pub good : Good E m' P'
    pub shortens : Shortens P P'

  pub always : (c : List Code) (g : Regs) → Behind E (λ g. Unit {0}) c g
  always [] g = tt
  always (x ∷ c) g = passes_any (Behind E (λ g. Unit {0}) c) (does E x g) (defs_at x) g (λ vs. always c _)

  -- local registers may hold anything
  pub settle : (m : ℕ) (P : List (List Code)) → Good E m P → (κ : ℕ) (rs rs' : List ℕ) (b : ℕ) (g g' : Regs) (h : List Act) → Loaded E g → Meet E g g'
      → Shorter (mach E.outside E.address κ (code E rs P)) (mach E.outside E.address κ (code E rs' P)) (at (get_or P b []) g h)
      (at (get_or P b []) g' h)
  settle m P good κ rs rs' b g g' h l a =
      edited E κ rs rs' P P (λ g. Unit {0}) (λ b. whole (get_or P b []) (good.fine b) (good.hidden b)) b g g' h l a

  pub edited-none : (m : ℕ) (P : List (List Code)) → Good E m P → Edited m m P P
  edited-none m P good = record { good = good; shortens = λ κ rs rs' b g h l. settle m P good κ rs rs' b g g h l (λ r q. refl) }

  pub shortens_then : (P P' P'' : List (List Code)) → Shortens P P' → Shortens P' P'' → Shortens P P''
  shortens_then P P' P'' x y κ rs rs' b g h l = shorter_trans (x κ rs [] b g h l) (y κ [] rs' b g h l)

  pub edited_then : {m m' m'' : ℕ} {P P' P'' : List (List Code)} → Edited m m' P P' → Edited m' m'' P' P'' → Edited m m'' P P''
  edited_then {P = P} {P' = P'} {P'' = P''} x y = record { good = y.good; shortens = shortens_then P P' P'' x.shortens y.shortens }

  -- block a ends in a CondBr
  module _ (m : ℕ) (P : List (List Code)) (good : Good E m P) (a : ℕ) (c : Reg) (t u : BlockId) (at-end : end_of (get_or P a []) ≡ e.CondBr c t u) where
    abbrev pre : List Code
    pre = front (get_or P a [])

    end : Ended (get_or P a [])
    end = ends-in (get_or P a []) (e.CondBr c t u) at-end (cond_other c t u)

    range : a < length P
    range = in-range P a (λ q. cond_other c t u (sym at-end ∙ ap end_of q ∙ empty_end))

    tests : Tests E end.last c t u
    tests = cond_does E end.last c t u (end.view ∙ at-end)

    abbrev ended_by : Inst → List (List Code)
    ended_by x = set P a (pre ++ (with_inst x end.last ∷ []))

    -- the CondBr becomes another branch
    module _ (x : Inst) (writes-none : defs_of x ≡ []) (reads_old : (r : ℕ) → In r (reads_of E.operands x) → Read E.operands pre r ⊎ (r ≡ c.0)) where
      old-reads : (r : ℕ) → In r (reads_of E.operands x) → Read E.operands pre r ⊎ In r (reads_at E.operands end.last)
      old-reads r k = by (reads_old r k)
        where
          by : Read E.operands pre r ⊎ (r ≡ c.0) → Read E.operands pre r ⊎ In r (reads_at E.operands end.last)
          by (inl z) = inl z
          by (inr z) = inr (rw tests.reads (inl z))

      rewritten : (Q : Regs → Type 0) → ((g : Regs) → Loaded E g → Behind E Q pre g)
          → ((κ : ℕ) (rs rs' : List ℕ) → Tail E κ rs rs' P (ended_by x) Q (end.last ∷ []) (with_inst x end.last ∷ []))
          → Edited m m P (set P a (with_end x (get_or P a [])))
      rewritten Q q k =
          record {
            good = end_good E m P good a range end x writes-none old-reads;
            shortens = λ κ rs rs' b g h l.
                rw (end.rewritten x)
                (edited E κ rs rs' P (ended_by x) Q (end-blocks E m P good a range end x writes-none old-reads κ rs rs' Q q (k κ rs rs')) b g g h l
                (λ r z. refl));
          }

      -- of a register that one field writes
      rewritten_sparse : (f : Facts) (d : ℕ) → Sparse E f P d → Sparse E f (set P a (with_end x (get_or P a []))) d
      rewritten_sparse f d = sparse_end E f P a d range end x writes-none old-reads

    -- "if both reach one block, write Br there"
    pub joins_arms : reached_from P t.0 ≡ reached_from P u.0 → Edited m m P (set P a (with_end (i.Br (block_of (reached_from P t.0))) (get_or P a [])))
    joins_arms q = rewritten x refl (λ r k. absurd k) (λ g. Unit {0}) (λ g l. always pre g) tail
      where
        x : Inst
        x = i.Br (block_of (reached_from P t.0))

        reach : (v : ℕ) → reached_from P t.0 ≡ reached_from P (choose v t.0 u.0)
        reach zero = q
        reach (suc v) = refl

        tail : (κ : ℕ) (rs rs' : List ℕ) → Tail E κ rs rs' P (ended_by x) (λ g. Unit {0}) (end.last ∷ []) (with_inst x end.last ∷ [])
        tail κ rs rs' g g' h l k z =
            chase E κ rs rs' P (ended_by x) (with_inst x end.last) [] g g' h l (meet E (with_inst x end.last ∷ []) g g' z) 4
            (choose (g c.0) t.0 u.0) end.last []
            (tests.goes_to g) (br_new E _ end.last g' ∙ ap goes (reach (g c.0)))

    module _ (f : Facts) (known : (r v : ℕ) → f.const r ≡ Some v → E.single r ≡ Some v) where
      abbrev K : Known
      K = notes f nothing pre

      abbrev source : ℕ
      source = source_of K c.0

      holding : (g : Regs) → Loaded E g → Behind E (Holds K) pre g
      holding g l =
          notes_hold E f known pre (each_left (Fine E) pre (end.last ∷ []) (subst (Each (Fine E)) end.is (good.fine a))) nothing g l (nothing-holds g)

      -- "A known value makes a Br"
      pub folds_known : (n : ℕ) → value_of f K source ≡ Some n → Edited m m P (set P a (with_end (i.Br (block_of (choose n t.0 u.0))) (get_or P a [])))
      folds_known n q = rewritten x refl (λ r k. absurd k) (Holds K) holding tail
        where
          x : Inst
          x = i.Br (block_of (choose n t.0 u.0))

          tail : (κ : ℕ) (rs rs' : List ℕ) → Tail E κ rs rs' P (ended_by x) (Holds K) (end.last ∷ []) (with_inst x end.last ∷ [])
          tail κ rs rs' g g' h l k z =
              let v : g c.0 ≡ n = source_holds E f known K g k c.0 ∙ value-holds E f known K g l k source n q in
              both_go E κ rs rs' P (ended_by x) (with_inst x end.last) [] g g' h l (meet E (with_inst x end.last ∷ []) g g' z) end.last []
              (choose n t.0 u.0)
              (tests.goes_to g ∙ ap (λ w. goes (choose w t.0 u.0)) v) (br_new E _ end.last g')

      pub folds_sparse : (n d : ℕ) → Sparse E f P d → Sparse E f (set P a (with_end (i.Br (block_of (choose n t.0 u.0))) (get_or P a []))) d
      folds_sparse n = rewritten_sparse (i.Br (block_of (choose n t.0 u.0))) refl (λ r k. absurd k) f

      -- the source is c, or was read before
      turn-reads : (l m : ℕ) (r : ℕ) → In r (reads_of E.operands (i.CondBr (reg_of source) (block_of l) (block_of m))) → Read E.operands pre r ⊎ (r ≡ c.0)
      turn-reads l m r (inl q) = by (source_read E.address E.operands f pre c.0)
        where
          by : (source ≡ c.0) ⊎ Read E.operands pre source → Read E.operands pre r ⊎ (r ≡ c.0)
          by (inl z) = inr (q ∙ z)
          by (inr z) = inl (subst (Read E.operands pre) (sym q) z)
      turn-reads l m r (inr q) = absurd q

      pub turns_sparse : (l m d : ℕ) → Sparse E f P d → Sparse E f (set P a (with_end (i.CondBr (reg_of source) (block_of l) (block_of m)) (get_or P a []))) d
      turns_sparse l m = rewritten_sparse (i.CondBr (reg_of source) (block_of l) (block_of m)) refl (turn-reads l m) f

      -- "c becomes its copy's source"; "an arm whose target is a lone CondBr on the same c .. takes that block's matching arm"
      pub turns_to : (w : Work) → w.blocks ≡ P
          → Edited m m P (set P a (with_end (i.CondBr (reg_of source) (block_of (arm_of f w a source true t.0))
          (block_of (arm_of f w a source false u.0))) (get_or P a [])))
      unfolding arm_of
      turns_to w same = rewritten x refl (turn-reads (arm true t.0) (arm false u.0)) (Holds K) holding tail
        where
          arm : Bool → ℕ → ℕ
          arm truth l = arm_of f w a source truth l

          x : Inst
          x = i.CondBr (reg_of source) (block_of (arm true t.0)) (block_of (arm false u.0))

          tail : (κ : ℕ) (rs rs' : List ℕ) → Tail E κ rs rs' P (ended_by x) (Holds K) (end.last ∷ []) (with_inst x end.last ∷ [])
          tail κ rs rs' g g' h l k z = by (g source) refl
            where
              y : Code
              y = with_inst x end.last

              v : g c.0 ≡ g source
              v = source_holds E f known K g k c.0

              v' : g source ≡ g' source
              v' = z source (inr (inl (inl refl)))

              along : (truth : Bool) (b : ℕ) → ((s t : ℕ) → choose (g source) s t ≡ cond truth s t) → does E end.last g ≡ goes b
                  → does E y g' ≡ goes (arm truth b)
                  → St E κ rs rs' P (ended_by x) (at (end.last ∷ []) g h) (at (y ∷ []) g' h)
              along truth b p q q' = on (eqb b a || holds f.body b) q'
                where
                  on : (t : Bool) → does E y g' ≡ goes (cond t b (matching truth source b (lone_of (block_at w b))))
                      → St E κ rs rs' P (ended_by x) (at (end.last ∷ []) g h) (at (y ∷ []) g' h)
                  on true q' = both_go E κ rs rs' P (ended_by x) y [] g g' h l (meet E (with_inst x end.last ∷ []) g g' z) end.last [] b q q'
                  on false q' =
                      matched E κ rs rs' P (ended_by x) y [] g g' h l (meet E (with_inst x end.last ∷ []) g g' z) truth source b p end.last [] q
                      (subst (λ Q. does E y g' ≡ goes (matching truth source b (lone_of (get_or Q b [])))) same q')

              by : (n : ℕ) → g source ≡ n → St E κ rs rs' P (ended_by x) (at (end.last ∷ []) g h) (at (y ∷ []) g' h)
              by zero p =
                  along false u.0 (λ s t. rw p) (tests.goes_to g ∙ rw (v, p)) (cond_new E _ _ _ end.last g' ∙ rw (← v', p))
              by (suc n) p =
                  along true t.0 (λ s t. rw p) (tests.goes_to g ∙ rw (v, p)) (cond_new E _ _ _ end.last g' ∙ rw (← v', p))
