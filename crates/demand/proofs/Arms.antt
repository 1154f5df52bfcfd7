-- What the equal-arms step keeps: a fact that every rewriting of a CondBr to a Br keeps.
use Prim.Native.Nat.{ℕ, zero, suc, ◌≤◌}
use mathlib.Core.Path.{◌≡◌, refl, sym, ap, subst, ◌∙◌}
use mathlib.Core.Logic.{◌⊎◌, inl, inr}
use mathlib.Core.List.{List, [], ◌∷◌, ◌++◌}
use mathlib.Core.Bool.{Bool, true, false}
use native.Mathlib.Omega.{arith}
use lib.Dec.{eqb}
use lib.ListN.{length, get_or, set}
use Rattle.inst.specs.declared.Code.{Code}
use Rattle.inst.specs.declared.Reg.{Reg}
use Rattle.inst.specs.declared.BlockId.{BlockId}
use Rattle.inst.specs.declared.Inst.TheVariants as i
use Rattle.codec.specs.Codec.{block_of, with_inst}
use Rattle.procedure.specs.Lists.{joined}
use Rattle.procedure.specs.Counts.{writes_in}
use Rattle.ends.specs.declared.End.{End}
use Rattle.ends.specs.declared.End.TheVariants as e
use Rattle.ends.specs.Ends.{view_of, end_of, front, with_end}
use Rattle.steps.specs.EqualArms.{reached_from, Arms, join_if, join_end, join_arms, join_from, equal_arms}
use Rattle.machine.specs.Machine.{Address}
use Rattle.demand.specs.Setting.{defs_at, reads_at}
use Rattle.demand.proofs.Effects.{Shape, constant, computed, acting, going, testing, casing, ending, shape}
use Rattle.demand.proofs.Codes.{ends-in, in-range, set-block}
use Rattle.demand.proofs.Branches.{cond_other}
use Rattle.demand.proofs.Rewrites.{empty_end}
use Rattle.demand.proofs.Counted.{writes-last}
use Rattle.demand.proofs.Sums.{writes-count, sum_set}

-- block k, which ends in a CondBr, with a Br
abbrev branched : List (List Code) → ℕ → ℕ → List (List Code)
branched P k to = set P k (with_end (i.Br (block_of to)) (get_or P k []))

module _ (T : List (List Code) → Type 0)
    (keep : (P : List (List Code)) (k to : ℕ) (c : Reg) (t u : BlockId) → end_of (get_or P k []) ≡ e.CondBr c t u → T P → T (branched P k to)) where
  arms_end : (v : End) (k : ℕ) (s : Arms) → end_of (get_or s.blocks k []) ≡ v → T s.blocks → T (join_end v k s).blocks
  arms_end (e.Br l) k s q p = p
  arms_end (e.CondBr c t u) k s q p = by (eqb (reached_from s.blocks t.0) (reached_from s.blocks u.0))
    where
      by : (b : Bool) → T (join_if b k (reached_from s.blocks t.0) s).blocks
      by true = keep s.blocks k _ c t u q p
      by false = p
  arms_end (e.Case n) k s q p = p
  arms_end e.Other k s q p = p

  arms-from : (n k : ℕ) (s : Arms) → T s.blocks → T (join_from n k s).blocks
  unfolding join_from join_arms
  arms-from zero k s p = p
  arms-from (suc n) k s p = arms-from n (suc k) (join_arms k s) (arms_end (end_of (get_or s.blocks k [])) k s refl p)

  pub arms_keep : (P : List (List Code)) → T P → T (equal_arms P).blocks
  arms_keep P p = arms-from (length P) 0 (record { blocks = P; edited = false }) p

module _ (address : Address) where
  -- a CondBr writes nothing
  cond_writes : (x : Code) (c : Reg) (t u : BlockId) → view_of x.inst ≡ e.CondBr c t u → defs_at x ≡ []
  cond_writes x c t u q = by (shape address x.inst)
    where
      by : Shape address x.inst → defs_at x ≡ []
      by (constant d v p w l n f a) = absurd (cond_other c t u (sym q ∙ f.view))
      by (computed d F p l f a) = absurd (cond_other c t u (sym q ∙ f.view))
      by (acting w f a) = absurd (cond_other c t u (sym q ∙ f.view))
      by (going l w f a) = f.none
      by (testing d l m w v f a) = f.none
      by (casing n w f a) = f.none
      by (ending F w f a) = f.none

  pub arms-writes : (P : List (List Code)) (r : ℕ) → writes_in (joined (equal_arms P).blocks) r ≡ writes_in (joined P) r
  arms-writes P r = arms_keep (λ Q. writes_in (joined Q) r ≡ writes_in (joined P) r)
      (λ Q k to c t u q p. sum_set (writes-count r) Q k _ (same Q k to c t u q) ∙ p) P refl
    where
      same : (Q : List (List Code)) (k to : ℕ) (c : Reg) (t u : BlockId) → end_of (get_or Q k []) ≡ e.CondBr c t u
          → writes_in (with_end (i.Br (block_of to)) (get_or Q k [])) r ≡ writes_in (get_or Q k []) r
      same Q k to c t u q =
          let z = ends-in (get_or Q k []) (e.CondBr c t u) q (cond_other c t u) in
          ap (λ w. writes_in w r) (z.rewritten (i.Br (block_of to)))
          ∙ writes-last (front (get_or Q k [])) (with_inst (i.Br (block_of to)) z.last) r refl
          ∙ sym (writes-last (front (get_or Q k [])) z.last r (cond_writes z.last c t u (z.view ∙ q)))
          ∙ ap (λ w. writes_in w r) (sym z.is)

-- the end of some code reads one register at most
abbrev pub EndFew : List ℕ → List Code → Type 0
EndFew ops c = (pre : List Code) (x : Code) → c ≡ pre ++ (x ∷ []) → length (reads_at ops x) ≤ 1

last-same : (pre pre' : List Code) (x y : Code) → pre ++ (x ∷ []) ≡ pre' ++ (y ∷ []) → x ≡ y
last-same [] [] x y q = cc
last-same [] (z ∷ []) x y q = let w : ◌≡◌ {A = ℕ} 0 1 = cc in absurd (omega arith)
last-same [] (z ∷ w ∷ pre') x y q = let v : ◌≡◌ {A = ℕ} 0 1 = cc in absurd (omega arith)
last-same (z ∷ []) [] x y q = let w : ◌≡◌ {A = ℕ} 0 1 = cc in absurd (omega arith)
last-same (z ∷ w ∷ pre) [] x y q = let v : ◌≡◌ {A = ℕ} 0 1 = cc in absurd (omega arith)
last-same (z ∷ pre) (w ∷ pre') x y q = last-same pre pre' x y (cc)

pub arms-few : (ops : List ℕ) (P : List (List Code)) → ((b : ℕ) → EndFew ops (get_or P b [])) → (b : ℕ) → EndFew ops (get_or (equal_arms P).blocks b [])
arms-few ops P p = arms_keep (λ Q. (b : ℕ) → EndFew ops (get_or Q b [])) keep P p
  where
    keep : (Q : List (List Code)) (k to : ℕ) (c : Reg) (t u : BlockId) → end_of (get_or Q k []) ≡ e.CondBr c t u
        → ((b : ℕ) → EndFew ops (get_or Q b [])) → (b : ℕ) → EndFew ops (get_or (branched Q k to) b [])
    keep Q k to c t u q p b = by (set-block Q k _ (in-range Q k (λ z. cond_other c t u (sym q ∙ ap end_of z ∙ empty_end))) b)
      where
        by : ((b ≡ k) × (get_or (branched Q k to) b [] ≡ with_end (i.Br (block_of to)) (get_or Q k []))) ⊎ (get_or (branched Q k to) b [] ≡ get_or Q b [])
            → EndFew ops (get_or (branched Q k to) b [])
        by (inl s) pre x w =
            let z = ends-in (get_or Q k []) (e.CondBr c t u) q (cond_other c t u) in
            let v = last-same (front (get_or Q k [])) pre (with_inst (i.Br (block_of to)) z.last) x
            (sym (z.rewritten (i.Br (block_of to))) ∙ sym s.1 ∙ w) in
            subst (λ x. length (reads_at ops x) ≤ 1) v (omega arith)
        by (inr s) pre x w = p b pre x (sym s ∙ w)
