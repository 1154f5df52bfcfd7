-- The hops and the blocks one after the other: where each hop has what it asks, they are the definition's.
use Prim.Native.Nat.{ℕ, zero, suc, ◌/◌, ◌≤◌, ◌<◌, ◌^◌}
use native.Mathlib.Omega.{arith}
use mathlib.Core.Path.{◌≡◌, refl, ap, subst, ◌∙◌}
use mathlib.Core.Bool.{Bool, true, false, ◌&&◌, cond}
use mathlib.Core.List.{List, [], ◌∷◌}
use Rattle.std.proofs.Common.{Option}
use borrow.Author.Tests.{ltb-true}
use lib.Dec.{leb, ltb}
use lib.ListN.{length}
use Rattle.general.proofs.Booleans.{and_first}
use Rattle.inst.specs.declared.BlockId.{BlockId}
use Rattle.inst.specs.declared.Code.{Code}
use Rattle.inst.specs.declared.Inst.{Inst}
use Rattle.inst.specs.declared.Inst.TheVariants as i
use Rattle.codec.specs.Codec.{in_range, InRange}
use Rattle.ends.specs.declared.End.{End}
use Rattle.ends.specs.declared.End.TheVariants as e
use Rattle.ends.specs.Forms.{form_of}
use Rattle.ends.specs.Ends.{code_at, view_of, end_of}
use Rattle.blocks.specs.Blocks.{blocks_of}
use Rattle.blocks.proofs.Bytes.{block-range}
use Rattle.blocks.proofs.Parts.{length-blocks}
use Rattle.equal_arms.proofs.Reach.{Named, end-named}
use Rattle.steps.specs.Facts.{Facts}
use Rattle.steps.specs.Thread.{Work, block_at, stops, hop_at, hop, hops, onward, thread_from, thread}
use Rattle.facts.specs.Storage.{facts_in}
use Rattle.hop_cond_br.specs.Storage.{before}
use Rattle.arena.proofs.Moved.{Sound}
use Rattle.thread.specs.Storage.{Store, store, hop_at_in, hop_in, onward_in, hops_in, nameable, thread_from_in, thread_in}
use Rattle.thread.proofs.Refined.{work_of, goes, arena_of, Room, cond_br_hop, br_hop}

-- the register that an end tests is in range
abbrev pub Tested : End → Type 0
Tested (e.Br t) = Unit {0}
Tested (e.CondBr c t f) = c.0 < 2 ^ 32
Tested (e.Case n) = Unit {0}
Tested e.Other = Unit {0}

view_tested : (x : Inst) → in_range x ≡ true → Tested (view_of x)
unfolding view_of form_of in_range
view_tested (i.Const d v) h = tt
view_tested (i.ConstF d v) h = tt
view_tested (i.Move d s) h = tt
view_tested (i.AddrOf d s f) h = tt
view_tested (i.Select d c x y) h = tt
view_tested (i.Cmp op d x y) h = tt
view_tested (i.Bool op d x y) h = tt
view_tested (i.Bin op d x y) h = tt
view_tested (i.BinRange op d x y l u w) h = tt
view_tested (i.Load d a w) h = tt
view_tested (i.Store a s w) h = tt
view_tested (i.Check c v l u w) h = tt
view_tested (i.MakeDope a p) h = tt
view_tested (i.DopeLen d p n) h = tt
view_tested (i.BoundsLen d l r k) h = tt
view_tested (i.Alloc d s) h = tt
view_tested (i.TakeBounds l r k) h = tt
view_tested (i.CallNative n a d) h = tt
view_tested (i.Br t) h = tt
view_tested (i.CondBr c t f) h = ltb-true c.0 (2 ^ 32) (and_first (ltb c.0 (2 ^ 32)) _ h)
view_tested (i.Case v t) h = tt
view_tested (i.Ret v) h = tt
view_tested (i.Unreachable w) h = tt
view_tested i.Stmt h = tt

pub end_tested : (c : List Code) → ((j : ℕ) → InRange (code_at c j)) → Tested (end_of c)
unfolding end_of
end_tested [] h = tt
end_tested (x ∷ []) h = view_tested x.inst (h 0).inst
end_tested (x ∷ (y ∷ c)) h = end_tested (y ∷ c) (λ j. h (suc j))

module _ (facts : List ℕ) (body : Option ℕ) (budget known copy : ℕ) where
  abbrev f : Facts
  f = facts_in facts body budget

  -- what a hop of block a asks
  pub record Fine (s : Store) (a : ℕ) : Type 0 where
    pub sound : Sound (arena_of s)
    pub words : (leb (length (before s.table a s.work)) (known / 2) && leb (length (before s.table a s.work)) (copy / 2)) ≡ true
    pub room : (l : BlockId) → end_of (block_at (work_of s) a) ≡ e.Br l → stops f (work_of s) a l.0 ≡ false → Room facts body budget s a l.0

  module _ (s : Store) (a : ℕ) (w : Fine s a) (rest : Work → Work) where
    by_end : (x : End) → end_of (block_at (work_of s) a) ≡ x
        → onward (hop_at f (work_of s) a x) (work_of s) rest ≡ goes (hop_at_in facts body budget known copy s a x) rest
    by_end (e.Br l) q = br_hop facts body budget known copy s a l.0 w.sound (w.room l q) rest
    by_end (e.CondBr c t g) q =
        let ranges : (j : ℕ) → InRange (code_at (block_at (work_of s) a) j) = λ j. block-range s.work s.table a j w.sound.work-bytes in
        let n = subst Named q (end-named (block_at (work_of s) a) ranges) in
        let m = subst Tested q (end_tested (block_at (work_of s) a) ranges) in
        cond_br_hop facts body budget known copy s a w.sound c.0 t.0 g.0 m n.0 n.1 w.words rest
    by_end (e.Case n) q = refl
    by_end e.Other q = refl

    -- the hop is the definition's
    pub hop-same : onward (hop f (work_of s) a) (work_of s) rest ≡ goes (hop_in facts body budget known copy s a) rest
    unfolding hop hop_in
    hop-same = by_end (end_of (block_at (work_of s) a)) refl

  -- with what stays true from hop to hop, of which k are left, and from block to block
  module _
      (Good : ℕ → ℕ → Store → Type 0)
      (fine : (k a : ℕ) (s : Store) → Good (suc k) a s → Fine s a)
      (keeps : (k a : ℕ) (s : Store) → Good (suc k) a s → Good k a (hop_in facts body budget known copy s a).to)
      (leads : (k a : ℕ) (s : Store) → Good k a s → Good 6 (suc a) s)
    where
      module _ (a : ℕ) where
        abbrev Same : ℕ → Type 0
        Same k = (s : Store) → Good k a s → hops f k a (work_of s) ≡ work_of (hops_in facts body budget known copy k a s)

        by_more : (k : ℕ) → Same k → (b : Bool) (t : Store) → Good k a t
            → cond b (hops f k a (work_of t)) (work_of t) ≡ work_of (onward_in facts body budget known copy b t (hops_in facts body budget known copy k a))
        by_more k h true t g = h t g
        by_more k h false t g = refl

        hops-same : (k : ℕ) → Same k
        unfolding hops hops_in
        hops-same zero s g = refl
        hops-same (suc k) s g =
            let z = hop_in facts body budget known copy s a in
            hop-same s a (fine k a s g) (hops f k a) ∙ by_more k (hops-same k) z.more z.to (keeps k a s g)

        still : (k : ℕ) → ((s : Store) → Good k a s → Good 6 (suc a) (hops_in facts body budget known copy k a s))
            → (b : Bool) (t : Store) → Good k a t
            → Good 6 (suc a) (onward_in facts body budget known copy b t (hops_in facts body budget known copy k a))
        still k h true t g = h t g
        still k h false t g = leads k a t g

        hops_good : (k : ℕ) (s : Store) → Good k a s → Good 6 (suc a) (hops_in facts body budget known copy k a s)
        unfolding hops_in
        hops_good zero s g = leads zero a s g
        hops_good (suc k) s g =
            let z = hop_in facts body budget known copy s a in
            still k (hops_good k) z.more z.to (keeps k a s g)

      from-same : (n a : ℕ) (s : Store) → Good 6 a s → thread_from f n a (work_of s) ≡ work_of (thread_from_in facts body budget known copy n a s)
      unfolding thread_from thread_from_in
      from-same zero a s g = refl
      from-same (suc n) a s g =
          let t = hops_in facts body budget known copy 6 a s in
          ap (thread_from f n (suc a)) (hops-same a 6 s g) ∙ from-same n (suc a) t (hops_good a 6 s g)

      -- threading is the definition's
      pub thread-same : (work table kinds : List ℕ) (top : ℕ) → length table / 32 ≤ 4294967296
          → Good 6 0 (store work table kinds (record { top = top; grown = 0; fresh = 0; edited = false }))
          → thread f (blocks_of work table) ≡ work_of (thread_in facts body budget known copy work table kinds top)
      thread-same work table kinds top few g =
          let s = store work table kinds (record { top = top; grown = 0; fresh = 0; edited = false }) in
          let all : length table / 32 ≡ nameable table = omega arith in
          ap (λ (n : ℕ). thread_from f n 0 (work_of s)) (length-blocks work table ∙ all) ∙ from-same (nameable table) 0 s g

      from-holds : (Q : Store → Type 0) → ((a : ℕ) (s : Store) → Good 6 a s → Q s) → (n a : ℕ) (s : Store) → Good 6 a s
          → Q (thread_from_in facts body budget known copy n a s)
      unfolding thread_from_in
      from-holds Q q zero a s g = q a s g
      from-holds Q q (suc n) a s g =
          let t = hops_in facts body budget known copy 6 a s in
          from-holds Q q n (suc a) t (hops_good a 6 s g)

      -- and what it says of every block holds at the end
      pub thread-holds : (Q : Store → Type 0) → ((a : ℕ) (s : Store) → Good 6 a s → Q s) → (work table kinds : List ℕ) (top : ℕ)
          → Good 6 0 (store work table kinds (record { top = top; grown = 0; fresh = 0; edited = false }))
          → Q (thread_in facts body budget known copy work table kinds top)
      thread-holds Q q work table kinds top g =
          from-holds Q q (nameable table) 0 (store work table kinds (record { top = top; grown = 0; fresh = 0; edited = false })) g
