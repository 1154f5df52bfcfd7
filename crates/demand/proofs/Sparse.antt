-- A register that gets a new number in a copy is written once there, or isn't read: no copy gives it two numbers and reads it through the first.
-- In each block every write of such a register has an instruction of its own, before the block's end, that reads it; or only a block's end reads it.
use Prim.Native.Nat.{ℕ, ◌+◌, ◌≤◌, ◌<◌}
use mathlib.Core.Path.{◌≡◌, refl, sym, ap, subst, ◌∙◌}
use mathlib.Core.Logic.{◌⊎◌, inl, inr}
use mathlib.Core.List.{List, [], ◌∷◌, ◌++◌}
use native.Mathlib.Omega.{arith}
use lib.ListN.{length, get_or, set}
use Rattle.inst.specs.declared.Code.{Code}
use Rattle.inst.specs.declared.Inst.{Inst}
use Rattle.roles.specs.Roles.{defs_of, reads_of}
use Rattle.procedure.specs.Lists.{times}
use Rattle.procedure.specs.Counts.{writes_in}
use Rattle.ends.specs.Ends.{front, with_end}
use Rattle.codec.specs.Codec.{with_inst}
use Rattle.steps.specs.Facts.{Facts}
use Rattle.demand.specs.Setting.{In, Setting, defs_at, reads_at, Read}
use Rattle.demand.proofs.Codes.{read_split, read_right, dec_read, Ended, set-block}
use Rattle.demand.proofs.Copied.{Small}
use Rattle.demand.proofs.Counted.{times_none, times-one, writes-append, writes-last, reader, readers_in, reader_of}

module _ (E : Setting) (f : Facts) where
  abbrev ops : List ℕ
  ops = E.operands

  -- only the end of a block reads d, if its code is c
  pub record Quiet (d : ℕ) (c : List Code) : Type 0 where
    pub unread : ¬ (Read ops (front c) d)
    pub ends : Read ops c d → (writes_in c d ≤ 1) × (f.uses d ≡ 1)

  pub data Sparse (P : List (List Code)) (d : ℕ) : Type 0 where
    busy : ((b : ℕ) → writes_in (front (get_or P b [])) d ≤ readers_in ops d (front (get_or P b []))) → Sparse P d
    quiet : ((b : ℕ) → Quiet d (get_or P b [])) → Sparse P d

  -- one block set
  pub sparse_set : (P : List (List Code)) (a : ℕ) (c : List Code) (d : ℕ) → a < length P
      → (((b : ℕ) → writes_in (front (get_or P b [])) d ≤ readers_in ops d (front (get_or P b []))) → writes_in (front c) d ≤ readers_in ops d (front c))
      → (((b : ℕ) → Quiet d (get_or P b [])) → Quiet d c)
      → Sparse P d → Sparse (set P a c) d
  sparse_set P a c d l p q (busy k) = busy (λ b. by b (set-block P a c l b))
    where
      by : (b : ℕ) → ((b ≡ a) × (get_or (set P a c) b [] ≡ c)) ⊎ (get_or (set P a c) b [] ≡ get_or P b [])
          → writes_in (front (get_or (set P a c) b [])) d ≤ readers_in ops d (front (get_or (set P a c) b []))
      by b (inl s) = rw s.1 (p k)
      by b (inr s) = rw s (k b)
  sparse_set P a c d l p q (quiet k) = quiet (λ b. by b (set-block P a c l b))
    where
      by : (b : ℕ) → ((b ≡ a) × (get_or (set P a c) b [] ≡ c)) ⊎ (get_or (set P a c) b [] ≡ get_or P b []) → Quiet d (get_or (set P a c) b [])
      by b (inl s) = rw s.1 (q k)
      by b (inr s) = rw s (k b)

  front_of : (pre : List Code) (x : Code) → front (pre ++ (x ∷ [])) ≡ pre
  unfolding front
  front_of [] x = refl
  front_of (y ∷ []) x = refl
  front_of (y ∷ z ∷ pre) x = ap (λ w. y ∷ w) (front_of (z ∷ pre) x)

  -- a block's end rewritten, so that it reads nothing new
  pub sparse_end : (P : List (List Code)) (a : ℕ) (d : ℕ) → a < length P → (t : Ended (get_or P a [])) (x : Inst) → defs_of x ≡ []
      → ((r : ℕ) → In r (reads_of ops x) → Read ops (front (get_or P a [])) r ⊎ In r (reads_at ops t.last))
      → Sparse P d → Sparse (set P a (with_end x (get_or P a []))) d
  sparse_end P a d l t x empty old = sparse_set P a (with_end x c) d l (λ q. rw same (q a)) (λ q. by (q a))
    where
      c : List Code
      c = get_or P a []

      pre : List Code
      pre = front c

      same : front (with_end x c) ≡ pre
      same = ap front (t.rewritten x) ∙ front_of pre (with_inst x t.last)

      by : Quiet d c → Quiet d (with_end x c)
      by k = record {
        unread = λ z. k.unread (subst (λ y. Read ops y d) same z);
        ends = λ z. on z
            (read_split ops pre _ d (subst (λ y. Read ops y d) (t.rewritten x) z));
      }
        where
          from : Read ops pre d ⊎ In d (reads_at ops t.last) → (writes_in c d ≤ 1) × (f.uses d ≡ 1)
          from (inl z) = absurd (k.unread z)
          from (inr z) = k.ends (subst (λ y. Read ops y d) (sym t.is) (read_right ops pre (t.last ∷ []) d (inl z)))

          fewer : writes_in c d ≤ 1 → writes_in (with_end x c) d ≤ 1
          fewer q =
              omega (
                arith,
                ap (λ y. writes_in y d) (t.rewritten x),
                writes-last pre (with_inst x t.last) d empty,
                ap (λ y. writes_in y d) t.is,
                writes-append pre (t.last ∷ []) d,
              )

          on : Read ops (with_end x c) d → Read ops pre d ⊎ Read ops (with_inst x t.last ∷ []) d → (writes_in (with_end x c) d ≤ 1) × (f.uses d ≡ 1)
          on z (inl y) = absurd (k.unread y)
          on z (inr (inl y)) = let u = from (old d y) in (fewer u.0, u.1)
          on z (inr (inr y)) = absurd y

  -- the counts of code that is copied: an instruction before its end writes d, or reads it, or neither
  small_count : (c : List Code) (d : ℕ) → Small E c → writes_in (front c) d + readers_in ops d (front c) + 1 ≤ length c
  unfolding front writes_in readers_in
  small_count [] d k = absurd k
  small_count (x ∷ []) d k = omega arith
  small_count (x ∷ y ∷ c) d k = by (reader_of ops d x) (small_count (y ∷ c) d k.1)
    where
      by : (reader ops d x ≡ 0) ⊎ ((reader ops d x ≡ 1) × In d (reads_at ops x) × (¬ (In d (defs_at x))))
          → writes_in (front (y ∷ c)) d + readers_in ops d (front (y ∷ c)) + 1 ≤ length (y ∷ c)
          → times d (defs_at x) + writes_in (front (y ∷ c)) d + (reader ops d x + readers_in ops d (front (y ∷ c))) + 1 ≤ length (x ∷ y ∷ c)
      by (inl q) ih = omega (arith, times-one d k.0.d (defs_at x) k.0.one)
      by (inr q) ih = omega (arith, times_none d (defs_at x) q.2)

  small-writes : (c : List Code) (d : ℕ) → Small E c → writes_in c d ≡ writes_in (front c) d
  unfolding front writes_in times
  small-writes [] d k = absurd k
  small-writes (x ∷ []) d k = rw k.none
  small-writes (x ∷ y ∷ c) d k = omega (arith, small-writes (y ∷ c) d k.1)

  -- in a small block d is written once, or isn't read
  pub once_small : (P : List (List Code)) (d l : ℕ) → Sparse P d → Small E (get_or P l []) → length (get_or P l []) ≤ 4
      → (writes_in (get_or P l []) d ≤ 1) ⊎ (¬ (Read ops (get_or P l []) d))
  once_small P d l (busy k) s n = inl (let w = k l in omega (arith, small_count (get_or P l []) d s, small-writes (get_or P l []) d s))
  once_small P d l (quiet k) s n = by (dec_read ops (get_or P l []) d)
    where
      by : Dec (Read ops (get_or P l []) d) → (writes_in (get_or P l []) d ≤ 1) ⊎ (¬ (Read ops (get_or P l []) d))
      by (yes z) = inl ((k l).ends z).0
      by (no z) = inr z
