-- Laws of the joined arms.
use Prim.Native.Nat.{ℕ, zero, suc, ◌+◌, ◌<◌}
use native.Mathlib.Omega.{arith}
use native.Mathlib.Numerals.{add-one}
use mathlib.Core.Path.{◌≡◌, refl, sym, ap, ◌∙◌}
use mathlib.Core.Bool.{Bool, true, false, true≢false}
use mathlib.Core.List.{List, []}
use lib.Dec.{eqb}
use lib.ListN.{length, get_or}
use Rattle.inst.specs.declared.BlockId.{BlockId}
use Rattle.inst.specs.declared.Code.{Code}
use Rattle.codec.specs.Codec.{block_of}
use Rattle.ends.specs.declared.End.{End}
use Rattle.ends.specs.declared.End.TheVariants as e
use Rattle.ends.specs.Ends.{end_of, lone_of}
use Rattle.blocks.specs.Blocks.{blocks_of}
use Rattle.blocks.proofs.Ends.{not_lone}
use Rattle.steps.specs.EqualArms as g
use Rattle.equal_arms.specs.Joined.{Joined, join_if, join_end, join_arms, join_from}

pub follow_step : (P : List (List Code)) (n b : ℕ) → g.follow (suc n) P b ≡ g.follow n P (g.past b (lone_of (get_or P b [])))
unfolding g.follow
follow_step P n b = refl

-- the block past block b, told by the end of its bytes
pub past_is : (P : List (List Code)) (b : ℕ) {c : List Code} {x : End} {to : BlockId} → c ≡ get_or P b [] → x ≡ lone_of c
    → to ≡ block_of (g.past b x) → to ≡ block_of (g.past b (lone_of (get_or P b [])))
past_is P b i e t = t ∙ ap (λ (x : End). block_of (g.past b x)) (e ∙ ap lone_of i)

-- a block that isn't left stays the one that is reached
pub follow_fixed : (P : List (List Code)) (n b : ℕ) → g.past b (lone_of (get_or P b [])) ≡ b → g.follow n P b ≡ b
unfolding g.follow
follow_fixed P zero b e = refl
follow_fixed P (suc n) b e = ap (g.follow n P) e ∙ follow_fixed P n b e

-- a block that holds more than one instruction, or none, is reached itself
pub reached_itself : (P : List (List Code)) (b : ℕ) → eqb (length (get_or P b [])) 1 ≡ false → g.reached_from P b ≡ b
reached_itself P b h = follow_fixed P 4 b (ap (g.past b) (not_lone (get_or P b []) h))

pub from_step : (table : List ℕ) (n k : ℕ) (s : Joined) → join_from table (suc n) k s ≡ join_from table n (k + 1) (join_arms table k s)
unfolding join_from
from_step table n k s = ap (λ (m : ℕ). join_from table n m (join_arms table k s)) (sym (add-one k))

-- one block of those that are left
pub from_one : (table : List ℕ) (k : ℕ) (s : Joined) {m n : ℕ} → m ≡ suc n → join_from table m k s ≡ join_from table n (k + 1) (join_arms table k s)
from_one table k s {m} {n} e = ap (λ (x : ℕ). join_from table x k s) e ∙ from_step table n k s

-- a block that is left as it is
pub from_pass : (table : List ℕ) (k : ℕ) (s : Joined) {m n : ℕ} → m ≡ suc n → join_arms table k s ≡ s → join_from table m k s ≡ join_from table n (k + 1) s
from_pass table k s {m} {n} e f = from_one table k s e ∙ ap (join_from table n (k + 1)) f

-- blocks that are all left as they are
pub from_all : (table : List ℕ) (s : Joined) (n : ℕ) → ((k : ℕ) → k < n → join_arms table k s ≡ s) → (m k : ℕ) → k + m ≡ n → join_from table m k s ≡ s
unfolding join_from
from_all table s n h zero k e = refl
from_all table s n h (suc m) k e = from_pass table k s {n = m} refl (h k (omega arith)) ∙ from_all table s n h m (k + 1) (omega arith)

-- where nothing was joined, all is as it was
module _ (table : List ℕ) where
  joined-if : (b : Bool) (k to : ℕ) (s : Joined) → (join_if table b k to s).edited ≡ false → join_if table b k to s ≡ s
  joined-if true k to s h = absurd (true≢false h)
  joined-if false k to s h = refl

  joined-end : (x : End) (k : ℕ) (s : Joined) → (join_end table x k s).edited ≡ false → join_end table x k s ≡ s
  joined-end (e.Br to) k s h = refl
  joined-end (e.CondBr c t f) k s h = joined-if _ k _ s h
  joined-end (e.Case n) k s h = refl
  joined-end e.Other k s h = refl

  joined-arms : (k : ℕ) (s : Joined) → (join_arms table k s).edited ≡ false → join_arms table k s ≡ s
  unfolding join_arms
  joined-arms k s h = joined-end (end_of (get_or (blocks_of s.code table) k [])) k s h

  pub none-joined : (n k : ℕ) (s : Joined) → (join_from table n k s).edited ≡ false → join_from table n k s ≡ s
  unfolding join_from
  none-joined zero k s h = refl
  none-joined (suc n) k s h =
      let rest = none-joined n (suc k) (join_arms table k s) h in
      rest ∙ joined-arms k s (ap (λ (z : Joined). z.edited) (sym rest) ∙ h)
