-- The registers and the blocks that a hop of a CondBr writes are in range where the code is made of bytes.
use Prim.Native.Nat.{ℕ, zero, suc, ◌<◌, ◌^◌}
use mathlib.Core.Path.{◌≡◌}
use mathlib.Core.Bool.{Bool, true, false, cond, ◌||◌}
use mathlib.Core.List.{List, [], ◌∷◌, ◌++◌}
use Rattle.std.proofs.Common.{Option, None, Some}
use borrow.Author.Tests.{ltb-true}
use lib.Dec.{eqb, ltb}
use lib.ListN.{get_or}
use Rattle.general.proofs.Booleans.{and_first, and_second}
use Rattle.put_record.specs.Store.{Bytes}
use Rattle.inst.specs.declared.Code.{Code}
use Rattle.inst.specs.declared.Inst.{Inst}
use Rattle.inst.specs.declared.Inst.TheVariants as i
use Rattle.codec.specs.Codec.{in_range, InRange}
use Rattle.roles.specs.Roles.{defs_of}
use Rattle.procedure.specs.Lists.{found, value_or, holds}
use Rattle.word.specs.Word.{choose}
use Rattle.ends.specs.declared.End.{End}
use Rattle.ends.specs.declared.End.TheVariants as e
use Rattle.ends.specs.Forms.{form_of}
use Rattle.ends.specs.Ends.{code_at, front, lone_of}
use Rattle.blocks.specs.Blocks.{blocks_of}
use Rattle.blocks.proofs.Bytes.{block-range}
use Rattle.equal_arms.proofs.Reach.{Named, lone_named}
use Rattle.steps.specs.Facts.{Facts}
use Rattle.steps.specs.Note.{Known, nothing, copies_without, forget_all, with_copy, with_value_if, source_of, value_of, alike, bool_of, learn, note, notes}
use Rattle.steps.specs.Thread.{matching, arm_of}
use Rattle.hop_cond_br.specs.Storage.{arm_in, before}

-- the sources of some copies are in range
abbrev pub Sources : List (ℕ × ℕ) → Type 0
Sources [] = Unit {0}
Sources (x ∷ l) = (x.1 < 2 ^ 32) × Sources l

kept : (z : Bool) (x : ℕ × ℕ) (l : List (ℕ × ℕ)) → x.1 < 2 ^ 32 → Sources l → Sources (cond z l (x ∷ l))
kept true x l h s = s
kept false x l h s = (h, s)

without : (d : ℕ) (l : List (ℕ × ℕ)) → Sources l → Sources (copies_without d l)
unfolding copies_without
without d [] s = tt
without d (x ∷ l) s = kept (eqb x.0 d || eqb x.1 d) x (copies_without d l) s.0 (without d l s.1)

one_more : (l : List (ℕ × ℕ)) (d s : ℕ) → s < 2 ^ 32 → Sources l → Sources (l ++ ((d, s) ∷ []))
one_more [] d s h w = (h, tt)
one_more (x ∷ l) d s h w = (w.0, one_more l d s h w.1)

first : (r : ℕ) (z : Bool) (y : ℕ) (o : Option ℕ) → y < 2 ^ 32 → value_or r o < 2 ^ 32 → value_or r (cond z (Some y) o) < 2 ^ 32
first r true y o h w = h
first r false y o h w = w

pub source_range : (r : ℕ) (l : List (ℕ × ℕ)) → r < 2 ^ 32 → Sources l → value_or r (found r l) < 2 ^ 32
unfolding found
source_range r [] h s = h
source_range r (x ∷ l) h s = first r (eqb x.0 r) x.1 (found r l) s.0 (source_range r l h s.1)

-- of what is known after some code
forgotten : (ds : List ℕ) (k : Known) → Sources k.copies → Sources (forget_all ds k).copies
unfolding forget_all
forgotten [] k s = s
forgotten (d ∷ []) k s = without d k.copies s
forgotten (d ∷ (e ∷ [])) k s = without e (copies_without d k.copies) (without d k.copies s)
forgotten (d ∷ (e ∷ (g ∷ ds))) k s = tt

with_value_lem : (d : ℕ) (o : Option ℕ) (k : Known) → Sources k.copies → Sources (with_value_if d o k).copies
with_value_lem d None k s = s
with_value_lem d (Some v) k s = s

with_copy_lem : (z : Bool) (d s : ℕ) (k : Known) → s < 2 ^ 32 → Sources k.copies → Sources (cond z (with_copy d s k) k).copies
with_copy_lem true d s k h w = one_more k.copies d s h w
with_copy_lem false d s k h w = w

moved : (z : Bool) (k m : Known) → Sources k.copies → Sources m.copies → Sources (cond z k m).copies
moved true k m s w = s
moved false k m s w = w

module _ (f : Facts) where
  learnt : (k : Known) (x : Inst) → in_range x ≡ true → Sources k.copies → Sources (learn f k x).copies
  unfolding learn form_of in_range
  learnt k (i.Const d v) h w = w
  learnt k (i.ConstF d v) h w = w
  learnt k (i.Move d s) h w =
      let g = and_second (ltb d.0 (2 ^ 32)) _ h in
      let r = source_range s.0 k.copies (ltb-true s.0 (2 ^ 32) (and_first (ltb s.0 (2 ^ 32)) _ g)) w in
      let from = source_of k s.0 in
      let k' = with_value_if d.0 (value_of f k from) k in
      moved (eqb d.0 s.0) k (cond (alike f d.0 from) (with_copy d.0 from k') k') w
      (with_copy_lem (alike f d.0 from) d.0 from k' r (with_value_lem d.0 (value_of f k from) k w))
  learnt k (i.AddrOf d s o) h w = w
  learnt k (i.Select d c x y) h w = w
  learnt k (i.Cmp op d x y) h w = w
  learnt k (i.Bool op d x y) h w = with_value_lem d.0 (bool_of op (value_of f k x.0) (value_of f k y.0)) k w
  learnt k (i.Bin op d x y) h w = w
  learnt k (i.BinRange op d x y l u c) h w = w
  learnt k (i.Load d a c) h w = w
  learnt k (i.Store a s c) h w = w
  learnt k (i.Check c v l u m) h w = w
  learnt k (i.MakeDope a p) h w = w
  learnt k (i.DopeLen d p n) h w = w
  learnt k (i.BoundsLen d l r m) h w = w
  learnt k (i.Alloc d s) h w = w
  learnt k (i.TakeBounds l r m) h w = w
  learnt k (i.CallNative n a d) h w = w
  learnt k (i.Br t) h w = w
  learnt k (i.CondBr c t m) h w = w
  learnt k (i.Case v t) h w = w
  learnt k (i.Ret v) h w = w
  learnt k (i.Unreachable m) h w = w
  learnt k i.Stmt h w = w

  gathered : (c : List Code) → ((j : ℕ) → InRange (code_at c j)) → (k : Known) → Sources k.copies → Sources (notes f k (front c)).copies
  unfolding notes front
  gathered [] h k s = s
  gathered (x ∷ []) h k s = s
  gathered (x ∷ (y ∷ c)) h k s =
      gathered (y ∷ c) (λ j. h (suc j)) (note f k x.inst) (learnt (forget_all (defs_of x.inst) k) x.inst (h 0).inst (forgotten (defs_of x.inst) k s))

-- the arm that a known value takes
pub choose-range : (v t e : ℕ) → t < 2 ^ 32 → e < 2 ^ 32 → choose v t e < 2 ^ 32
choose-range zero t e h g = g
choose-range (suc v) t e h g = h

if_range : (z : Bool) (x y : ℕ) → x < 2 ^ 32 → y < 2 ^ 32 → cond z x y < 2 ^ 32
if_range true x y h g = h
if_range false x y h g = g

match_range : (truth : Bool) (c l : ℕ) (x : End) → l < 2 ^ 32 → Named x → matching truth c l x < 2 ^ 32
match_range truth c l (e.Br t) h n = h
match_range truth c l (e.CondBr d t f) h n =
    if_range (eqb d.0 c) (cond truth t.0 f.0) l (if_range truth t.0 f.0 n.0 n.1) h
match_range truth c l (e.Case m) h n = h
match_range truth c l e.Other h n = h

module _ (table : List ℕ) (a : ℕ) (code : List ℕ) (bytes : Bytes code) where
  pub arm-range : (body : Option ℕ) (c : ℕ) (truth : Bool) (l : ℕ) → l < 2 ^ 32 → arm_in table a code body c truth l < 2 ^ 32
  unfolding arm_of
  arm-range body c truth l h =
      let b = get_or (blocks_of code table) l [] in
      if_range (eqb l a || holds body l) l (matching truth c l (lone_of b)) h
      (match_range truth c l (lone_of b) h (lone_named b (λ j. block-range code table l j bytes)))

  -- the source of a register before the CondBr
  pub tested_range : (f : Facts) (c : ℕ) → c < 2 ^ 32 → source_of (notes f nothing (before table a code)) c < 2 ^ 32
  tested_range f c h =
      let b = get_or (blocks_of code table) a [] in
      source_range c (notes f nothing (front b)).copies h (gathered f b (λ j. block-range code table a j bytes) nothing tt)
