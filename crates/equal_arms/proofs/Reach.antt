-- The blocks that arms reach are in range where the code is made of bytes.
use Prim.Native.Nat.{ℕ, zero, suc, ◌<◌, ◌^◌}
use mathlib.Core.Path.{◌≡◌}
use mathlib.Core.Bool.{Bool, true, false, cond}
use mathlib.Core.List.{List, [], ◌∷◌}
use lib.Dec.{eqb, ltb}
use lib.ListN.{get_or}
use Rattle.inst.specs.declared.Code.{Code}
use Rattle.inst.specs.declared.Inst.{Inst}
use Rattle.inst.specs.declared.Inst.TheVariants as i
use Rattle.codec.specs.Codec.{in_range, InRange}
use Rattle.codec.proofs.Laws.{word}
use Rattle.general.proofs.Booleans.{and_second}
use Rattle.ends.specs.declared.End.{End}
use Rattle.ends.specs.declared.End.TheVariants as e
use Rattle.ends.specs.Forms.{form_of}
use Rattle.ends.specs.Ends.{code_at, view_of, end_of, lone_of}
use Rattle.steps.specs.EqualArms.{past, follow, reached_from}

-- the blocks that an end names are in range
abbrev pub Named : End → Type 0
Named (e.Br t) = t.0 < 2 ^ 32
Named (e.CondBr c t f) = (t.0 < 2 ^ 32) × (f.0 < 2 ^ 32)
Named (e.Case n) = Unit {0}
Named e.Other = Unit {0}

view_named : (x : Inst) → in_range x ≡ true → Named (view_of x)
unfolding view_of form_of in_range
view_named (i.Const d v) h = tt
view_named (i.ConstF d v) h = tt
view_named (i.Move d s) h = tt
view_named (i.AddrOf d s f) h = tt
view_named (i.Select d c x y) h = tt
view_named (i.Cmp op d x y) h = tt
view_named (i.Bool op d x y) h = tt
view_named (i.Bin op d x y) h = tt
view_named (i.BinRange op d x y l u w) h = tt
view_named (i.Load d a w) h = tt
view_named (i.Store a s w) h = tt
view_named (i.Check c v l u w) h = tt
view_named (i.MakeDope a p) h = tt
view_named (i.DopeLen d p n) h = tt
view_named (i.BoundsLen d l r k) h = tt
view_named (i.Alloc d s) h = tt
view_named (i.TakeBounds l r k) h = tt
view_named (i.CallNative n a d) h = tt
view_named (i.Br t) h = word t.0 true h
view_named (i.CondBr c t f) h =
    let g = and_second (ltb c.0 (2 ^ 32)) _ h in
    (word t.0 _ g, word f.0 true (and_second (ltb t.0 (2 ^ 32)) _ g))
view_named (i.Case v t) h = tt
view_named (i.Ret v) h = tt
view_named (i.Unreachable w) h = tt
view_named i.Stmt h = tt

pub end-named : (c : List Code) → ((j : ℕ) → InRange (code_at c j)) → Named (end_of c)
unfolding end_of
end-named [] h = tt
end-named (x ∷ []) h = view_named x.inst (h 0).inst
end-named (x ∷ (y ∷ c)) h = end-named (y ∷ c) (λ j. h (suc j))

pub lone_named : (c : List Code) → ((j : ℕ) → InRange (code_at c j)) → Named (lone_of c)
lone_named [] h = tt
lone_named (x ∷ []) h = view_named x.inst (h 0).inst
lone_named (x ∷ (y ∷ c)) h = tt

past-range : (b : ℕ) (x : End) → b < 2 ^ 32 → Named x → past b x < 2 ^ 32
past-range b (e.Br t) h n = go (eqb t.0 b)
  where
    go : (z : Bool) → cond z b t.0 < 2 ^ 32
    go true = h
    go false = n
past-range b (e.CondBr c t f) h n = h
past-range b (e.Case m) h n = h
past-range b e.Other h n = h

module _ (P : List (List Code)) (p : (k j : ℕ) → InRange (code_at (get_or P k []) j)) where
  follow-range : (n b : ℕ) → b < 2 ^ 32 → follow n P b < 2 ^ 32
  unfolding follow
  follow-range zero b h = h
  follow-range (suc n) b h = follow-range n (past b (lone_of (get_or P b []))) (past-range b (lone_of (get_or P b [])) h (lone_named (get_or P b []) (p b)))

  pub reached-range : (b : ℕ) → b < 2 ^ 32 → reached_from P b < 2 ^ 32
  reached-range b h = follow-range 4 b h
