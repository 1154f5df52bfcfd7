-- How a sound block ends, and what it is with another end or with other code after its front.
use Prim.Native.Nat.{ℕ, zero, suc, ◌+◌, ◌≤◌, ◌<◌, ◌^◌}
use native.Mathlib.Omega.{arith}
use mathlib.Core.Path.{◌≡◌, refl, ap}
use mathlib.Core.Bool.{true, false, false≢true}
use mathlib.Core.List.{List, [], ◌∷◌, ◌++◌}
use mathlib.Core.Logic.{◌⊎◌, inl, inr}
use borrow.Author.Tests.{lt-ltb}
use lib.ListN.{length, get_or, set, length-append, get_or-eq_default}
use Rattle.general.proofs.Numbers.{order}
use Rattle.record_rules.specs.declared.exist.Counts.{Counts}
use Rattle.inst.specs.declared.Code.{Code}
use Rattle.inst.specs.declared.Inst.{Inst}
use Rattle.inst.specs.declared.Inst.TheVariants as i
use Rattle.roles.specs.Roles.{defs_of}
use Rattle.codec.specs.Codec.{inst_record, in_range, reg_of, block_of, with_inst}
use Rattle.procedure.specs.Lists.{joined}
use Rattle.ends.specs.declared.End.{End}
use Rattle.ends.specs.declared.End.TheVariants as e
use Rattle.ends.specs.Forms.{form_of, fixed_of, is_fixed}
use Rattle.ends.specs.Ends.{terminator_of, view_of, end_of, lone_of, front, with_end}
use Rattle.round_trips.specs.WellFormed.{All, Ends, Sound, BlockIn}
use Rattle.round_trips.proofs.Lists.{all_append}
use Rattle.step_laws.proofs.Names.{Named, named, names}

-- the places of a list, with what stands past its end, and one of them set
pub all_or : {A : Type 0} (P : A → Type 0) (xs : List A) (d : A) → P d → All P xs → (k : ℕ) → P (get_or xs k d)
all_or P [] d i h k = i
all_or P (x ∷ xs) d i h zero = h.0
all_or P (x ∷ xs) d i h (suc k) = all_or P xs d i h.1 k

pub all_set : {A : Type 0} (P : A → Type 0) (xs : List A) (k : ℕ) (y : A) → All P xs → (k < length xs → P y) → All P (set xs k y)
all_set P [] k y h i = tt
all_set P (x ∷ xs) zero y h i = (i (omega arith), h.1)
all_set P (x ∷ xs) (suc k) y h i = (h.0, all_set P xs k y h.1 (λ j. i (omega arith)))

pub joined-set : {A : Type 0} (xs : List (List A)) (k : ℕ) (y : List A) → k < length xs →
    length (joined (set xs k y)) + length (get_or xs k []) ≡ length (joined xs) + length y
joined-set [] k y h = absurd (omega arith)
joined-set (x ∷ xs) zero y h = let a = length-append y (joined xs) in let b = length-append x (joined xs) in omega arith
joined-set (x ∷ xs) (suc k) y h =
    let a = length-append x (joined (set xs k y)) in
    let b = length-append x (joined xs) in
    let c = joined-set xs k y (omega arith) in
    omega arith

-- what an end names exists
abbrev pub EndIn : Counts → End → Type 0
EndIn n (e.Br l) = l.0 < n.blocks
EndIn n (e.CondBr c t f) = (c.0 < n.registers) × (t.0 < n.blocks) × (f.0 < n.blocks)
EndIn n (e.Case t) = t < n.tables
EndIn n e.Other = Unit {0}

view_named : (n : Counts) (x : Inst) → Named n x → EndIn n (view_of x)
unfolding inst_record view_of form_of
view_named n (i.Const d v) h = tt
view_named n (i.ConstF d v) h = tt
view_named n (i.Move d a) h = tt
view_named n (i.AddrOf d p f) h = tt
view_named n (i.Select d c a b) h = tt
view_named n (i.Cmp o d a b) h = tt
view_named n (i.Bool o d a b) h = tt
view_named n (i.Bin o d a b) h = tt
view_named n (i.BinRange o d a b l u w) h = tt
view_named n (i.Load d a w) h = tt
view_named n (i.Store a v w) h = tt
view_named n (i.Check k v l u w) h = tt
view_named n (i.MakeDope a p) h = tt
view_named n (i.DopeLen d p s) h = tt
view_named n (i.BoundsLen d l r k) h = tt
view_named n (i.Alloc d s) h = tt
view_named n (i.TakeBounds l r k) h = tt
view_named n (i.CallNative x a d) h = tt
view_named n (i.Br t) h = h.0
view_named n (i.CondBr c t f) h = (h.0, h.1.0, h.1.1.0)
view_named n (i.Case v t) h = h.1.0
view_named n (i.Ret v) h = tt
view_named n (i.Unreachable w) h = tt
view_named n i.Stmt h = tt

pub view_in : (n : Counts) (x : Code) → Sound n x → EndIn n (view_of x.inst)
view_in n x s = view_named n x.inst (named n x s.names)

pub end-in : (n : Counts) (c : List Code) → All (Sound n) c → EndIn n (end_of c)
unfolding end_of
end-in n [] h = tt
end-in n (x ∷ []) h = view_in n x h.0
end-in n (x ∷ y ∷ c) h = end-in n (y ∷ c) h.1

pub lone_in : (n : Counts) (c : List Code) → All (Sound n) c → EndIn n (lone_of c)
lone_in n [] h = tt
lone_in n (x ∷ []) h = view_in n x h.0
lone_in n (x ∷ y ∷ c) h = tt

-- a block that ends in a jump is there
pub inside : (P : List (List Code)) (k : ℕ) → (end_of (get_or P k []) ≡ e.Other → ⊥) → k < length P
unfolding end_of
inside P k h = by (order k (length P))
  where
    by : (k < length P) ⊎ (length P ≤ k) → k < length P
    by (inl i) = i
    by (inr i) = absurd (h (ap end_of (get_or-eq_default P [] i)))

-- the end is a terminator, and writes nothing
pub ends_write_none : (x : Inst) → terminator_of x ≡ true → defs_of x ≡ []
ends_write_none (i.Const d v) h = absurd (false≢true h)
ends_write_none (i.ConstF d v) h = absurd (false≢true h)
ends_write_none (i.Move d a) h = absurd (false≢true h)
ends_write_none (i.AddrOf d p f) h = absurd (false≢true h)
ends_write_none (i.Select d c a b) h = absurd (false≢true h)
ends_write_none (i.Cmp o d a b) h = absurd (false≢true h)
ends_write_none (i.Bool o d a b) h = absurd (false≢true h)
ends_write_none (i.Bin o d a b) h = absurd (false≢true h)
ends_write_none (i.BinRange o d a b l u w) h = absurd (false≢true h)
ends_write_none (i.Load d a w) h = absurd (false≢true h)
ends_write_none (i.Store a v w) h = absurd (false≢true h)
ends_write_none (i.Check k v l u w) h = absurd (false≢true h)
ends_write_none (i.MakeDope a p) h = absurd (false≢true h)
ends_write_none (i.DopeLen d p s) h = absurd (false≢true h)
ends_write_none (i.BoundsLen d l r k) h = absurd (false≢true h)
ends_write_none (i.Alloc d s) h = absurd (false≢true h)
ends_write_none (i.TakeBounds l r k) h = absurd (false≢true h)
ends_write_none (i.CallNative x a d) h = absurd (false≢true h)
ends_write_none (i.Br t) h = refl
ends_write_none (i.CondBr c t f) h = refl
ends_write_none (i.Case v t) h = refl
ends_write_none (i.Ret v) h = refl
ends_write_none (i.Unreachable w) h = refl
ends_write_none i.Stmt h = absurd (false≢true h)

pub fixed_goes_on : (x : Inst) → is_fixed (fixed_of x) ≡ true → terminator_of x ≡ false
unfolding fixed_of form_of
fixed_goes_on (i.Const d v) h = refl
fixed_goes_on (i.ConstF d v) h = refl
fixed_goes_on (i.Move d a) h = refl
fixed_goes_on (i.AddrOf d p f) h = refl
fixed_goes_on (i.Select d c a b) h = refl
fixed_goes_on (i.Cmp o d a b) h = refl
fixed_goes_on (i.Bool o d a b) h = refl
fixed_goes_on (i.Bin o d a b) h = refl
fixed_goes_on (i.BinRange o d a b l u w) h = refl
fixed_goes_on (i.Load d a w) h = refl
fixed_goes_on (i.Store a v w) h = refl
fixed_goes_on (i.Check k v l u w) h = refl
fixed_goes_on (i.MakeDope a p) h = refl
fixed_goes_on (i.DopeLen d p s) h = refl
fixed_goes_on (i.BoundsLen d l r k) h = refl
fixed_goes_on (i.Alloc d s) h = refl
fixed_goes_on (i.TakeBounds l r k) h = refl
fixed_goes_on (i.CallNative x a d) h = refl
fixed_goes_on (i.Br t) h = absurd (false≢true h)
fixed_goes_on (i.CondBr c t f) h = absurd (false≢true h)
fixed_goes_on (i.Case v t) h = absurd (false≢true h)
fixed_goes_on (i.Ret v) h = absurd (false≢true h)
fixed_goes_on (i.Unreachable w) h = absurd (false≢true h)
fixed_goes_on i.Stmt h = refl

-- more code before a block's
pub ends-cons : (x : Code) (c : List Code) → terminator_of x.inst ≡ false → Ends c → Ends (x ∷ c)
ends-cons x [] t h = absurd h
ends-cons x (y ∷ c) t h = (t, h)

pub ends-append : (c d : List Code) → All (λ x. terminator_of x.inst ≡ false) c → Ends d → Ends (c ++ d)
ends-append [] d h i = i
ends-append (x ∷ c) d h i = ends-cons x (c ++ d) h.0 (ends-append c d h.1 i)

-- a block without its end
pub front_goes_on : (c : List Code) → Ends c → All (λ x. terminator_of x.inst ≡ false) (front c)
unfolding front
front_goes_on [] h = tt
front_goes_on (x ∷ []) h = tt
front_goes_on (x ∷ y ∷ c) h = (h.0, front_goes_on (y ∷ c) h.1)

pub all-front : (P : Code → Type 0) (c : List Code) → All P c → All P (front c)
unfolding front
all-front P [] h = tt
all-front P (x ∷ []) h = tt
all-front P (x ∷ y ∷ c) h = (h.0, all-front P (y ∷ c) h.1)

pub front_length : (c : List Code) → Ends c → length (front c) + 1 ≡ length c
unfolding front
front_length [] h = absurd h
front_length (x ∷ []) h = omega arith
front_length (x ∷ y ∷ c) h = let i = front_length (y ∷ c) h.1 in omega arith

pub joined_in : (n : Counts) (c d : List Code) → BlockIn n c → BlockIn n d → BlockIn n (front c ++ d)
joined_in n c d b a = record {
  ends = ends-append (front c) d (front_goes_on c b.ends) a.ends;
  each = all_append (Sound n) (front c) d (all-front (Sound n) c b.each) a.each;
}

-- a block with another end
pub end-length : (x : Inst) (c : List Code) → length (with_end x c) ≡ length c
unfolding with_end
end-length x [] = refl
end-length x (y ∷ []) = refl
end-length x (y ∷ z ∷ c) = ap suc (end-length x (z ∷ c))

-- an end that any statement may have
pub record Final (n : Counts) (x : Inst) : Type 0 where
  pub ends : terminator_of x ≡ true
  pub range : in_range x ≡ true
  pub names : Named n x

pub final_sound : (n : Counts) (x : Inst) (y : Code) → Final n x → Sound n y → Sound n (with_inst x y)
final_sound n x y f s = record { range = record { inst = f.range; stmt = s.range.stmt }; names = names n (with_inst x y) f.names }

end-each : (n : Counts) (x : Inst) (c : List Code) → Final n x → All (Sound n) c → All (Sound n) (with_end x c)
unfolding with_end
end-each n x [] f h = tt
end-each n x (y ∷ []) f h = (final_sound n x y f h.0, tt)
end-each n x (y ∷ z ∷ c) f h = (h.0, end-each n x (z ∷ c) f h.1)

end-ends : (x : Inst) (c : List Code) → terminator_of x ≡ true → Ends c → Ends (with_end x c)
unfolding with_end
end-ends x [] t h = absurd h
end-ends x (y ∷ []) t h = t
end-ends x (y ∷ z ∷ c) t h = ends-cons y (with_end x (z ∷ c)) h.0 (end-ends x (z ∷ c) t h.1)

pub end_with : (n : Counts) (x : Inst) (c : List Code) → Final n x → BlockIn n c → BlockIn n (with_end x c)
end_with n x c f b = record { ends = end-ends x c f.ends b.ends; each = end-each n x c f b.each }

-- a Br and a CondBr to what exists
module _ (n : Counts) (few : n.blocks ≤ 2 ^ 32) where
  pub br_final : (l : ℕ) → l < n.blocks → Final n (i.Br (block_of l))
  unfolding in_range inst_record
  br_final l h = record { ends = refl; range = rw (lt-ltb l (2 ^ 32) (omega arith)); names = (h, tt) }

  pub condbr_final : n.registers ≤ 2 ^ 32 → (c t f : ℕ) → c < n.registers → t < n.blocks → f < n.blocks →
      Final n (i.CondBr (reg_of c) (block_of t) (block_of f))
  unfolding in_range inst_record
  condbr_final k c t f hc ht hf = record {
    ends = refl;
    range = rw (lt-ltb c (2 ^ 32) (omega arith), lt-ltb t (2 ^ 32) (omega arith), lt-ltb f (2 ^ 32) (omega arith));
    names = (hc, (ht, (hf, tt)));
  }
