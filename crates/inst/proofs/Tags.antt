-- The machine's tag of an instruction is its kind, so the keys of a `match` arm with `|` or `_` are facts of the kind.
use Prim.Native.Nat.{ℕ}
use mathlib.Core.Path.{◌≡◌, refl, sym, ap, ◌∙◌}
use mathlib.Core.Bool.{Bool, true, false, ◌&&◌}
use mathlib.Core.List.{List, [], ◌∷◌}
use mathlib.Core.Logic.{inl, inr}
use lib.Dec.{T}
use types.Run.{OneOf}
use denote.Enum.Declared
use Rattle.inst.specs.contracts.Inst as the_inst
use Rattle.inst.specs.declared.Inst.{Inst}
use Rattle.inst.specs.declared.Inst.TheVariants as i
use Rattle.inst.specs.Inst.{kind_of}

abbrev same : Bool → Bool → Bool
same true true = true
same true false = false
same false true = false
same false false = true

equal : (a b : Bool) → T (same a b) → a ≡ b
equal true true t = refl
equal true false t = absurd t
equal false true t = absurd t
equal false false t = refl

first : (a b : Bool) → T (a && b) → T a
first true b t = tt
first false b t = t

second : (a b : Bool) → T (a && b) → T b
second true b t = t
second false b t = absurd t

-- p is b at each of some numbers
abbrev pub every : (ℕ → Bool) → Bool → List ℕ → Bool
every p b [] = true
every p b (k ∷ ks) = same b (p k) && every p b ks

pub one_of : (p : ℕ → Bool) (b : Bool) (ks : List ℕ) (x : ℕ) → T (every p b ks) → OneOf ks x → b ≡ p x
one_of p b [] x t h = absurd h
one_of p b (k ∷ []) x t h = equal b (p k) (first (same b (p k)) true t) ∙ sym (ap p h)
one_of p b (k ∷ (l ∷ ks)) x t (inl h) = equal b (p k) (first (same b (p k)) (every p b (l ∷ ks)) t) ∙ sym (ap p h)
one_of p b (k ∷ (l ∷ ks)) x t (inr h) = one_of p b (l ∷ ks) x (second (same b (p k)) (every p b (l ∷ ks)) t) h

pub tag_kind : (x : Inst) → Declared.tag_of the_inst.the_type x ≡ kind_of x
tag_kind (i.Const d v) = refl
tag_kind (i.ConstF d v) = refl
tag_kind (i.Move d s) = refl
tag_kind (i.AddrOf d s o) = refl
tag_kind (i.Select d c a b) = refl
tag_kind (i.Cmp o d a b) = refl
tag_kind (i.Bool o d a b) = refl
tag_kind (i.Bin o d a b) = refl
tag_kind (i.BinRange o d a b l h w) = refl
tag_kind (i.Load d a w) = refl
tag_kind (i.Store a s w) = refl
tag_kind (i.Check k v l h w) = refl
tag_kind (i.MakeDope a p) = refl
tag_kind (i.DopeLen d o n) = refl
tag_kind (i.BoundsLen d l r k) = refl
tag_kind (i.Alloc d s) = refl
tag_kind (i.TakeBounds l r k) = refl
tag_kind (i.CallNative n a d) = refl
tag_kind (i.Br t) = refl
tag_kind (i.CondBr c t f) = refl
tag_kind (i.Case v t) = refl
tag_kind (i.Ret v) = refl
tag_kind (i.Unreachable w) = refl
tag_kind i.Stmt = refl

pub by_kind : (p : ℕ → Bool) (b : Bool) (ks : List ℕ) (x : Inst) → T (every p b ks) → OneOf ks (Declared.tag_of the_inst.the_type x) → b ≡ p (kind_of x)
by_kind p b ks x t h = one_of p b ks (Declared.tag_of the_inst.the_type x) t h ∙ ap p (tag_kind x)
