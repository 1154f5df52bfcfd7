-- A kind and its number, for code that asks for the kind of a record.
use Prim.Native.Nat.{ℕ, ◌≤◌, ◌<◌}
use native.Mathlib.Omega.{arith}
use mathlib.Core.Path.{◌≡◌, refl, sym, ap, ◌∙◌}
use mathlib.Core.Logic.{inl, inr, ◌⊎◌}
use lib.Dec.{T, ltb, ltb→lt}
use lib.ListN.{get_or-eq_default}
use Rattle.general.proofs.Numbers.{below, order}
use Rattle.inst.specs.declared.Kind.{Kind}
use Rattle.inst.specs.declared.Kind.TheVariants as k
use Rattle.inst.specs.Kinds.{number_of, kind_at}

pub kind-number : (x : Kind) → kind_at (number_of x) ≡ x
kind-number k.Const = refl
kind-number k.ConstF = refl
kind-number k.Move = refl
kind-number k.AddrOf = refl
kind-number k.Select = refl
kind-number k.Cmp = refl
kind-number k.Bool = refl
kind-number k.Bin = refl
kind-number k.BinRange = refl
kind-number k.Load = refl
kind-number k.Store = refl
kind-number k.Check = refl
kind-number k.MakeDope = refl
kind-number k.DopeLen = refl
kind-number k.BoundsLen = refl
kind-number k.Alloc = refl
kind-number k.TakeBounds = refl
kind-number k.CallNative = refl
kind-number k.Br = refl
kind-number k.CondBr = refl
kind-number k.Case = refl
kind-number k.Ret = refl
kind-number k.Unreachable = refl
kind-number k.Stmt = refl

pub number-low : (n : ℕ) → n < 23 → number_of (kind_at n) ≡ n
number-low = below (λ (n : ℕ). number_of (kind_at n) ≡ n) 23 (((((((((((((((((((((((tt, refl), refl), refl), refl), refl), refl), refl), refl), refl), refl), refl), refl), refl), refl), refl), refl), refl), refl), refl), refl), refl), refl), refl)

pub kind-past : (n : ℕ) → 23 ≤ n → kind_at n ≡ k.Stmt
kind-past n h = rw get_or-eq_default

-- in an arm of a match of the kind of n: what n is
pub numbered : (k : Kind) {n : ℕ} {x : Kind} → x ≡ kind_at n → x ≡ k → T (ltb (number_of k) 23) → n ≡ number_of k
numbered k {n} e i t = go (order n 23)
  where
    is : number_of (kind_at n) ≡ number_of k
    is = ap number_of (sym e ∙ i)

    go : (n < 23) ⊎ (23 ≤ n) → n ≡ number_of k
    go (inl h) = sym (number-low n h) ∙ is
    go (inr h) = let p = ap number_of (kind-past n h) in let q = ltb→lt (number_of k) 23 t in absurd (omega (arith, p, is, q))
