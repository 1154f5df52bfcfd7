-- An instruction's kind comes back from its number.
use Prim.Native.Nat.{ℕ}
use mathlib.Core.Path.{◌≡◌, refl, sym, ap, ◌∙◌}
use Rattle.inst.specs.Inst.{kind_of}
use Rattle.inst.specs.Kinds.{number_of, kind_at}
use Rattle.inst.specs.declared.Kind.{Kind}
use Rattle.inst.specs.declared.Inst.{Inst}
use Rattle.inst.specs.declared.Inst.TheVariants as i
use Rattle.inst.proofs.Numbers.{kind-number}

pub kind-again : (x : Inst) → number_of (kind_at (kind_of x)) ≡ kind_of x
kind-again (i.Const d v) = refl
kind-again (i.ConstF d v) = refl
kind-again (i.Move d s) = refl
kind-again (i.AddrOf d s f) = refl
kind-again (i.Select d c x y) = refl
kind-again (i.Cmp op d x y) = refl
kind-again (i.Bool op d x y) = refl
kind-again (i.Bin op d x y) = refl
kind-again (i.BinRange op d x y l h w) = refl
kind-again (i.Load d a w) = refl
kind-again (i.Store a s w) = refl
kind-again (i.Check c v l h w) = refl
kind-again (i.MakeDope a p) = refl
kind-again (i.DopeLen d p n) = refl
kind-again (i.BoundsLen d l r e) = refl
kind-again (i.Alloc d s) = refl
kind-again (i.TakeBounds l r e) = refl
kind-again (i.CallNative n a d) = refl
kind-again (i.Br t) = refl
kind-again (i.CondBr c t f) = refl
kind-again (i.Case v t) = refl
kind-again (i.Ret v) = refl
kind-again (i.Unreachable w) = refl
kind-again i.Stmt = refl

pub kind_is : {c : Kind} {n : ℕ} → number_of c ≡ n → c ≡ kind_at n
kind_is {c} e = sym (kind-number c) ∙ ap kind_at e
