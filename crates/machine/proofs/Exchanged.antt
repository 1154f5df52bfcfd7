-- An instruction whose registers are exchanged does the same with the values that it reads.
use Prim.Native.Nat.{ℕ}
use mathlib.Core.Path.{◌≡◌, refl}
use mathlib.Core.List.{List}
use Rattle.std.specs.Prelude.{Some, None}
use Rattle.inst.specs.declared.Inst.{Inst}
use Rattle.inst.specs.declared.Inst.TheVariants as i
use Rattle.procedure.specs.Procedure.{Table}
use Rattle.roles.specs.Exchange.{exchanged}
use Rattle.machine.specs.Act.{op_of}
use Rattle.machine.specs.Machine.{Address, effect}

module _ (σ τ : ℕ → ℕ) where
  module _ (address : Address) (tables : List Table) (s : ℕ) (kinds values : List ℕ) where
    pub effect-exchanged : (x : Inst) → effect address tables s kinds values (exchanged σ τ x) ≡ effect address tables s kinds values x
    unfolding exchanged effect op_of
    effect-exchanged (i.Const d v) = refl
    effect-exchanged (i.ConstF d v) = refl
    effect-exchanged (i.Move d s) = refl
    effect-exchanged (i.AddrOf d s f) = refl
    effect-exchanged (i.Select d c x y) = refl
    effect-exchanged (i.Cmp op d x y) = refl
    effect-exchanged (i.Bool op d x y) = refl
    effect-exchanged (i.Bin op d x y) = refl
    effect-exchanged (i.BinRange op d x y l h w) = refl
    effect-exchanged (i.Load d a w) = refl
    effect-exchanged (i.Store a s w) = refl
    effect-exchanged (i.Check c v l h w) = refl
    effect-exchanged (i.MakeDope a p) = refl
    effect-exchanged (i.DopeLen d p n) = refl
    effect-exchanged (i.BoundsLen d l r e) = refl
    effect-exchanged (i.Alloc d s) = refl
    effect-exchanged (i.TakeBounds l r e) = refl
    effect-exchanged (i.CallNative n a (Some r)) = refl
    effect-exchanged (i.CallNative n a None) = refl
    effect-exchanged (i.Br t) = refl
    effect-exchanged (i.CondBr c t f) = refl
    effect-exchanged (i.Case v t) = refl
    effect-exchanged (i.Ret v) = refl
    effect-exchanged (i.Unreachable w) = refl
    effect-exchanged i.Stmt = refl
