-- An instruction whose registers are exchanged writes and reads the exchanged registers; exchanges one after another.
use Prim.Native.Nat.{ℕ}
use mathlib.Core.Path.{◌≡◌, refl, ap}
use mathlib.Core.List.{List, map}
use Rattle.inst.specs.declared.Regs.{Regs}
use Rattle.std.specs.Prelude.{Some, None}
use Rattle.inst.specs.declared.BoolOp.TheVariants as b
use Rattle.inst.specs.declared.CheckKind.TheVariants as k
use Rattle.inst.specs.declared.Inst.{Inst}
use Rattle.inst.specs.declared.Inst.TheVariants as i
use Rattle.roles.specs.Roles.{defs_of, uses_of, list_of}
use Rattle.roles.specs.Exchange.{exchanged}

-- an instruction's roles, and the instruction that a second exchange makes of it
abbrev Fields : Type 0
Fields = List ℕ × List ℕ × Regs × Inst

module _ (σ τ σ' τ' : ℕ → ℕ) where
  abbrev after : Inst → Fields
  after x = let y = exchanged σ τ x in (defs_of y, uses_of y, list_of y, exchanged σ' τ' y)

  abbrev before : Inst → Fields
  before x = (map τ (defs_of x), map σ (uses_of x), list_of x, exchanged (λ r. σ' (σ r)) (λ r. τ' (τ r)) x)

  both : (x : Inst) → after x ≡ before x
  unfolding exchanged
  both (i.Const d v) = refl
  both (i.ConstF d v) = refl
  both (i.Move d s) = refl
  both (i.AddrOf d s f) = refl
  both (i.Select d c x y) = refl
  both (i.Cmp op d x y) = refl
  both (i.Bool b.And d x y) = refl
  both (i.Bool b.Or d x y) = refl
  both (i.Bool b.Xor d x y) = refl
  both (i.Bool b.Not d x y) = refl
  both (i.Bin op d x y) = refl
  both (i.BinRange op d x y l h w) = refl
  both (i.Load d a w) = refl
  both (i.Store a s w) = refl
  both (i.Check k.Range v l h w) = refl
  both (i.Check k.Index v l h w) = refl
  both (i.Check k.IndexDown v l h w) = refl
  both (i.Check k.Length v l h w) = refl
  both (i.Check k.Null v l h w) = refl
  both (i.MakeDope a p) = refl
  both (i.DopeLen d p n) = refl
  both (i.BoundsLen d l r e) = refl
  both (i.Alloc d s) = refl
  both (i.TakeBounds l r e) = refl
  both (i.CallNative n a (Some d)) = refl
  both (i.CallNative n a None) = refl
  both (i.Br t) = refl
  both (i.CondBr c t f) = refl
  both (i.Case v t) = refl
  both (i.Ret (Some v)) = refl
  both (i.Ret None) = refl
  both (i.Unreachable w) = refl
  both i.Stmt = refl

  pub exchanged_twice : (x : Inst) → exchanged σ' τ' (exchanged σ τ x) ≡ exchanged (λ r. σ' (σ r)) (λ r. τ' (τ r)) x
  exchanged_twice x = ap (λ (f : Fields). f.3) (both x)

module _ (σ τ : ℕ → ℕ) (x : Inst) where
  same : after σ τ (λ r. r) (λ r. r) x ≡ before σ τ (λ r. r) (λ r. r) x
  same = both σ τ (λ r. r) (λ r. r) x

  pub defs-exchanged : defs_of (exchanged σ τ x) ≡ map τ (defs_of x)
  defs-exchanged = ap (λ (f : Fields). f.0) same

  pub uses-exchanged : uses_of (exchanged σ τ x) ≡ map σ (uses_of x)
  uses-exchanged = ap (λ (f : Fields). f.1) same

  pub list-exchanged : list_of (exchanged σ τ x) ≡ list_of x
  list-exchanged = ap (λ (f : Fields). f.2) same
