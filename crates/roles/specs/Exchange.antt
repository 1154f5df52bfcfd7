-- `Inst::visit_mut` as `thread` uses it: an instruction's registers exchanged by their role.
use Rattle.std.specs.Prelude.{ℕ, List, [], ◌∷◌, cond, eqb, Option, Some, None}
use Rattle.inst.specs.declared.Reg.{Reg}
use Rattle.inst.specs.declared.BoolOp.{BoolOp}
use Rattle.inst.specs.declared.BoolOp.TheVariants as b
use Rattle.inst.specs.declared.CheckKind.{CheckKind}
use Rattle.inst.specs.declared.CheckKind.TheVariants as k
use Rattle.inst.specs.declared.Inst.{Inst}
use Rattle.inst.specs.declared.Inst.TheVariants as i
use Rattle.roles.specs.Roles.{reg_of}

-- a register with g applied to its number
abbrev pub over : (ℕ → ℕ) → Reg → Reg
over g r = reg_of (g r.0)

-- visit_mut: "if let Some(r)"
abbrev pub over_optional : (ℕ → ℕ) → Option Reg → Option Reg
over_optional g (Some r) = Some (over g r)
over_optional g None = None

-- visit_mut: b is read "if *op != BoolOp::Not"
abbrev pub bool_second : BoolOp → (ℕ → ℕ) → Reg → Reg
bool_second b.And σ y = over σ y
bool_second b.Or σ y = over σ y
bool_second b.Xor σ y = over σ y
bool_second b.Not σ y = y

-- visit_mut: lo is read "if *kind != CheckKind::Null"
abbrev pub check_low : CheckKind → (ℕ → ℕ) → Reg → Reg
check_low k.Range σ y = over σ y
check_low k.Index σ y = over σ y
check_low k.IndexDown σ y = over σ y
check_low k.Length σ y = over σ y
check_low k.Null σ y = y

-- visit_mut: hi is read for "Range | Index | IndexDown"
abbrev pub check_high : CheckKind → (ℕ → ℕ) → Reg → Reg
check_high k.Range σ y = over σ y
check_high k.Index σ y = over σ y
check_high k.IndexDown σ y = over σ y
check_high k.Length σ y = y
check_high k.Null σ y = y

-- `visit_mut`: an instruction with σ applied to the fields that it reads and τ to those that it writes
unfoldable pub exchanged : (ℕ → ℕ) → (ℕ → ℕ) → Inst → Inst
exchanged σ τ (i.Const d v) = i.Const (over τ d) v
exchanged σ τ (i.ConstF d v) = i.ConstF (over τ d) v
exchanged σ τ (i.Move d s) = i.Move (over τ d) (over σ s)
exchanged σ τ (i.AddrOf d s f) = i.AddrOf (over τ d) s f
exchanged σ τ (i.Select d c x y) = i.Select (over τ d) (over σ c) (over σ x) (over σ y)
exchanged σ τ (i.Cmp op d x y) = i.Cmp op (over τ d) (over σ x) (over σ y)
exchanged σ τ (i.Bool op d x y) = i.Bool op (over τ d) (over σ x) (bool_second op σ y)
exchanged σ τ (i.Bin op d x y) = i.Bin op (over τ d) (over σ x) (over σ y)
exchanged σ τ (i.BinRange op d x y l h w) = i.BinRange op (over τ d) (over σ x) (over σ y) (over σ l) (over σ h) w
exchanged σ τ (i.Load d a w) = i.Load (over τ d) (over σ a) w
exchanged σ τ (i.Store a s w) = i.Store (over σ a) (over σ s) w
exchanged σ τ (i.Check c v l h w) = i.Check c (over σ v) (check_low c σ l) (check_high c σ h) w
exchanged σ τ (i.MakeDope a p) = i.MakeDope (over σ a) p
exchanged σ τ (i.DopeLen d p n) = i.DopeLen (over τ d) (over σ p) n
exchanged σ τ (i.BoundsLen d l r e) = i.BoundsLen (over τ d) (over σ l) (over σ r) (over σ e)
exchanged σ τ (i.Alloc d s) = i.Alloc (over τ d) (over σ s)
exchanged σ τ (i.TakeBounds l r e) = i.TakeBounds (over τ l) (over τ r) (over τ e)
exchanged σ τ (i.CallNative n a d) = i.CallNative n a (over_optional τ d)
exchanged σ τ (i.Br t) = i.Br t
exchanged σ τ (i.CondBr c t f) = i.CondBr (over σ c) t f
exchanged σ τ (i.Case v t) = i.Case (over σ v) t
exchanged σ τ (i.Ret v) = i.Ret (over_optional σ v)
exchanged σ τ (i.Unreachable w) = i.Unreachable w
exchanged σ τ i.Stmt = i.Stmt

-- `local.iter().find(|x| x.0 == r.0)`: the number of a register by the first of some pairs of an old and a new one
unfoldable pub through : List (ℕ × ℕ) → ℕ → ℕ
through [] r = r
through (x ∷ xs) r = cond (eqb x.0 r) x.1 (through xs r)

-- "if role == Role::Def && *r == old"
abbrev pub written : ℕ → ℕ → ℕ → ℕ
written old new r = cond (eqb r old) new r
