-- Document 01, "Class 4, instruction": "Ops count from 0 in `inst.rs`'s order." A number past the last is read as the last.
use Rattle.std.specs.Prelude.{ℕ, ◌%◌, ◌^◌, Bool, true, [], ◌∷◌, ltb, get_or, Option, Some, None}
use Rattle.inst.specs.declared.Reg.{Reg}
use Rattle.inst.specs.declared.CmpOp.{CmpOp}
use Rattle.inst.specs.declared.CmpOp.TheVariants as c
use Rattle.inst.specs.declared.BoolOp.{BoolOp}
use Rattle.inst.specs.declared.BoolOp.TheVariants as b
use Rattle.inst.specs.declared.IntOp.{IntOp}
use Rattle.inst.specs.declared.IntOp.TheVariants as n
use Rattle.inst.specs.declared.Width.{Width}
use Rattle.inst.specs.declared.Width.TheVariants as w
use Rattle.inst.specs.declared.CheckKind.{CheckKind}
use Rattle.inst.specs.declared.CheckKind.TheVariants as k
use Rattle.inst.specs.declared.RegTy.{RegTy}
use Rattle.inst.specs.declared.RegTy.TheVariants as t
use Rattle.inst.specs.declared.AddrSpace.{AddrSpace}
use Rattle.inst.specs.declared.AddrSpace.TheVariants as s

-- "5 Cmp": its op
abbrev pub cmp_of : ℕ → CmpOp
cmp_of op = get_or (c.Eq ∷ c.Ne ∷ c.Lt ∷ c.Le ∷ c.Gt ∷ []) op c.Ge

abbrev pub cmp_num : CmpOp → ℕ
cmp_num c.Eq = 0
cmp_num c.Ne = 1
cmp_num c.Lt = 2
cmp_num c.Le = 3
cmp_num c.Gt = 4
cmp_num c.Ge = 5

-- "6 Bool": its op
abbrev pub bool_of : ℕ → BoolOp
bool_of op = get_or (b.And ∷ b.Or ∷ b.Xor ∷ []) op b.Not

abbrev pub bool_num : BoolOp → ℕ
bool_num b.And = 0
bool_num b.Or = 1
bool_num b.Xor = 2
bool_num b.Not = 3

-- "7 Bin", "8 BinRange": their op
abbrev pub int_of : ℕ → IntOp
int_of op = get_or (n.Add ∷ n.Sub ∷ n.Mul ∷ n.Div ∷ n.Rem ∷ n.Mod ∷ []) op n.Pow

abbrev pub int_num : IntOp → ℕ
int_num n.Add = 0
int_num n.Sub = 1
int_num n.Mul = 2
int_num n.Div = 3
int_num n.Rem = 4
int_num n.Mod = 5
int_num n.Pow = 6

-- "9 Load dst addr (op width)", "10 Store addr src (op width)"
abbrev pub width_of : ℕ → Width
width_of op = get_or (w.B1 ∷ w.B4 ∷ w.B8 ∷ []) op w.Sig

abbrev pub width_num : Width → ℕ
width_num w.B1 = 0
width_num w.B4 = 1
width_num w.B8 = 2
width_num w.Sig = 3

-- "11 Check v lo hi what (op kind)"
abbrev pub check_of : ℕ → CheckKind
check_of op = get_or (k.Range ∷ k.Index ∷ k.IndexDown ∷ k.Length ∷ []) op k.Null

abbrev pub check_num : CheckKind → ℕ
check_num k.Range = 0
check_num k.Index = 1
check_num k.IndexDown = 2
check_num k.Length = 3
check_num k.Null = 4

-- "Class 1, register": "Kind: 0 I64, 1 F64, 2 Ptr, 3 Sig, 4 Handle."
abbrev pub reg_ty_of : ℕ → RegTy
reg_ty_of op = get_or (t.I64 ∷ t.F64 ∷ t.Ptr ∷ t.Sig ∷ []) op t.Handle

abbrev pub reg_ty_num : RegTy → ℕ
reg_ty_num t.I64 = 0
reg_ty_num t.F64 = 1
reg_ty_num t.Ptr = 2
reg_ty_num t.Sig = 3
reg_ty_num t.Handle = 4

-- "an `AddrOf` carries its `AddrSpace`, and `Up`, `Pkg` and `Const` carry a number"
abbrev pub space_of : ℕ → ℕ → AddrSpace
space_of op n = get_or (s.Frame ∷ s.Up (n % 256) ∷ s.Inst ∷ s.Pkg n ∷ s.Const n ∷ []) op s.Shared

-- "AddrOf dst, space number, off (op space)": the op, and the number, 0 where the space carries none
abbrev pub space_num : AddrSpace → ℕ
space_num s.Frame = 0
space_num (s.Up n) = 1
space_num s.Inst = 2
space_num (s.Pkg n) = 3
space_num (s.Const n) = 4
space_num s.Shared = 5

abbrev pub space_arg : AddrSpace → ℕ
space_arg s.Frame = 0
space_arg (s.Up n) = n
space_arg s.Inst = 0
space_arg (s.Pkg n) = n
space_arg (s.Const n) = n
space_arg s.Shared = 0

-- "dim and Up's number are at most 255"
abbrev pub space_in_range : AddrSpace → Bool
space_in_range s.Frame = true
space_in_range (s.Up n) = ltb n 256
space_in_range s.Inst = true
space_in_range (s.Pkg n) = ltb n (2 ^ 32)
space_in_range (s.Const n) = ltb n (2 ^ 32)
space_in_range s.Shared = true

-- "op 1 with dst", "op 1 with v"
abbrev pub opt_of : ℕ → ℕ → Option Reg
opt_of op n = get_or (None ∷ []) op (Some (record { 0 = n }))

abbrev pub opt_num : Option Reg → ℕ
opt_num (Some r) = 1
opt_num None = 0

abbrev pub opt_arg : Option Reg → ℕ
opt_arg (Some r) = r.0
opt_arg None = 0
