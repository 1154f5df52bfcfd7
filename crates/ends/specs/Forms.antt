-- The 24 kinds in the few forms that the branch steps tell apart.
use Rattle.std.specs.Prelude.{ℕ, Bool, true, false}
use Rattle.inst.specs.declared.Reg.{Reg}
use Rattle.inst.specs.declared.AddrSpace.{AddrSpace}
use Rattle.inst.specs.declared.AddrSpace.TheVariants as s
use Rattle.inst.specs.declared.BoolOp.{BoolOp}
use Rattle.inst.specs.declared.IntOp.{IntOp}
use Rattle.inst.specs.declared.Inst.{Inst}
use Rattle.inst.specs.declared.Inst.TheVariants as i
use Rattle.ends.specs.declared.End.{End}
use Rattle.ends.specs.declared.End.TheVariants as e

pub data Form : Type 0 where
  -- Const dst v
  const : Reg → ℕ → Form
  -- ConstF dst
  const_f : Reg → Form
  -- AddrOf dst; whether its space is an Up
  addr_of : Reg → Bool → Form
  -- Move dst src
  move : Reg → Reg → Form
  -- Bool op dst a b
  bool : BoolOp → Reg → Reg → Reg → Form
  -- Bin op, BinRange op; whether it is a BinRange
  bin : Bool → IntOp → Form
  -- Br, CondBr, Case
  jump : End → Form
  other : Form

abbrev pub is_up : AddrSpace → Bool
is_up s.Frame = false
is_up (s.Up n) = true
is_up s.Inst = false
is_up (s.Pkg n) = false
is_up (s.Const n) = false
is_up s.Shared = false

unfoldable pub form_of : Inst → Form
form_of (i.Const d v) = const d v
form_of (i.ConstF d v) = const_f d
form_of (i.Move d s) = move d s
form_of (i.AddrOf d s f) = addr_of d (is_up s)
form_of (i.Select d c x y) = other
form_of (i.Cmp op d x y) = other
form_of (i.Bool op d x y) = bool op d x y
form_of (i.Bin op d x y) = bin false op
form_of (i.BinRange op d x y l h w) = bin true op
form_of (i.Load d a w) = other
form_of (i.Store a s w) = other
form_of (i.Check c v l h w) = other
form_of (i.MakeDope a p) = other
form_of (i.DopeLen d p n) = other
form_of (i.BoundsLen d l r e) = other
form_of (i.Alloc d s) = other
form_of (i.TakeBounds l r e) = other
form_of (i.CallNative n a d) = other
form_of (i.Br t) = jump (e.Br t)
form_of (i.CondBr c t f) = jump (e.CondBr c t f)
form_of (i.Case v t) = jump (e.Case t)
form_of (i.Ret v) = other
form_of (i.Unreachable w) = other
form_of i.Stmt = other

-- the value that an instruction writes, whatever it reads
pub data Fixed : Type 0 where
  -- Const, with v
  word : ℕ → Fixed
  -- ConstF
  real : Fixed
  -- AddrOf; whether it is an Up
  address : Bool → Fixed
  varying : Fixed

abbrev pub fixed_in : Form → Fixed
fixed_in (const d v) = word v
fixed_in (const_f d) = real
fixed_in (addr_of d up) = address up
fixed_in (move d s) = varying
fixed_in (bool op d x y) = varying
fixed_in (bin ranged op) = varying
fixed_in (jump e) = varying
fixed_in other = varying

unfoldable pub fixed_of : Inst → Fixed
fixed_of x = fixed_in (form_of x)

-- Const, ConstF or AddrOf
abbrev pub is_fixed : Fixed → Bool
is_fixed (word v) = true
is_fixed real = true
is_fixed (address up) = true
is_fixed varying = false
