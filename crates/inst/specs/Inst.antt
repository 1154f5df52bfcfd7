-- Document 01, "Class 4, instruction": the kinds' numbers.
use Rattle.std.specs.Prelude.{ℕ}
use Rattle.inst.specs.declared.Inst.{Inst}
use Rattle.inst.specs.declared.Inst.TheVariants as i

-- "Kinds: 0 Const .. 23 Stmt."
abbrev pub kind_of : Inst → ℕ
kind_of (i.Const d v) = 0
kind_of (i.ConstF d v) = 1
kind_of (i.Move d s) = 2
kind_of (i.AddrOf d s o) = 3
kind_of (i.Select d c a b) = 4
kind_of (i.Cmp o d a b) = 5
kind_of (i.Bool o d a b) = 6
kind_of (i.Bin o d a b) = 7
kind_of (i.BinRange o d a b l h w) = 8
kind_of (i.Load d a w) = 9
kind_of (i.Store a s w) = 10
kind_of (i.Check k v l h w) = 11
kind_of (i.MakeDope a p) = 12
kind_of (i.DopeLen d o n) = 13
kind_of (i.BoundsLen d l r k) = 14
kind_of (i.Alloc d s) = 15
kind_of (i.TakeBounds l r k) = 16
kind_of (i.CallNative n a d) = 17
kind_of (i.Br t) = 18
kind_of (i.CondBr c t f) = 19
kind_of (i.Case v t) = 20
kind_of (i.Ret v) = 21
kind_of (i.Unreachable w) = 22
kind_of i.Stmt = 23
