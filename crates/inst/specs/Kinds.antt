-- The kinds and their numbers: document 01, "Class 4, instruction".
use Rattle.std.specs.Prelude.{ℕ, [], ◌∷◌, get_or}
use Rattle.inst.specs.declared.Kind.{Kind}
use Rattle.inst.specs.declared.Kind.TheVariants as k

-- "Kinds: 0 Const .. 23 Stmt."
abbrev pub number_of : Kind → ℕ
number_of k.Const = 0
number_of k.ConstF = 1
number_of k.Move = 2
number_of k.AddrOf = 3
number_of k.Select = 4
number_of k.Cmp = 5
number_of k.Bool = 6
number_of k.Bin = 7
number_of k.BinRange = 8
number_of k.Load = 9
number_of k.Store = 10
number_of k.Check = 11
number_of k.MakeDope = 12
number_of k.DopeLen = 13
number_of k.BoundsLen = 14
number_of k.Alloc = 15
number_of k.TakeBounds = 16
number_of k.CallNative = 17
number_of k.Br = 18
number_of k.CondBr = 19
number_of k.Case = 20
number_of k.Ret = 21
number_of k.Unreachable = 22
number_of k.Stmt = 23

-- the kind of a number; a number past the last is read as Stmt
abbrev pub kind_at : ℕ → Kind
kind_at n = get_or (k.Const ∷ k.ConstF ∷ k.Move ∷ k.AddrOf ∷ k.Select ∷ k.Cmp ∷ k.Bool ∷ k.Bin ∷ k.BinRange ∷ k.Load ∷ k.Store ∷ k.Check ∷ k.MakeDope ∷ k.DopeLen ∷ k.BoundsLen ∷ k.Alloc ∷ k.TakeBounds ∷ k.CallNative ∷ k.Br ∷ k.CondBr ∷ k.Case ∷ k.Ret ∷ k.Unreachable ∷ []) n k.Stmt
