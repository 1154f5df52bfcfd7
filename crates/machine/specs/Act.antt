-- Document 01, "Machine": "Others are acts: kind, op, plain numbers (fields that name no register or list), values read, statement."
use Rattle.std.specs.Prelude.{ℕ, List, [], ◌∷◌}
use Rattle.inst.specs.Inst.{kind_of}
use Rattle.inst.specs.declared.Inst.{Inst}
use Rattle.inst.specs.declared.Inst.TheVariants as i
use Rattle.codec.specs.Codec.{inst_record}

pub record Act : Type 0 where
  pub kind : ℕ
  pub op : ℕ
  pub numbers : List ℕ
  pub values : List ℕ
  pub statement : ℕ

-- "plain numbers (fields that name no register or list)": start and length name a list, lo and hi registers
abbrev pub numbers_of : Inst → List ℕ
numbers_of (i.Const d v) = []
numbers_of (i.ConstF d v) = []
numbers_of (i.Move d s) = []
numbers_of (i.AddrOf d s f) = []
numbers_of (i.Select d c x y) = []
numbers_of (i.Cmp op d x y) = []
numbers_of (i.Bool op d x y) = []
numbers_of (i.Bin op d x y) = []
numbers_of (i.BinRange op d x y l h what) = what ∷ []
numbers_of (i.Load d a w) = []
numbers_of (i.Store a s w) = []
numbers_of (i.Check k v l h what) = what ∷ []
numbers_of (i.MakeDope a parts) = []
numbers_of (i.DopeLen d p dim) = dim ∷ []
numbers_of (i.BoundsLen d l r e) = []
numbers_of (i.Alloc d s) = []
numbers_of (i.TakeBounds l r e) = []
numbers_of (i.CallNative native args d) = native ∷ []
numbers_of (i.Br t) = []
numbers_of (i.CondBr c t f) = []
numbers_of (i.Case v t) = []
numbers_of (i.Ret v) = []
numbers_of (i.Unreachable w) = []
numbers_of i.Stmt = []

-- byte 2 of the instruction's record
unfoldable pub op_of : Inst → ℕ
unfolding inst_record
op_of x = (inst_record x).op

-- the act of an instruction, its statement and the values that it reads
abbrev pub act_of : Inst → ℕ → List ℕ → Act
act_of x statement values = record { kind = kind_of x; op = op_of x; numbers = numbers_of x; values = values; statement = statement }
