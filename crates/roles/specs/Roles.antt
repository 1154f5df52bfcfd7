-- Document 01, "Class 4, instruction": "`Inst::visit_mut` says which register fields are read and written; list operands are read too."
use Rattle.std.specs.Prelude.{ℕ, List, [], ◌∷◌, ◌++◌, map, length, take, drop, Option, Some, None}
use Rattle.inst.specs.declared.Reg.{Reg}
use Rattle.inst.specs.declared.Regs.{Regs}
use Rattle.inst.specs.declared.BoolOp.{BoolOp}
use Rattle.inst.specs.declared.BoolOp.TheVariants as b
use Rattle.inst.specs.declared.CheckKind.{CheckKind}
use Rattle.inst.specs.declared.CheckKind.TheVariants as k
use Rattle.inst.specs.declared.Inst.{Inst}
use Rattle.inst.specs.declared.Inst.TheVariants as i

-- visit_mut: "if let Some(r)"
abbrev pub optional : Option Reg → List ℕ
optional (Some r) = r.0 ∷ []
optional None = []

-- visit_mut: b is read "if *op != BoolOp::Not"
abbrev pub bool_uses : BoolOp → ℕ → ℕ → List ℕ
bool_uses b.And x y = x ∷ y ∷ []
bool_uses b.Or x y = x ∷ y ∷ []
bool_uses b.Xor x y = x ∷ y ∷ []
bool_uses b.Not x y = x ∷ []

-- visit_mut: lo is read "if *kind != CheckKind::Null", hi for "Range | Index | IndexDown"
abbrev pub check_uses : CheckKind → ℕ → ℕ → ℕ → List ℕ
check_uses k.Range v lo hi = v ∷ lo ∷ hi ∷ []
check_uses k.Index v lo hi = v ∷ lo ∷ hi ∷ []
check_uses k.IndexDown v lo hi = v ∷ lo ∷ hi ∷ []
check_uses k.Length v lo hi = v ∷ lo ∷ []
check_uses k.Null v lo hi = v ∷ []

-- the register fields that are written, in the order of visit_mut, which has all of them before those read
abbrev pub defs_of : Inst → List ℕ
defs_of (i.Const d v) = d.0 ∷ []
defs_of (i.ConstF d v) = d.0 ∷ []
defs_of (i.Move d s) = d.0 ∷ []
defs_of (i.AddrOf d s f) = d.0 ∷ []
defs_of (i.Select d c x y) = d.0 ∷ []
defs_of (i.Cmp op d x y) = d.0 ∷ []
defs_of (i.Bool op d x y) = d.0 ∷ []
defs_of (i.Bin op d x y) = d.0 ∷ []
defs_of (i.BinRange op d x y l h w) = d.0 ∷ []
defs_of (i.Load d a w) = d.0 ∷ []
defs_of (i.Store a s w) = []
defs_of (i.Check c v l h w) = []
defs_of (i.MakeDope a p) = []
defs_of (i.DopeLen d p n) = d.0 ∷ []
defs_of (i.BoundsLen d l r e) = d.0 ∷ []
defs_of (i.Alloc d s) = d.0 ∷ []
defs_of (i.TakeBounds l r e) = l.0 ∷ r.0 ∷ e.0 ∷ []
defs_of (i.CallNative n a d) = optional d
defs_of (i.Br t) = []
defs_of (i.CondBr c t f) = []
defs_of (i.Case v t) = []
defs_of (i.Ret v) = []
defs_of (i.Unreachable w) = []
defs_of i.Stmt = []

-- the register fields that are read, in the order of visit_mut
abbrev pub uses_of : Inst → List ℕ
uses_of (i.Const d v) = []
uses_of (i.ConstF d v) = []
uses_of (i.Move d s) = s.0 ∷ []
uses_of (i.AddrOf d s f) = []
uses_of (i.Select d c x y) = c.0 ∷ x.0 ∷ y.0 ∷ []
uses_of (i.Cmp op d x y) = x.0 ∷ y.0 ∷ []
uses_of (i.Bool op d x y) = bool_uses op x.0 y.0
uses_of (i.Bin op d x y) = x.0 ∷ y.0 ∷ []
uses_of (i.BinRange op d x y l h w) = x.0 ∷ y.0 ∷ l.0 ∷ h.0 ∷ []
uses_of (i.Load d a w) = a.0 ∷ []
uses_of (i.Store a s w) = a.0 ∷ s.0 ∷ []
uses_of (i.Check c v l h w) = check_uses c v.0 l.0 h.0
uses_of (i.MakeDope a p) = a.0 ∷ []
uses_of (i.DopeLen d p n) = p.0 ∷ []
uses_of (i.BoundsLen d l r e) = l.0 ∷ r.0 ∷ e.0 ∷ []
uses_of (i.Alloc d s) = s.0 ∷ []
uses_of (i.TakeBounds l r e) = []
uses_of (i.CallNative n a d) = []
uses_of (i.Br t) = []
uses_of (i.CondBr c t f) = c.0 ∷ []
uses_of (i.Case v t) = v.0 ∷ []
uses_of (i.Ret v) = optional v
uses_of (i.Unreachable w) = []
uses_of i.Stmt = []

abbrev pub no_list : Regs
no_list = record { start = 0; len = 0 }

-- `Inst::list`, empty if it is None
abbrev pub list_of : Inst → Regs
list_of (i.Const d v) = no_list
list_of (i.ConstF d v) = no_list
list_of (i.Move d s) = no_list
list_of (i.AddrOf d s f) = no_list
list_of (i.Select d c x y) = no_list
list_of (i.Cmp op d x y) = no_list
list_of (i.Bool op d x y) = no_list
list_of (i.Bin op d x y) = no_list
list_of (i.BinRange op d x y l h w) = no_list
list_of (i.Load d a w) = no_list
list_of (i.Store a s w) = no_list
list_of (i.Check c v l h w) = no_list
list_of (i.MakeDope a p) = p
list_of (i.DopeLen d p n) = no_list
list_of (i.BoundsLen d l r e) = no_list
list_of (i.Alloc d s) = no_list
list_of (i.TakeBounds l r e) = no_list
list_of (i.CallNative n a d) = a
list_of (i.Br t) = no_list
list_of (i.CondBr c t f) = no_list
list_of (i.Case v t) = no_list
list_of (i.Ret v) = no_list
list_of (i.Unreachable w) = no_list
list_of i.Stmt = no_list

-- the operands of a list
abbrev pub operands_of : List ℕ → Regs → List ℕ
operands_of ops l = take l.len (drop l.start ops)

-- "list operands are read too": all that is read, over the file's operands
abbrev pub reads_of : List ℕ → Inst → List ℕ
reads_of ops x = uses_of x ++ operands_of ops (list_of x)

abbrev pub reg_of : ℕ → Reg
reg_of n = record { 0 = n }

-- registers as lists of numbers, as above
abbrev pub numbers_of : List Reg → List ℕ
numbers_of rs = map (λ (r : Reg). r.0) rs

-- five registers by their numbers, padded with register 0
unfoldable pub padded : List ℕ → List Reg
padded ns = map reg_of (take 5 (ns ++ (0 ∷ 0 ∷ 0 ∷ 0 ∷ 0 ∷ [])))

-- the fields written, the fields read and a list; and how they stand: in five places, the first `defs` written, those up to `n` read
pub record Named : Type 0 where
  pub written : List ℕ
  pub read : List ℕ
  pub list : Regs
  pub defs : ℕ
  pub n : ℕ
  pub reg : List Reg

-- some registers written and some read, five at most, padded with register 0
abbrev pub filled : List ℕ → List ℕ → Regs → Named
filled defs uses list =
    record {
      written = defs;
      read = uses;
      list = list;
      defs = length defs;
      n = length (defs ++ uses);
      reg = padded (defs ++ uses);
    }

-- an instruction's roles: its fields written, its fields read, its list
abbrev pub roles_of : Inst → Named
roles_of x = filled (defs_of x) (uses_of x) (list_of x)
