-- Work definitions, only for contracts between functions: the roles of some kinds of instruction, as lists.
use Rattle.std.specs.Prelude.{ℕ, ◌≤◌, ◌≡◌, List, [], ◌∷◌, Option, length}
use Rattle.inst.specs.declared.Reg.{Reg}
use Rattle.inst.specs.declared.Regs.{Regs}
use Rattle.inst.specs.declared.BoolOp.{BoolOp}
use Rattle.inst.specs.declared.CheckKind.{CheckKind}
use Rattle.roles.specs.Exchange.{over}
use Rattle.roles.specs.Roles.{Named, filled, no_list, numbers_of, optional, bool_uses, check_uses}

-- room for five registers
pub record Five (defs n : ℕ) (reg : List Reg) : Type 0 where
  pub first : defs ≤ n
  pub most : n ≤ 5
  pub size : length reg ≡ 5

-- the same fields, with another list
abbrev pub listed : Named → Regs → Named
listed q list = record { written = q.written; read = q.read; list = list; defs = q.defs; n = q.n; reg = q.reg }

abbrev pub row_of : List Reg → List Reg → Named
row_of defs uses = filled (numbers_of defs) (numbers_of uses) no_list

abbrev pub bool_roles : BoolOp → Reg → Reg → Reg → Named
bool_roles op d x y = filled (d.0 ∷ []) (bool_uses op x.0 y.0) no_list

abbrev pub check_roles : CheckKind → Reg → Reg → Reg → Named
check_roles c v lo hi = filled [] (check_uses c v.0 lo.0 hi.0) no_list

abbrev pub call_roles : Regs → Option Reg → Named
call_roles args d = filled (optional d) [] args

abbrev pub ret_roles : Option Reg → Named
ret_roles v = filled [] (optional v) no_list

-- what a closure gives for a register has the number that σ gives
abbrev pub Maps : (ℕ → ℕ) → (Reg → Reg → Type 0) → Type 0
Maps σ post = (r s : Reg) → post r s → s ≡ over σ r
