-- The blocks that Thread copies: `dupable`, `small`, `latch`, `reads_konst`.
use Rattle.std.specs.Prelude.{ℕ, suc, List, [], ◌∷◌, ◌++◌, Bool, true, false, ◌&&◌, ◌||◌, eqb, leb, length}
use Rattle.inst.specs.Inst.{kind_of}
use Rattle.inst.specs.declared.Code.{Code}
use Rattle.inst.specs.declared.IntOp.{IntOp}
use Rattle.inst.specs.declared.IntOp.TheVariants as n
use Rattle.inst.specs.declared.Inst.{Inst}
use Rattle.roles.specs.Roles.{defs_of, uses_of}
use Rattle.procedure.specs.Lists.{any_of}
use Rattle.ends.specs.declared.End.{End}
use Rattle.ends.specs.declared.End.TheVariants as e
use Rattle.ends.specs.Forms.{Form, const, const_f, addr_of, move, bool, bin, jump, other, form_of}
use Rattle.ends.specs.Ends.{end_of}

-- `dupable`: Const, ConstF, Move; Select, Cmp, Bool
abbrev pub dupable_kind : ℕ → Bool
dupable_kind k = leb k 2 || leb 4 k && leb k 6

abbrev pub dupable : Inst → Bool
dupable x = dupable_kind (kind_of x)

-- `small`: the last is a Br, CondBr or Ret
abbrev pub small_end_kind : ℕ → Bool
small_end_kind k = eqb k 18 || eqb k 19 || eqb k 21

abbrev pub small_end : Inst → Bool
small_end x = small_end_kind (kind_of x)

unfoldable pub copyable : List Code → Bool
copyable [] = false
copyable (x ∷ []) = small_end x.inst
copyable (x ∷ y ∷ c) = dupable x.inst && copyable (y ∷ c)

-- "A target has at most four instructions": dupable ones, then a Br, CondBr or Ret
unfoldable pub small : List Code → Bool
small c = leb (length c) 4 && copyable c

abbrev pub add_or_sub : IntOp → Bool
add_or_sub n.Add = true
add_or_sub n.Sub = true
add_or_sub n.Mul = false
add_or_sub n.Div = false
add_or_sub n.Rem = false
add_or_sub n.Mod = false
add_or_sub n.Pow = false

abbrev pub step_in : Bool → Form → Bool
step_in wide (const d v) = false
step_in wide (const_f d) = false
step_in wide (addr_of d up) = false
step_in wide (move d s) = false
step_in wide (bool op d x y) = false
step_in wide (bin false op) = add_or_sub op
step_in wide (bin true op) = wide && add_or_sub op
step_in wide (jump x) = false
step_in wide other = false

-- `latch`, step: a Bin, or if wide a BinRange, that adds or subtracts
unfoldable pub step_by : Bool → Inst → Bool
step_by wide x = step_in wide (form_of x)

-- a CondBr with an arm to block l
abbrev pub tests_into : ℕ → End → Bool
tests_into l (e.Br t) = false
tests_into l (e.CondBr c t f) = eqb t.0 l || eqb f.0 l
tests_into l (e.Case n) = false
tests_into l e.Other = false

-- a Br to block l or an earlier one
abbrev pub jumps_back : ℕ → End → Bool
jumps_back l (e.Br t) = leb t.0 l
jumps_back l (e.CondBr c t f) = false
jumps_back l (e.Case n) = false
jumps_back l e.Other = false

abbrev pub is_br : End → Bool
is_br (e.Br t) = true
is_br (e.CondBr c t f) = false
is_br (e.Case n) = false
is_br e.Other = false

-- `latch`: "[Bin add/sub, Br]"; "any short block that jumps back with an add or subtract" if wide
abbrev pub step_shape : Bool → ℕ → List Code → Bool
step_shape wide l c = eqb (length c) 2 && is_br (end_of c) || wide && leb (length c) 4 && jumps_back l (end_of c)

unfoldable pub step_block : Bool → ℕ → List Code → Bool
step_block wide l c = step_shape wide l c && any_of (λ x. step_by wide x.inst) c

-- `latch`: block l tests, and the next one, [] if there is none, is its step block; wide if there is a body
unfoldable pub latch : List Code → List Code → ℕ → Bool → Bool
latch code next l wide = tests_into (suc l) (end_of code) && step_block wide l next

-- `reads_konst`: the fields that `visit` visits
unfoldable pub reads_konst : (ℕ → Bool) → List Code → Bool
reads_konst konst c = any_of (λ x. any_of konst (defs_of x.inst ++ uses_of x.inst)) c
