-- Document 01, "Thread": "`note` gathers known values and copies".
use Rattle.std.specs.Prelude.{ℕ, List, [], ◌∷◌, ◌++◌, Bool, ◌&&◌, ◌||◌, cond, eqb, get_or, Option, None, Some}
use Rattle.inst.specs.declared.Code.{Code}
use Rattle.inst.specs.declared.BoolOp.{BoolOp}
use Rattle.inst.specs.declared.BoolOp.TheVariants as b
use Rattle.inst.specs.declared.Inst.{Inst}
use Rattle.roles.specs.Roles.{defs_of}
use Rattle.procedure.specs.Lists.{found, or_else, value_or}
use Rattle.word.specs.Word.{tests}
use Rattle.ends.specs.Forms.{Form, const, const_f, addr_of, move, bool, bin, jump, other, form_of}
use Rattle.steps.specs.Facts.{Facts}

-- each a list of entries, the register first; the first entry of a register counts
pub record Known : Type 0 where
  pub values : List (ℕ × ℕ)
  pub copies : List (ℕ × ℕ)

abbrev pub nothing : Known
nothing = record { values = []; copies = [] }

-- `known.retain(|x| x.0 != d)`
unfoldable pub values_without : ℕ → List (ℕ × ℕ) → List (ℕ × ℕ)
values_without d [] = []
values_without d (x ∷ xs) = cond (eqb x.0 d) (values_without d xs) (x ∷ values_without d xs)

-- `copy.retain(|x| x.0 != d && x.1.0 != d)`
unfoldable pub copies_without : ℕ → List (ℕ × ℕ) → List (ℕ × ℕ)
copies_without d [] = []
copies_without d (x ∷ xs) = cond (eqb x.0 d || eqb x.1 d) (copies_without d xs) (x ∷ copies_without d xs)

abbrev pub forget : ℕ → Known → Known
forget d k = record { values = values_without d k.values; copies = copies_without d k.copies }

-- what is known after registers are written: nothing if they are more than two
unfoldable pub forget_all : List ℕ → Known → Known
forget_all [] k = k
forget_all (d ∷ []) k = forget d k
forget_all (d ∷ e ∷ []) k = forget e (forget d k)
forget_all (d ∷ e ∷ g ∷ ds) k = nothing

abbrev pub with_value : ℕ → ℕ → Known → Known
with_value d v k = record { values = k.values ++ ((d, v) ∷ []); copies = k.copies }

abbrev pub with_copy : ℕ → ℕ → Known → Known
with_copy d s k = record { values = k.values; copies = k.copies ++ ((d, s) ∷ []) }

abbrev pub with_value_if : ℕ → Option ℕ → Known → Known
with_value_if d None k = k
with_value_if d (Some v) k = with_value d v k

-- the source of a register's copy, or the register
abbrev pub source_of : Known → ℕ → ℕ
source_of k r = value_or r (found r k.copies)

-- the known value of a register, or of a singly written Const
abbrev pub value_of : Facts → Known → ℕ → Option ℕ
value_of f k r = or_else (found r k.values) (f.const r)

-- both of the same kind, I64 or Ptr, and the file's own
abbrev pub alike : Facts → ℕ → ℕ → Bool
alike f d s =
    let kind = get_or f.registers d 5 in
    eqb kind (get_or f.registers s 5) && (eqb kind 0 || eqb kind 2)

-- Move, by the source of its source
abbrev pub note_move : Facts → ℕ → ℕ → Known → Known
note_move f d s k =
    let k' = with_value_if d (value_of f k s) k in
    cond (alike f d s) (with_copy d s k') k'

-- Bool with one known operand: Not reads only the first
abbrev pub bool_of_one : BoolOp → ℕ → Option ℕ
bool_of_one b.And x = None
bool_of_one b.Or x = None
bool_of_one b.Xor x = None
bool_of_one b.Not x = Some (tests b.Not x 0)

-- Bool, from what is known of its operands, by the machine's rule
abbrev pub bool_of : BoolOp → Option ℕ → Option ℕ → Option ℕ
bool_of op None y = None
bool_of op (Some x) None = bool_of_one op x
bool_of op (Some x) (Some y) = Some (tests op x y)

-- what an instruction adds, once what it writes is forgotten: "Const, Move, Bool"
abbrev pub learnt : Facts → Known → Form → Known
learnt f k (const d v) = with_value d.0 v k
learnt f k (const_f d) = k
learnt f k (addr_of d up) = k
learnt f k (move d s) = cond (eqb d.0 s.0) k (note_move f d.0 (source_of k s.0) k)
learnt f k (bool op d x y) = with_value_if d.0 (bool_of op (value_of f k x.0) (value_of f k y.0)) k
learnt f k (bin ranged op) = k
learnt f k (jump e) = k
learnt f k other = k

unfoldable pub learn : Facts → Known → Inst → Known
learn f k x = learnt f k (form_of x)

-- `note`
abbrev pub note : Facts → Known → Inst → Known
note f k x = learn f (forget_all (defs_of x) k) x

unfoldable pub notes : Facts → Known → List Code → Known
notes f k [] = k
notes f k (x ∷ c) = notes f (note f k x.inst) c
