-- Storage, not the paper's: how the private functions fill the table, step by step.
use Rattle.std.specs.Prelude.{ℕ, ◌+◌, ◌*◌, List, [], ◌∷◌, ◌&&◌, cond, not, eqb, ltb, length, get_or, set}
use Rattle.inst.specs.declared.Code.{Code}
use Rattle.inst.specs.declared.Inst.{Inst}
use Rattle.roles.specs.Roles.{defs_of, reads_of}
use Rattle.ends.specs.Forms.{Form, const, const_f, addr_of, move, bool, bin, jump, other, form_of}
use Rattle.facts.specs.Storage.{cap}

-- a function applied for each element of a list in turn
unfoldable pub over : {S A : Type 0} → (S → A → S) → S → List A → S
over f s [] = s
over f s (x ∷ xs) = over f (f s x) xs

-- a register's row before anything is counted
abbrev pub bare : List ℕ → ℕ → List ℕ
bare kinds r = get_or kinds r 0 ∷ 0 ∷ 0 ∷ 0 ∷ 0 ∷ []

-- one more at a place, up to a limit; a place that the table doesn't have is skipped
unfoldable pub bumped : ℕ → List ℕ → ℕ → List ℕ
bumped most t at = set t at (get_or t at 0 + cond (ltb (get_or t at 0) most) 1 0)

-- one more in column j of a register's row
abbrev pub counted : ℕ → ℕ → List ℕ → ℕ → List ℕ
counted j most t r = bumped most t (5 * r + j)

-- what one instruction adds to the counts
abbrev pub count_inst : List ℕ → List ℕ → Inst → List ℕ
count_inst ops t x = over (counted 2 cap) (over (counted 1 255) t (defs_of x)) (reads_of ops x)

-- a Const of a register, unless there was one before; a ConstF or AddrOf, unless the register has a class
unfoldable pub with_word : List ℕ → ℕ → ℕ → List ℕ
with_word t d v = cond (ltb (5 * d + 4) (length t) && not (eqb (get_or t (5 * d + 3) 0) 1)) (set (set t (5 * d + 3) 1) (5 * d + 4) v) t

unfoldable pub with_konst : List ℕ → ℕ → List ℕ
with_konst t d = cond (eqb (get_or t (5 * d + 3) 0) 0) (set t (5 * d + 3) 2) t

-- what one instruction says about the class of the register that it writes
abbrev pub class_in : List ℕ → Form → List ℕ
class_in t (const d v) = with_word t d.0 v
class_in t (const_f d) = with_konst t d.0
class_in t (addr_of d up) = cond up t (with_konst t d.0)
class_in t (move d s) = t
class_in t (bool op d x y) = t
class_in t (bin ranged op) = t
class_in t (jump e) = t
class_in t other = t

unfoldable pub class_step : List ℕ → Inst → List ℕ
class_step t x = class_in t (form_of x)

-- what one instruction adds to the counts and to the classes
abbrev pub fact_step : List ℕ → List ℕ → Inst → List ℕ
fact_step ops t x = class_step (count_inst ops t x) x

abbrev pub fact_code : List ℕ → List ℕ → Code → List ℕ
fact_code ops t x = fact_step ops t x.inst
