-- Document 01, "Machine": "registers singly written by Const, ConstF or AddrOf in the original already loaded: these are its single constants."
use Rattle.std.specs.Prelude.{ℕ, ◌≡◌, cond, List, [], ◌∷◌, Option, None, Some}
use Rattle.inst.specs.declared.Code.{Code}
use Rattle.inst.specs.declared.Inst.{Inst}
use Rattle.procedure.specs.Procedure.{Procedure, first_of}
use Rattle.procedure.specs.Lists.{joined, value_or}
use Rattle.procedure.specs.Counts.{singly}
use Rattle.ends.specs.Forms.{fixed_of, is_fixed}
use Rattle.steps.specs.Facts.{writes as names}
use Rattle.machine.specs.Machine.{Regs, Address, Effect, writes, goes, ends, asks, effect}

abbrev pub given : Effect → Option ℕ
given (writes vs) = first_of vs
given (goes b) = None
given (ends e) = None
given (asks a) = None

-- what a Const, ConstF or AddrOf writes
unfoldable pub constant_of : Address → Inst → Option ℕ
constant_of address x = cond (is_fixed (fixed_of x)) (given (effect address [] 0 [] [] x)) None

-- what the first instruction that writes r writes, if it is one of these
unfoldable pub constant_in : Address → List Code → ℕ → Option ℕ
constant_in address [] r = None
constant_in address (c ∷ cs) r = cond (names r c.inst) (constant_of address c.inst) (constant_in address cs r)

-- the value of a register that one field of some code writes, that of a Const, ConstF or AddrOf
unfoldable pub single_in : Address → List Code → ℕ → Option ℕ
single_in address cs r = cond (singly cs r) (constant_in address cs r) None

-- the value of a single constant
abbrev pub single : Address → Procedure → ℕ → Option ℕ
single address p r = single_in address (joined p.blocks) r

-- "already loaded"
abbrev pub Loaded : Address → Procedure → Regs → Type 0
Loaded address p g = (r v : ℕ) → single address p r ≡ Some v → g r ≡ v

-- some registers with the single constants loaded into them
abbrev pub load : Address → Procedure → Regs → Regs
load address p g = λ r. value_or (g r) (single address p r)
