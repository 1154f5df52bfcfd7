-- How a block ends: what the branch steps look at.
use Rattle.std.specs.Prelude.{ℕ, Bool, List, [], ◌∷◌, get_or}
use Rattle.records.specs.Record.{blank}
use Rattle.read.specs.Structure.{terminator_kind}
use Rattle.inst.specs.Inst.{kind_of}
use Rattle.inst.specs.declared.Code.{Code}
use Rattle.inst.specs.declared.Inst.{Inst}
use Rattle.codec.specs.Codec.{code_of, with_inst}
use Rattle.ends.specs.declared.End.{End}
use Rattle.ends.specs.declared.End.TheVariants as e
use Rattle.ends.specs.Forms.{Form, const, const_f, addr_of, move, bool, bin, jump, other, form_of}

abbrev pub terminator_of : Inst → Bool
terminator_of x = terminator_kind (kind_of x)

-- instruction k of some code; past the end, that of a blank record
abbrev pub code_at : List Code → ℕ → Code
code_at c k = get_or c k (code_of blank)

abbrev pub end_in : Form → End
end_in (const d v) = e.Other
end_in (const_f d) = e.Other
end_in (addr_of d up) = e.Other
end_in (move d s) = e.Other
end_in (bool op d x y) = e.Other
end_in (bin ranged op) = e.Other
end_in (jump x) = x
end_in other = e.Other

unfoldable pub view_of : Inst → End
view_of x = end_in (form_of x)

-- `code.last()`
unfoldable pub end_of : List Code → End
end_of [] = e.Other
end_of (x ∷ []) = view_of x.inst
end_of (x ∷ y ∷ c) = end_of (y ∷ c)

-- the end of a block that holds nothing else: "lone"
abbrev pub lone_of : List Code → End
lone_of [] = e.Other
lone_of (x ∷ []) = view_of x.inst
lone_of (x ∷ y ∷ c) = e.Other

-- a block without its last instruction
unfoldable pub front : List Code → List Code
front [] = []
front (x ∷ []) = []
front (x ∷ y ∷ c) = x ∷ front (y ∷ c)

-- a block with its last instruction rewritten
unfoldable pub with_end : Inst → List Code → List Code
with_end i [] = []
with_end i (x ∷ []) = with_inst i x ∷ []
with_end i (x ∷ y ∷ c) = x ∷ with_end i (y ∷ c)

-- `Inst::targets`
abbrev pub targets : End → List ℕ
targets (e.Br l) = l.0 ∷ []
targets (e.CondBr c t f) = t.0 ∷ f.0 ∷ []
targets (e.Case n) = []
targets e.Other = []
