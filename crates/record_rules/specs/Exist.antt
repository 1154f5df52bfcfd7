-- Document 01, "Read", 7: "a register, block, table or list that doesn't exist (a list exists if start plus length is at most the operand count)".
use Rattle.std.specs.Prelude.{ℕ, ◌+◌, List, [], ◌∷◌, Bool, true, ◌&&◌, ltb, leb, get_or}
use Rattle.records.specs.declared.Record.{Record}
use Rattle.records.specs.Kinds.{Place, unused, number, small, register, block, table, list, places, fields}
use Rattle.record_rules.specs.declared.exist.Counts.{Counts}

-- what a place names exists; next is the field after it
abbrev pub exist : Counts → Place → ℕ → ℕ → Bool
exist n unused p next = true
exist n number p next = true
exist n small p next = true
exist n register p next = ltb p n.registers
exist n block p next = ltb p n.blocks
exist n table p next = ltb p n.tables
exist n list p next = leb (p + next) n.operands

abbrev pub all_exist : Counts → List Place → List ℕ → Bool
all_exist n [] ps = true
all_exist n (x ∷ xs) [] = true
all_exist n (x ∷ xs) (p ∷ ps) = exist n x p (get_or ps 0 0) && all_exist n xs ps

-- everything that a record names exists
unfoldable pub names_exist : Counts → Record → Bool
names_exist n r = all_exist n (places r.class r.kind r.op) (fields r)
