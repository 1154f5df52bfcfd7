-- Work definitions, only for contracts between functions: parts of the checks of a record.
use Rattle.std.specs.Prelude.{ℕ, suc, ◌+◌, min, List, [], ◌∷◌, Bool, true, ◌&&◌, ◌||◌, cond, eqb, ltb, leb, get_or}
use Rattle.records.specs.declared.Record.{Record}
use Rattle.records.specs.Kinds.{zeros}
use Rattle.record_rules.specs.declared.exist.Counts.{Counts}
use Rattle.record_rules.specs.declared.fit.TheConstants.{FIRST, LAST}
use Rattle.record_rules.specs.declared.exist.TheConstants.{ANY, ASKED}

-- the head of a record that isn't an instruction: a kind, and zeros for op, byte 3 and statement
abbrev pub plain : Record → ℕ → Bool
plain r kinds = ltb r.kind kinds && zeros (r.op ∷ r.zero ∷ r.stmt ∷ [])

-- the row of the most that the places of a kind and an op may hold
abbrev pub row_of : ℕ → ℕ → ℕ
row_of kind op = get_or FIRST kind 0 + min op (get_or LAST kind 0)

-- what may stand in a place, by the most that it may hold: zero, a small number, or any number
abbrev pub holds : ℕ → ℕ → Bool
holds most p = cond (eqb most 0) (eqb p 0) (cond (eqb most 255) (ltb p 256) true)

-- what a place can be asked to be below: nothing, a count, an optional register's limit, a list's end
abbrev pub limits_at : Counts → ℕ → List ℕ
limits_at n optional = ANY ∷ n.registers ∷ n.blocks ∷ n.tables ∷ optional ∷ suc n.operands ∷ []

-- for an op that isn't 0, and for op 0
abbrev pub limits_of : Counts → List (List ℕ)
limits_of n = limits_at n n.registers ∷ limits_at n ANY ∷ []

-- what a kind of instruction asks of a place
abbrev pub asked : ℕ → ℕ → ℕ
asked kind place = get_or (get_or ASKED kind []) place 0

-- whether what is asked holds of a number; unnamed: an optional register isn't there
abbrev pub asked_exists : Counts → Bool → ℕ → ℕ → Bool
asked_exists n unnamed asked p =
    get_or (true ∷ ltb p n.registers ∷ ltb p n.blocks ∷ ltb p n.tables ∷ (unnamed || ltb p n.registers) ∷ leb p n.operands ∷ []) asked true
