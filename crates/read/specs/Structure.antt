-- Document 01, "File": what the blocks, their code and the tables of a file must be.
use Rattle.std.specs.Prelude.{ℕ, ◌+◌, ◌-◌, List, [], ◌∷◌, Bool, ◌&&◌, ◌||◌, not, cond, eqb, ltb, leb, length, take, drop}
use Rattle.records.specs.declared.Record.{Record}
use Rattle.layout.specs.Walk.{walk, lead}

-- how far a walk along blocks or arms is: the number expected next, and how many records are left
abbrev pub State : Type 0
State = ℕ × ℕ

-- "p1 start, p2 end (exclusive); blocks tile the code in order, none empty":
-- a block after others that end at `due`, in n instructions of code; the last one leaves no code over
unfoldable pub tiles : ℕ → State → Record → Bool
tiles n s r = eqb r.p1 s.0 && (ltb r.p1 r.p2 && (leb r.p2 n && (not (eqb s.1 1) || eqb r.p2 n)))

abbrev pub next_block : State → Record → State
next_block s r = (r.p2, s.1 - 1)

-- how many blocks come before the first that doesn't tile
abbrev pub tiled : ℕ → List Record → ℕ
tiled n blocks = walk (tiles n) next_block (0, length blocks) blocks

-- "terminator (kinds 18 to 22)"
abbrev pub terminator_kind : ℕ → Bool
terminator_kind k = leb 18 k && leb k 22

abbrev pub terminator : Record → Bool
terminator r = terminator_kind r.kind

-- "each ending in its only terminator": the first terminator of a block's code is its last instruction
abbrev pub ends_well : List Record → Bool
ends_well code = eqb (lead (λ r. not (terminator r)) code + 1) (length code)

-- the code of a block
abbrev pub code_of : List Record → Record → List Record
code_of code r = take (r.p2 - r.p1) (drop r.p1 code)

-- how many blocks come before the first whose terminator is missing or early
abbrev pub ended : List Record → List Record → ℕ
ended code blocks = lead (λ r. ends_well (code_of code r)) blocks

-- "kind 1 is the default"
abbrev pub is_default : Record → Bool
is_default r = eqb r.kind 1

-- "Tables count from 0, each any number of arms, then one default.": an arm of the expected table; the last is a default
unfoldable pub numbers : State → Record → Bool
numbers s r = eqb r.p1 s.0 && (not (eqb s.1 1) || is_default r)

abbrev pub next_arm : State → Record → State
next_arm s r = (s.0 + cond (is_default r) 1 0, s.1 - 1)

-- how many arms come before the first that is misnumbered or lacks its default
abbrev pub numbered : List Record → ℕ
numbered arms = walk numbers next_arm (0, length arms) arms

-- how many tables there are: one for each default
unfoldable pub tables : List Record → ℕ
tables [] = 0
tables (r ∷ rs) = cond (is_default r) 1 0 + tables rs
