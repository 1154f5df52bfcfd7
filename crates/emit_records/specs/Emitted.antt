-- Document 01, "Emit", over bytes: which blocks stay, what is rescued, and records written one after the other.
use Rattle.std.specs.Prelude.{ℕ, suc, ◌+◌, ◌-◌, ◌/◌, min, ◌≡◌, List, [], ◌∷◌, ◌++◌, map, Bool, true, ◌&&◌, ◌||◌, not, cond, leb, ltb, length, get_or, take, None}
use Rattle.records.specs.declared.Record.{Record}
use Rattle.put_record.specs.Store.{put_of}
use Rattle.inst.specs.declared.Inst.{Inst}
use Rattle.inst.specs.declared.Inst.TheVariants as i
use Rattle.inst.specs.declared.Code.{Code}
use Rattle.inst.specs.declared.BlockId.{BlockId}
use Rattle.codec.specs.Codec.{inst_of, code_of, record_of, block_of}
use Rattle.items.specs.Items.{block_record}
use Rattle.ends.specs.Ends.{end_of}
use Rattle.steps.specs.Emit.{is_jump, is_rescued, first_stmt, stays}
use Rattle.blocks.specs.Blocks.{block_records_in}
use Rattle.facts.specs.Storage.{facts_in}
use Rattle.emit_records.specs.declared.Left.{Left}
use Rattle.emit_records.specs.declared.Writer.{Writer}

-- "their singly written Const, ConstF and AddrOf"; the body, the budget and the statement are not asked
abbrev pub rescued_by : List ℕ → Inst → Bool
rescued_by facts x = is_rescued (facts_in facts None 0) (record { inst = x; stmt = record { 0 = 0 } })

-- the records of a block that are rescued
unfoldable pub rescued_in : List ℕ → List Record → List Record
rescued_in facts [] = []
rescued_in facts (r ∷ rs) = cond (rescued_by facts (inst_of r)) (r ∷ rescued_in facts rs) (rescued_in facts rs)

-- "An unreached block stays if last, or one instruction and neither Br nor CondBr."
abbrev pub stays_by : Bool → Bool → List Code → Bool
stays_by mark last c = mark || last || leb (length c) 1 && not (is_jump (end_of c))

-- "Others become a Br to the next block with their first statement"
abbrev pub branch_record : BlockId → List Code → Record
branch_record next c = record_of (record { inst = i.Br next; stmt = first_stmt c })

-- some bytes, and the record of them that is written next
pub record Place : Type 0 where
  pub bytes : List ℕ
  pub at : ℕ

abbrev pub place : List ℕ → ℕ → Place
place b at = record { bytes = b; at = at }

-- a record written there, if the bytes have such a record
unfoldable pub put : Record → Place → Place
put r s = cond (ltb s.at (length s.bytes / 32)) (place (put_of s.bytes s.at r) (s.at + 1)) s

-- some records, one after the other
unfoldable pub puts : List Record → Place → Place
puts [] s = s
puts (r ∷ rs) s = puts rs (put r s)

-- where a writer is
abbrev pub place_in : Writer → Place
place_in w = place w.out.now w.at

-- a writer wrote some records, and is still over the same bytes
pub record Wrote (w : Writer) (rs : List Record) (w' : Writer) : Type 0 where
  pub same : w'.out.ghost_name ≡ w.out.ghost_name
  pub written : place_in w' ≡ puts rs (place_in w)

-- the instructions of some blocks
abbrev pub codes_in : List (List Record) → List (List Code)
codes_in R = map (map code_of) R

-- the marks of at most 160 blocks
abbrev pub marks_in : List Bool → List Bool
marks_in seen = take 160 seen

-- the marks and the records of the blocks that `run` left
abbrev pub marks : Left → List Bool
marks l = marks_in l.seen.now

abbrev pub left : Left → List (List Record)
left l = block_records_in l.blocks.code.now l.blocks.table.now

-- block b stays; one that has no mark does
abbrev pub stays_at : List Bool → List (List Code) → ℕ → Bool
stays_at marks P b = stays_by (get_or marks b true) (leb (length P - 1) b) (get_or P b [])

-- the records that are rescued from block b
abbrev pub lost_at : List ℕ → List Bool → List (List Record) → ℕ → List Record
lost_at facts marks R b = cond (stays_at marks (codes_in R) b) [] (rescued_in facts (get_or R b []))

-- the records of block b as it is emitted
abbrev pub new_at : List Bool → List (List Record) → ℕ → List Record
new_at marks R b = cond (stays_at marks (codes_in R) b) (get_or R b []) (branch_record (block_of (suc b)) (map code_of (get_or R b [])) ∷ [])

-- "in order": of the blocks that become a Br
unfoldable pub rescues_in : List ℕ → List Bool → List (List Record) → List Record
rescues_in facts marks [] = []
rescues_in facts [] (c ∷ cs) = []
rescues_in facts (m ∷ ms) (c ∷ cs) = cond (stays m (codes_in cs) (map code_of c)) [] (rescued_in facts c) ++ rescues_in facts ms cs

-- the blocks from block b on, with their marks
unfoldable pub empty_in : ℕ → List Bool → List (List Record) → List (List Record)
empty_in b marks [] = []
empty_in b [] (c ∷ cs) = c ∷ cs
empty_in b (m ∷ ms) (c ∷ cs) =
    cond (stays m (codes_in cs) (map code_of c)) c (branch_record (block_of (suc b)) (map code_of c) ∷ []) ∷ empty_in (suc b) ms cs

-- where a block of some size ends, with some records put before it; no later than a 32-bit field can say
abbrev pub end_after : ℕ → ℕ → ℕ → ℕ
end_after start front size = min (start + front + size) 4294967295

-- "p1 start, p2 end (exclusive)": blocks whose code starts at a place, the first with some records put before it
unfoldable pub heads_from : ℕ → ℕ → List (List Record) → List Record
heads_from start front [] = []
heads_from start front (c ∷ cs) =
    let end = end_after start front (length c) in
    block_record (record { start = start; end = end }) ∷ heads_from end 0 cs
