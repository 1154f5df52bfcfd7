-- Document 01, "Equal arms": "Blocks ascending, earlier edits seen. Each CondBr arm follows at most 4 lone Brs that don't target
-- themselves; if both reach one block, write Br there."
use Rattle.std.specs.Prelude.{ℕ, zero, suc, List, [], Bool, true, false, cond, eqb, length, get_or, set}
use Rattle.inst.specs.declared.Code.{Code}
use Rattle.inst.specs.declared.Inst.TheVariants as i
use Rattle.codec.specs.Codec.{block_of}
use Rattle.ends.specs.declared.End.{End}
use Rattle.ends.specs.declared.End.TheVariants as e
use Rattle.ends.specs.Ends.{end_of, lone_of, with_end}

-- from block b over a lone Br that doesn't target itself
abbrev pub past : ℕ → End → ℕ
past b (e.Br to) = cond (eqb to.0 b) b to.0
past b (e.CondBr c t f) = b
past b (e.Case n) = b
past b e.Other = b

unfoldable pub follow : ℕ → List (List Code) → ℕ → ℕ
follow zero P b = b
follow (suc k) P b = follow k P (past b (lone_of (get_or P b [])))

-- "at most 4"
abbrev pub reached_from : List (List Code) → ℕ → ℕ
reached_from P b = follow 4 P b

-- the blocks, and whether some CondBr was replaced
pub record Arms : Type 0 where
  pub blocks : List (List Code)
  pub edited : Bool

abbrev pub join_if : Bool → ℕ → ℕ → Arms → Arms
join_if true k to s = record { blocks = set s.blocks k (with_end (i.Br (block_of to)) (get_or s.blocks k [])); edited = true }
join_if false k to s = s

abbrev pub join_end : End → ℕ → Arms → Arms
join_end (e.Br to) k s = s
join_end (e.CondBr c t f) k s =
    let to = reached_from s.blocks t.0 in
    join_if (eqb to (reached_from s.blocks f.0)) k to s
join_end (e.Case n) k s = s
join_end e.Other k s = s

-- block k
unfoldable pub join_arms : ℕ → Arms → Arms
join_arms k s = join_end (end_of (get_or s.blocks k [])) k s

-- n blocks from block k on
unfoldable pub join_from : ℕ → ℕ → Arms → Arms
join_from zero k s = s
join_from (suc n) k s = join_from n (suc k) (join_arms k s)

abbrev pub equal_arms : List (List Code) → Arms
equal_arms P = join_from (length P) 0 (record { blocks = P; edited = false })
