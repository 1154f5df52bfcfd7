-- Document 01, "Equal arms", over the bytes of code and block table, for any blocks.
use Rattle.std.specs.Prelude.{ℕ, zero, suc, ◌/◌, List, [], Option, Some, None, Bool, true, false, eqb, length, get_or}
use Rattle.records.specs.Record.{record_at}
use Rattle.inst.specs.declared.Inst.TheVariants as i
use Rattle.inst.specs.declared.BlockId.{BlockId}
use Rattle.codec.specs.Codec.{block_of}
use Rattle.ends.specs.declared.End.{End}
use Rattle.ends.specs.declared.End.TheVariants as e
use Rattle.ends.specs.Ends.{end_of}
use Rattle.blocks.specs.Blocks.{blocks_of}
use Rattle.blocks.specs.Rewrite.{end_rewritten}
use Rattle.steps.specs.EqualArms.{Arms, reached_from}

-- the code's bytes, and whether some CondBr was replaced
pub record Joined : Type 0 where
  pub code : List ℕ
  pub edited : Bool

abbrev pub joined : List ℕ → Bool → Joined
joined code edited = record { code = code; edited = edited }

-- what the definition sees of them
abbrev pub arms_of : List ℕ → Joined → Arms
arms_of table s = record { blocks = blocks_of s.code table; edited = s.edited }

-- over a block table
module _ (table : List ℕ) where
  -- "write Br there"
  abbrev pub join_if : Bool → ℕ → ℕ → Joined → Joined
  join_if true k to s = joined (end_rewritten s.code (record_at table k) (i.Br (block_of to))) true
  join_if false k to s = s

  -- "if both reach one block"
  abbrev pub join_end : End → ℕ → Joined → Joined
  join_end (e.Br to) k s = s
  join_end (e.CondBr c t f) k s =
      let to = reached_from (blocks_of s.code table) t.0 in
      join_if (eqb to (reached_from (blocks_of s.code table) f.0)) k to s
  join_end (e.Case n) k s = s
  join_end e.Other k s = s

  -- the same, once it is known where the arms meet
  abbrev pub join_met : Option BlockId → ℕ → Joined → Joined
  join_met (Some to) k s = joined (end_rewritten s.code (record_at table k) (i.Br to)) true
  join_met None k s = s

  -- block k
  unfoldable pub join_arms : ℕ → Joined → Joined
  join_arms k s = join_end (end_of (get_or (blocks_of s.code table) k [])) k s

  -- "Blocks ascending, earlier edits seen": n blocks from block k on
  unfoldable pub join_from : ℕ → ℕ → Joined → Joined
  join_from zero k s = s
  join_from (suc n) k s = join_from n (suc k) (join_arms k s)

  abbrev pub equal_arms_in : List ℕ → Joined
  equal_arms_in code = join_from (length table / 32) 0 (joined code false)
