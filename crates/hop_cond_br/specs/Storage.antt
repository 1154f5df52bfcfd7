-- Storage, not the paper's: what a hop of a CondBr answers and the bytes that it leaves, over the bytes of code and block table, for any blocks.
use Rattle.std.specs.Prelude.{ℕ, List, [], Bool, true, false, ◌&&◌, eqb, length, get_or, Option, None, Some}
use Rattle.records.specs.Record.{record_at}
use Rattle.inst.specs.declared.Inst.TheVariants as i
use Rattle.inst.specs.declared.Code.{Code}
use Rattle.codec.specs.Codec.{reg_of, block_of}
use Rattle.word.specs.Word.{choose}
use Rattle.ends.specs.Ends.{front}
use Rattle.blocks.specs.Blocks.{blocks_of}
use Rattle.blocks.specs.Rewrite.{end_rewritten}
use Rattle.steps.specs.Facts.{Facts}
use Rattle.steps.specs.Note.{Known, nothing, notes, source_of, value_of}
use Rattle.steps.specs.Thread.{Work, Hop, stay, last, next, arm_of, unthreaded}
use Rattle.facts.specs.Storage.{facts_in}
use Rattle.note.specs.Noted.{enough}
use Rattle.hop_cond_br.specs.declared.Turn.{Turn}
use Rattle.hop_cond_br.specs.declared.Turn.TheVariants as u

-- the code's bytes, and whether the hops go on
pub record Turned : Type 0 where
  pub code : List ℕ
  pub turn : Turn

abbrev pub turned : List ℕ → Turn → Turned
turned code turn = record { code = code; turn = turn }

-- of what is known: what register c copies, and the value of that
abbrev pub tested_in : List ℕ → ℕ → Known → ℕ × Option ℕ
tested_in facts c k = (source_of k c, value_of (facts_in facts None 0) k (source_of k c))

-- block a of a table
module _ (table : List ℕ) (a : ℕ) where
  -- an arm after passing over a lone CondBr, by the current blocks
  abbrev pub arm_in : List ℕ → Option ℕ → ℕ → Bool → ℕ → ℕ
  arm_in code body c truth l = arm_of (facts_in [] body 0) (unthreaded (blocks_of code table)) a c truth l

  abbrev pub turn_if : Bool → List ℕ → ℕ → ℕ → ℕ → Turned
  turn_if true code c t e = turned code u.Stay
  turn_if false code c t e = turned (end_rewritten code (record_at table a) (i.CondBr (reg_of c) (block_of t) (block_of e))) u.Last

  -- the CondBr with c' for c, and with these arms
  abbrev pub turn_in : List ℕ → Option ℕ → ℕ → ℕ → ℕ → ℕ → Turned
  turn_in code body c t e c' =
      let t' = arm_in code body c' true t in
      let e' = arm_in code body c' false e in
      turn_if (eqb c' c && eqb t' t && eqb e' e) code c' t' e'

  -- the Br that a known value makes
  abbrev pub fold_in : List ℕ → ℕ → ℕ → ℕ → Turned
  fold_in code v t e = turned (end_rewritten code (record_at table a) (i.Br (block_of (choose v t e)))) u.Next

  -- by what is known before it
  abbrev pub decide_in : List ℕ → Option ℕ → ℕ → ℕ → ℕ → ℕ → Option ℕ → Turned
  decide_in code body c t e c' (Some v) = fold_in code v t e
  decide_in code body c t e c' None = turn_in code body c t e c'

  abbrev pub decide_from_in : Facts → List ℕ → Option ℕ → ℕ → ℕ → ℕ → Known → Turned
  decide_from_in f code body c t e k = decide_in code body c t e (source_of k c) (value_of f k (source_of k c))

  -- the instructions before it
  abbrev pub before : List ℕ → List Code
  before code = front (get_or (blocks_of code table) a [])

  -- two words of each slice for each of them
  abbrev pub room_in : List ℕ → List ℕ → List ℕ → Bool
  room_in code known copy = enough (length (before code)) known copy

  -- CondBr c t e; nothing is written if there is no room to note what is known
  unfoldable pub turned_in : List ℕ → Option ℕ → List ℕ → ℕ → ℕ → ℕ → Bool → Turned
  turned_in facts body code c t e true =
      let f = facts_in facts body 0 in
      decide_from_in f code body c t e (notes f nothing (before code))
  turned_in facts body code c t e false = turned code u.Stay

-- what the definition sees of them
abbrev pub work_in : List ℕ → List ℕ → List ℕ → ℕ → Bool → Work
work_in table code kinds grown edited = record { blocks = blocks_of code table; kinds = kinds; grown = grown; edited = edited }

abbrev pub hop_of : Turn → Work → Hop
hop_of u.Stay w = stay
hop_of u.Last w = last w
hop_of u.Next w = next w

abbrev pub hop_in : List ℕ → List ℕ → ℕ → Turned → Hop
hop_in table kinds grown s = hop_of s.turn (work_in table s.code kinds grown true)
