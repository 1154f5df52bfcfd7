-- Storage, not the paper's: what the functions of `note` leave in their slices.
use Rattle.std.specs.Prelude.{ℕ, ◌/◌, ◌<◌, List, Bool, ◌&&◌, cond, eqb, leb, length, Option, None, Some}
use Rattle.inst.specs.declared.Reg.{Reg}
use Rattle.steps.specs.Facts.{Facts}
use Rattle.steps.specs.Note.{Known, with_value_if, with_copy, source_of, note_move}
use Rattle.note_entries.specs.declared.Known.{Known as Held}

-- Move, with its source as it is written
abbrev pub moved : Facts → ℕ → ℕ → Known → Known
moved f d s k = cond (eqb d s) k (note_move f d (source_of k s) k)

-- what is learnt of a register is added: its value, and the register that it copies
abbrev pub with_source : ℕ → Option Reg → Known → Known
with_source d None k = k
with_source d (Some s) k = with_copy d s.0 k

abbrev pub learnt : ℕ → Option ℕ → Option Reg → Known → Known
learnt d v s k = with_source d s (with_value_if d v k)

-- room for one more entry of each
pub record Roomy (k : Held) : Type 0 where
  pub known-fit : k.values.n < length k.values.words.now / 2
  pub copy-fit : k.copies.n < length k.copies.words.now / 2

-- two words of each slice for each of n instructions
abbrev pub enough : ℕ → List ℕ → List ℕ → Bool
enough n known copy = leb n (length known / 2) && leb n (length copy / 2)
