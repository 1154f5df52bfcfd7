-- What is put into a line leaves it the same text; so do two steps that each leave it.
use Rattle.std.proofs.Common.{◌≡◌, ℕ, List, length, ap, ◌∙◌}
use Rattle.std.proofs.Math.Seq.{length-sets}
use Rattle.std.specs.Borrow.{MutBor}
use Rattle.line.specs.declared.Line.{Line}
use Rattle.line.specs.Line.{written, Put, Ended}
use Rattle.replies.specs.Kept.{SameText, SameLine}

module _ {line line' : Line} where
  pub put_keeps : {text : List ℕ} → Put line text line' → SameText line line'
  unfolding written
  put_keeps {text} p = record { same = p.same; long = ap length p.bytes ∙ length-sets line.bytes.now line.at text }

  pub ended_keeps : Ended line line' → SameText line line'
  ended_keeps p = put_keeps p.put

  both_keep : {line'' : Line} → SameText line line' → SameText line' line'' → SameText line line''
  both_keep p q = record { same = q.same ∙ p.same; long = q.long ∙ p.long }

-- a text is put into the line, and the next step leaves it the same
pub next : {a b c d : MutBor Line} {text : List ℕ} → SameLine a b → c.ghost_name ≡ b.ghost_name → Put b.now text c.now → SameLine c d → SameLine a d
next p same put q = record { same = q.same ∙ same ∙ p.same; text = both_keep p.text (both_keep (put_keeps put) q.text) }
