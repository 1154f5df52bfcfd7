-- Storage, not the paper's: what an answer keeps of the line that it is lent.
use Rattle.std.specs.Prelude.{◌≡◌, length}
use Rattle.std.specs.Borrow.{MutBor}
use Rattle.line.specs.declared.Line.{Line}

-- the same text, as long as before
pub record SameText (line line' : Line) : Type 0 where
  pub same : line'.bytes.ghost_name ≡ line.bytes.ghost_name
  pub long : length line'.bytes.now ≡ length line.bytes.now

-- the same line, and in it the same text
pub record SameLine (line line' : MutBor Line) : Type 0 where
  pub same : line'.ghost_name ≡ line.ghost_name
  pub text : SameText line.now line'.now
