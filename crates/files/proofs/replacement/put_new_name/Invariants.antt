use Rattle.std.proofs.Common.{◌≡◌}
use Rattle.files.proofs.replacement.put_new_name.Given as goal

-- the line is still in the same room
abbrev pub invariant-loop-b : goal.invariant-loop-b
invariant-loop-b g l = l.line.bytes.ghost_name ≡ l.initial.line.bytes.ghost_name
