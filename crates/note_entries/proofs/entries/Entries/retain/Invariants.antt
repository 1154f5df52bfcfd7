use Rattle.std.proofs.Common.{Bool, length, ◌≡◌, ◌≤◌, ◌/◌}
use Rattle.note_entries.proofs.Pairs.{Packed}
use Rattle.note_entries.proofs.entries.Entries.retain.Given as goal

abbrev pub invariant-loop-k : goal.invariant-loop-k
invariant-loop-k g l =
    Packed (λ p. (x y : _) (b : Bool) → goal.F-post g l.kept x y b → b ≡ p (x, y)) l.initial.self.words.now l.self.words.now l.k l.z
    × (l.n ≤ length l.initial.self.words.now / 2)
    × (l.self.words.ghost_name ≡ l.initial.self.words.ghost_name)
