use Rattle.std.proofs.Common.{Bool, length, ◌≡◌, ◌≤◌}
use Rattle.std.proofs.lemmas.List.Filters.{FiltersInPlace}
use Rattle.lengths.specs.declared.Row.{Row}
use Rattle.lengths.proofs.Lengths.retain.Given as goal

abbrev pub invariant-loop-k : goal.invariant-loop-k
invariant-loop-k g l = record {
  packed : (p : Row → Bool) → ((x : Row) (b : Bool) → goal.F-post g l.kept x b → b ≡ p x)
      → FiltersInPlace p l.initial.self.rows.now l.self.rows.now l.z l.k;
  behind : l.z ≤ l.k;
  within : l.n ≤ length l.self.rows.now;
}
