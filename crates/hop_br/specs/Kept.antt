-- Storage, not the paper's: what a hop keeps of what it is lent.
use Rattle.std.specs.Prelude.{◌≡◌}
use Rattle.hop_br.specs.declared.Added.{Added}

-- the kinds are still the same slice
abbrev pub SameKinds : Added → Added → Type 0
SameKinds x y = y.kinds.ghost_name ≡ x.kinds.ghost_name
