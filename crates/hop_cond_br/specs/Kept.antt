-- Storage, not the paper's: what a hop of a CondBr keeps of what it is lent.
use Rattle.std.specs.Prelude.{◌≡◌, length}
use Rattle.hop_cond_br.specs.declared.Room.{Room}

-- the same two slices, as long as before
pub record SameRoom (s t : Room) : Type 0 where
  pub known : t.known.ghost_name ≡ s.known.ghost_name
  pub copy : t.copy.ghost_name ≡ s.copy.ghost_name
  pub known-length : length t.known.now ≡ length s.known.now
  pub copy-length : length t.copy.now ≡ length s.copy.now
