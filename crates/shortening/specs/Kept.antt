-- Storage, not the paper's: what Shorten keeps of the storage that it is lent.
use Rattle.std.specs.Prelude.{◌≡◌, length}
use Rattle.shortening.specs.declared.Storage.{Storage}
use Rattle.shortening.specs.declared.Stage.{Stage}

-- the same six slices, as long as before
pub record SameStorage (s t : Storage) : Type 0 where
  pub work : t.work.ghost_name ≡ s.work.ghost_name
  pub table : t.table.ghost_name ≡ s.table.ghost_name
  pub kinds : t.kinds.ghost_name ≡ s.kinds.ghost_name
  pub known : t.known.ghost_name ≡ s.known.ghost_name
  pub copy : t.copy.ghost_name ≡ s.copy.ghost_name
  pub facts : t.facts.ghost_name ≡ s.facts.ghost_name
  pub work-length : length t.work.now ≡ length s.work.now
  pub table-length : length t.table.now ≡ length s.table.now
  pub kinds-length : length t.kinds.now ≡ length s.kinds.now
  pub known-length : length t.known.now ≡ length s.known.now
  pub copy-length : length t.copy.now ≡ length s.copy.now
  pub facts-length : length t.facts.now ≡ length s.facts.now

-- the same two slices, as long as before
pub record SameStage (s t : Stage) : Type 0 where
  pub code : t.code.ghost_name ≡ s.code.ghost_name
  pub heads : t.heads.ghost_name ≡ s.heads.ghost_name
  pub code-length : length t.code.now ≡ length s.code.now
  pub heads-length : length t.heads.now ≡ length s.heads.now
