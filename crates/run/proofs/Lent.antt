-- What `run` is lent: an opened file's code and block table, and room.
use Prim.Native.Nat.{ℕ, ◌+◌, ◌*◌, ◌/◌, ◌≤◌}
use native.Mathlib.Omega.{arith}
use mathlib.Core.Path.{◌≡◌}
use mathlib.Core.List.{List}
use Rattle.std.proofs.Common.{Option}
use lib.ListN.{length, take}
use Rattle.put_record.specs.Store.{Bytes}
use Rattle.procedure.specs.Procedure.{Procedure}
use Rattle.procedure.specs.Lists.{joined}
use Rattle.procedure_parts.specs.Opened.{Parts, Opened}

-- the code stands first in the work
pub record Held (p : Procedure) (x : Parts) (work : List ℕ) : Type 0 where
  pub opened : Opened p x
  pub bytes : Bytes work
  pub code : take (length x.code) work ≡ x.code
  pub fit : length (joined p.blocks) ≤ length work / 32

pub record Lent (p : Procedure) (x : Parts) (body : Option ℕ) (known copy n : ℕ) (work table kinds facts : List ℕ) : Type 0 where
  pub opened : Opened p x
  pub body_is : body ≡ p.body
  pub n-is : n ≡ length (joined p.blocks)
  pub code : take (length x.code) work ≡ x.code
  pub bytes : Bytes work
  pub heads : table ≡ x.heads
  pub space : 2 * length (joined p.blocks) + (3 * length (joined p.blocks) / 8 + 27) ≤ length work / 32
  pub words : length work / 32 ≤ 4294967295
  pub registers : length (joined p.blocks) / 2 + 40 ≤ length kinds
  pub five : length facts ≡ 5 * length p.registers
  pub known-words : length (joined p.blocks) + 15 ≤ known / 2
  pub copy-words : length (joined p.blocks) + 15 ≤ copy / 2

pub held : {p : Procedure} {x : Parts} {body : Option ℕ} {known copy n : ℕ} {work table kinds facts : List ℕ}
    → Lent p x body known copy n work table kinds facts → Held p x work
held h = let e = h.space in record { opened = h.opened; bytes = h.bytes; code = h.code; fit = omega arith }
