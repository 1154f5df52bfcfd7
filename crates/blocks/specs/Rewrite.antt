-- A block without its last record, and with its last record rewritten, over the bytes.
use Rattle.std.specs.Prelude.{ℕ, ◌*◌, ◌-◌, ◌/◌, ◌≤◌, ◌<◌, ◌≡◌, cond, List, [], ◌∷◌, ltb, length, take}
use Rattle.records.specs.declared.Record.{Record}
use Rattle.records.specs.Record.{records_of, record_at}
use Rattle.put_record.specs.Store.{put_of}
use Rattle.read.specs.Structure.{tiled}
use Rattle.inst.specs.declared.Inst.{Inst}
use Rattle.codec.specs.Codec.{rewritten_record}

-- all whole records but the last
abbrev pub front_bytes : List ℕ → List ℕ
front_bytes code = take (32 * (length code / 32 - 1)) code

-- the code with the last record of a block rewritten; unchanged if the block is empty or ends past the code
unfoldable pub end_rewritten : List ℕ → Record → Inst → List ℕ
end_rewritten code r i =
    cond (ltb r.p1 r.p2) (put_of code (r.p2 - 1) (rewritten_record (record_at code (r.p2 - 1)) i)) code

-- the last element of a list replaced
unfoldable pub last_by : {A : Type 0} → (A → A) → List A → List A
last_by f [] = []
last_by f (x ∷ []) = f x ∷ []
last_by f (x ∷ y ∷ l) = x ∷ last_by f (y ∷ l)

-- place x of the code belongs to a block
pub record Holds (r : Record) (x : ℕ) : Type 0 where
  pub from : r.p1 ≤ x
  pub to : x < r.p2

-- the blocks of a table lie within the first n records, and no place belongs to two blocks
pub record Apart (n : ℕ) (table : List ℕ) : Type 0 where
  pub within : (k x : ℕ) → Holds (record_at table k) x → x < n
  pub alone : (j k x : ℕ) → Holds (record_at table j) x → Holds (record_at table k) x → j ≡ k

-- "blocks tile the code", as Read checks it
abbrev pub Tiled : List ℕ → List ℕ → Type 0
Tiled code table = tiled (length code / 32) (records_of table) ≡ length (records_of table)
