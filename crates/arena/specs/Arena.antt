-- The work storage of the branch steps: the blocks are anywhere below the top, and one block grows at the top.
use Rattle.std.specs.Prelude.{ℕ, ◌≡◌, ◌+◌, ◌*◌, ◌-◌, ◌/◌, min, Bool, true, false, ◌&&◌, not, List, [], ◌∷◌, eqb, ltb, leb, length, drop}
use Rattle.std.proofs.Math.Seq.{paste}
use Rattle.records.specs.declared.Record.{Record}
use Rattle.records.specs.Record.{record_at}
use Rattle.put_record.specs.Store.{put_of}
use Rattle.inst.specs.declared.Code.{Code}
use Rattle.codec.specs.Codec.{record_of}
use Rattle.items.specs.Items.{block_record}
use Rattle.arena.specs.declared.Space.{Space}

-- the bytes of the code and of the block table, and how many records are in use
pub record Arena : Type 0 where
  pub work : List ℕ
  pub table : List ℕ
  pub top : ℕ

abbrev pub arena : List ℕ → List ℕ → ℕ → Arena
arena work table top = record { work = work; table = table; top = top }

-- what lent space holds
abbrev pub arena_in : Space → Arena
arena_in s = arena s.work.now s.table.now s.top

-- it is still the same two slices
abbrev pub SameSlices : Space → Space → Type 0
SameSlices s t = (t.work.ghost_name ≡ s.work.ghost_name) × (t.table.ghost_name ≡ s.table.ghost_name)

-- how many records a block has
abbrev pub size_of : Record → ℕ
size_of r = r.p2 - r.p1

-- a block that ends at the top
abbrev pub is_last : Record → ℕ → Bool
is_last r top = leb r.p1 r.p2 && eqb r.p2 top

-- there is room for n more records, at places that 32 bits can number
abbrev pub room : List ℕ → ℕ → ℕ → Bool
room work top n = leb (top + n) (min (length work / 32) 4294967295)

-- "p1 start, p2 end (exclusive)" of block k written
abbrev pub pointed : List ℕ → ℕ → ℕ → ℕ → List ℕ
pointed table k start end = put_of table k (block_record (record { start = start; end = end }))

-- a block that is moved to the top: it isn't there yet, lies below it, and has room there
abbrev pub moves : List ℕ → Record → ℕ → Bool
moves work r top = not (is_last r top) && (leb (r.p1 + size_of r) top && room work top (size_of r))

-- the records of a block copied to the top
abbrev pub copied : List ℕ → Record → ℕ → List ℕ
copied work r top = paste work (32 * top) (drop (32 * r.p1) work) (32 * size_of r)

abbrev pub move_if : Bool → ℕ → Record → Arena → Arena
move_if true k r s = arena (copied s.work r s.top) (pointed s.table k s.top (s.top + size_of r)) (s.top + size_of r)
move_if false k r s = s

-- block k moved to the top
unfoldable pub to_end : ℕ → Arena → Arena
to_end k s =
    let r = record_at s.table k in
    move_if (moves s.work r s.top) k r s

-- only the block table and the top: all that changes when a block loses a record
pub record Topped : Type 0 where
  pub table : List ℕ
  pub top : ℕ

abbrev pub topped : List ℕ → ℕ → Topped
topped table top = record { table = table; top = top }

-- a block that ends at the top and holds a record
abbrev pub popped : Record → ℕ → Bool
popped r top = ltb r.p1 r.p2 && eqb r.p2 top

abbrev pub pop_if : Bool → ℕ → Record → Topped → Topped
pop_if true k r s = topped (pointed s.table k r.p1 (r.p2 - 1)) (s.top - 1)
pop_if false k r s = s

abbrev pub topped_in : Space → Topped
topped_in s = topped s.table.now s.top

-- block k without its last record
unfoldable pub pop : ℕ → Topped → Topped
pop k s =
    let r = record_at s.table k in
    pop_if (popped r s.top) k r s

-- a block that ends at the top, with room for one more record
abbrev pub grows : List ℕ → Record → ℕ → Bool
grows work r top = is_last r top && room work top 1

abbrev pub push_if : Bool → ℕ → Record → Code → Arena → Arena
push_if true k r c s = arena (put_of s.work s.top (record_of c)) (pointed s.table k r.p1 (s.top + 1)) (s.top + 1)
push_if false k r c s = s

-- block k, which ends at the top, with one more instruction
unfoldable pub push : ℕ → Code → Arena → Arena
push k c s =
    let r = record_at s.table k in
    push_if (grows s.work r s.top) k r c s

-- with some more instructions, one after the other
unfoldable pub push_all : ℕ → List Code → Arena → Arena
push_all k [] s = s
push_all k (c ∷ cs) s = push_all k cs (push k c s)
