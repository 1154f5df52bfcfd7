-- Storage, not the paper's: how the hops leave code, block table, the new registers' kinds and the counts, for any bytes.
use Rattle.std.specs.Prelude.{ℕ, zero, suc, ◌+◌, ◌/◌, min, List, [], Bool, true, false, ◌&&◌, leb, length, get_or, Option}
use Rattle.ends.specs.declared.End.{End}
use Rattle.ends.specs.declared.End.TheVariants as e
use Rattle.ends.specs.Ends.{end_of}
use Rattle.blocks.specs.Blocks.{blocks_of}
use Rattle.steps.specs.Thread.{stops}
use Rattle.facts.specs.Storage.{facts_in}
use Rattle.hop_cond_br.specs.declared.Turn.{Turn}
use Rattle.hop_cond_br.specs.declared.Turn.TheVariants as u
use Rattle.hop_cond_br.specs.Storage.{Turned, before, turned_in}
use Rattle.arena.specs.Arena.{arena}
use Rattle.hop_br.specs.Storage.{Left, grown_to, join_of}
use Rattle.thread.specs.declared.Threaded.{Threaded}

-- the bytes, and the counts
pub record Store : Type 0 where
  pub work : List ℕ
  pub table : List ℕ
  pub kinds : List ℕ
  pub at : Threaded

abbrev pub store : List ℕ → List ℕ → List ℕ → Threaded → Store
store work table kinds at = record { work = work; table = table; kinds = kinds; at = at }

-- the counts after a hop, and whether the next hop follows
pub record Hopped : Type 0 where
  pub at : Threaded
  pub more : Bool

-- what a hop leaves, and whether the next hop follows
pub record Hopping : Type 0 where
  pub to : Store
  pub more : Bool

abbrev pub hopped : Threaded → Bool → Hopped
hopped at more = record { at = at; more = more }

abbrev pub hopping : List ℕ → List ℕ → List ℕ → Hopped → Hopping
hopping work table kinds z = record { to = store work table kinds z.at; more = z.more }

abbrev pub stay_in : Store → Hopping
stay_in s = record { to = s; more = false }

-- the counts once some block was edited
abbrev pub edited_at : Threaded → Threaded
edited_at s = record { top = s.top; grown = s.grown; fresh = s.fresh; edited = true }

-- whether the hops go on after a CondBr
abbrev pub turn_at : Turn → Threaded → Hopped
turn_at u.Stay s = hopped s false
turn_at u.Last s = hopped (edited_at s) false
turn_at u.Next s = hopped (edited_at s) true

abbrev pub turned_at : Store → Turned → Hopping
turned_at s z = hopping z.code s.table s.kinds (turn_at z.turn s.at)

-- as many blocks of a table as a BlockId can name
abbrev pub nameable : List ℕ → ℕ
nameable table = min (length table / 32) 4294967296

abbrev pub joined_at : Threaded → Left → Hopping
joined_at s z =
    let at : Threaded = record { top = z.blocks.top; grown = s.grown + z.n; fresh = z.fresh; edited = true } in
    hopping z.blocks.work z.blocks.table z.kinds (hopped at true)

-- a file's facts, its body and budget, and how many words there are for known values and for copies
module _ (facts : List ℕ) (body : Option ℕ) (budget known copy : ℕ) where
  abbrev pub append_in : Bool → Store → ℕ → ℕ → Hopping
  append_in true s a l = stay_in s
  append_in false s a l =
      joined_at s.at (join_of facts body budget a l s.at.fresh (arena s.work s.table s.at.top) s.kinds)

  -- Br l
  unfoldable pub hop_br_in : Store → ℕ → ℕ → Hopping
  hop_br_in s a l = append_in (stops (facts_in facts body budget) (grown_to (blocks_of s.work s.table) s.at.grown) a l) s a l

  -- CondBr c t f
  unfoldable pub hop_cond_br_in : Store → ℕ → ℕ → ℕ → ℕ → Hopping
  hop_cond_br_in s a c t f =
      let n = length (before s.table a s.work) in
      turned_at s (turned_in s.table a facts body s.work c t f (leb n (known / 2) && leb n (copy / 2)))

  abbrev pub hop_at_in : Store → ℕ → End → Hopping
  hop_at_in s a (e.Br l) = hop_br_in s a l.0
  hop_at_in s a (e.CondBr c t f) = hop_cond_br_in s a c.0 t.0 f.0
  hop_at_in s a (e.Case n) = stay_in s
  hop_at_in s a e.Other = stay_in s

  -- a hop of block a
  unfoldable pub hop_in : Store → ℕ → Hopping
  hop_in s a = hop_at_in s a (end_of (get_or (blocks_of s.work s.table) a []))

  abbrev pub onward_in : Bool → Store → (Store → Store) → Store
  onward_in true s rest = rest s
  onward_in false s rest = s

  unfoldable pub hops_in : ℕ → ℕ → Store → Store
  hops_in zero a s = s
  hops_in (suc k) a s = onward_in (hop_in s a).more (hop_in s a).to (hops_in k a)

  -- n blocks from block a on
  unfoldable pub thread_from_in : ℕ → ℕ → Store → Store
  thread_from_in zero a s = s
  thread_from_in (suc n) a s = thread_from_in n (suc a) (hops_in 6 a s)

  abbrev pub thread_in : List ℕ → List ℕ → List ℕ → ℕ → Store
  thread_in work table kinds top =
      thread_from_in (nameable table) 0 (store work table kinds (record { top = top; grown = 0; fresh = 0; edited = false }))
