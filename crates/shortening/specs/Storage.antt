-- Storage, not the paper's: what is lent to Shorten, and what it holds before the result is written.
use Rattle.std.specs.Prelude.{ℕ, ◌+◌, ◌*◌, ◌/◌, ◌≤◌, min, ◌≡◌, Bool, ◌&&◌, List, map, length}
use Rattle.std.proofs.Math.Seq.{paste}
use Rattle.records.specs.Record.{records_of}
use Rattle.put_record.specs.Store.{Bytes}
use Rattle.procedure.specs.Procedure.{Procedure, first_of}
use Rattle.steps.specs.Run.{Shortened, threaded_form, slice_if, slices}
use Rattle.procedure_parts.specs.Opened.{Parts, Opened}
use Rattle.run.specs.Ran.{Left, opens_in, ran_in, NoStep}
use Rattle.output.specs.declared.Changes.{Changes}

-- some bytes written over the start of others, as far as there is room
abbrev pub fronted : List ℕ → List ℕ → List ℕ
fronted b s = paste b 0 s (min (length s) (length b))

-- the lent storage: code, block table, kinds of new registers, facts, and the lengths of the slices for known values and copies
pub record Lent : Type 0 where
  pub work : List ℕ
  pub table : List ℕ
  pub kinds : List ℕ
  pub facts : List ℕ
  pub known : ℕ
  pub copy : ℕ

abbrev pub lent : List ℕ → List ℕ → List ℕ → List ℕ → ℕ → ℕ → Lent
lent work table kinds facts known copy = record { work = work; table = table; kinds = kinds; facts = facts; known = known; copy = copy }

-- how many instructions a file has
abbrev pub size_of : Parts → ℕ
size_of x = length x.code / 32

-- no step changes the file
abbrev pub NoStepIn : Parts → Type 0
NoStepIn x = NoStep (first_of (map (λ r. r.p1) (records_of x.body))) x.code x.heads

-- the gate is open, before arms are joined
abbrev pub opens_for : Parts → Bool
opens_for x = opens_in (first_of (map (λ r. r.p1) (records_of x.body))) x.code x.heads

-- what `run` leaves before emit
abbrev pub left_in : Parts → Lent → Left
left_in x s =
    ran_in (first_of (map (λ r. r.p1) (records_of x.body))) s.known s.copy x.operands x.registers (size_of x)
    (fronted s.work x.code) (fronted s.table x.heads) s.kinds s.facts

-- storage that is enough for a file
pub record Enough (x : Parts) (s : Lent) : Type 0 where
  pub work : 2 * size_of x + (3 * size_of x / 8 + 27) ≤ length s.work / 32
  pub word : length s.work / 32 ≤ 4294967295
  pub table : length s.table ≡ length x.heads
  pub kinds : size_of x / 2 + 40 ≤ length s.kinds
  pub facts : length s.facts ≡ 5 * (length x.registers / 32)
  pub known : size_of x + 15 ≤ s.known / 2
  pub copy : size_of x + 15 ≤ s.copy / 2

-- and for what Emit leaves of it
pub record Staging (x : Parts) (code heads : ℕ) : Type 0 where
  pub code-room : size_of x + size_of x / 2 + 36 ≤ code / 32
  pub heads-room : heads ≡ length x.heads

-- what `run` left before emit of an opened file, in storage that was enough
pub record LeftOf (p : Procedure) (x : Parts) (l : Left) : Type 0 where
  pub opened : Opened p x
  pub storage : Lent
  pub enough : Enough x storage
  pub bytes : Bytes (fronted storage.work x.code)
  pub is : l ≡ left_in x storage

-- the counts of a result, as they are reported
pub record Tells (s : Shortened) (did : Changes) (fresh : ℕ) : Type 0 where
  pub is-moved : s.moved ≡ did.moved
  pub is-grown : s.grown ≡ did.grown
  pub is-fresh : s.fresh ≡ fresh
  pub is-rescued : s.rescued ≡ did.rescued

-- `run`, or the threaded form where `slice_tests` isn't wanted
abbrev pub form_with : Bool → Procedure → Shortened
form_with wanted p = (slice_if (wanted && slices p) (threaded_form p)).form
