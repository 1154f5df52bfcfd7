-- Storage, not the paper's: how two slices represent the known values and the copies that `note` gathers.
-- An entry is two words, a register and its value, or a register and the source that it copies.
use Rattle.std.specs.Prelude.{ℕ, ◌+◌, ◌/◌, ◌≤◌, ◌≡◌, List, [], ◌∷◌, Bool, cond, ltb, length, take, Option, Some, None}
use Rattle.std.specs.Borrow.{MutBor}
use Rattle.steps.specs.Note as note
use Rattle.note_entries.specs.declared.entries.Entries.{Entries}
use Rattle.note_entries.specs.declared.Known.{Known}

-- the pairs that some words hold
unfoldable pub pairs : {W : Type 0} → List W → List (W × W)
pairs [] = []
pairs (x ∷ []) = []
pairs (x ∷ y ∷ l) = (x, y) ∷ pairs l

abbrev pub listed : {W : Type 0} → Entries W → List (W × W)
listed e = take e.n (pairs e.words.now)

-- room for one more entry
abbrev pub room : {W : Type 0} → Entries W → Bool
room e = ltb e.n (length e.words.now / 2)

-- what the first entry of a word says
unfoldable pub first_with : {W : Type 0} → (W → W → Bool) → W → List (W × W) → Option W
first_with eq r [] = None
first_with eq r (x ∷ xs) = cond (eq x.0 r) (Some x.1) (first_with eq r xs)

-- the entries lie in a lent slice, and it is as long as it was
pub record Lent {W : Type 0} (s : MutBor (List W)) (e : Entries W) : Type 0 where
  pub same : e.words.ghost_name ≡ s.ghost_name
  pub long : length e.words.now ≡ length s.now

-- the same slice with at most m entries more
pub record Keeps {W : Type 0} (m : ℕ) (z e : Entries W) : Type 0 where
  pub same : z.words.ghost_name ≡ e.words.ghost_name
  pub count : z.n ≤ e.n + m
  pub long : length z.words.now ≡ length e.words.now

abbrev pub known_in : Known → note.Known
known_in k = record { values = listed k.values; copies = listed k.copies }

-- what n values and m copies say that lie in two lists of words
abbrev pub held_in : ℕ → ℕ → List ℕ → List ℕ → note.Known
held_in n m values copies = record { values = take n (pairs values); copies = take m (pairs copies) }

pub record LentBoth (s t : MutBor (List ℕ)) (k : Known) : Type 0 where
  pub values : Lent s k.values
  pub copies : Lent t k.copies

pub record Grows (m j : ℕ) (z k : Known) : Type 0 where
  pub values : Keeps m z.values k.values
  pub copies : Keeps j z.copies k.copies
