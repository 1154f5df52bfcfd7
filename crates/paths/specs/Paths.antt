-- Document 01, "Tidy": targets "over any number of blocks .. lead to that block". "Emit": "From block 0 over ..".
use Rattle.std.specs.Prelude.{ℕ, zero, suc, ◌+◌, ◌≡◌, List, [], ◌∷◌, ◌++◌, Bool, true, false, ◌||◌, eqb, length, get_or, set, replicate}

-- a number is in a list
abbrev pub is_in : ℕ → List ℕ → Bool
is_in s [] = false
is_in s (t ∷ ts) = eqb t s || is_in s ts

-- edges has the targets of each block
module _ (edges : List (List ℕ)) where
  -- each block of a list is a target of the one before it, and the last one is b
  abbrev pub Path : ℕ → ℕ → List ℕ → Type 0
  Path b a [] = a ≡ b
  Path b a (s ∷ ss) = (is_in s (get_or edges a []) ≡ true) × Path b s ss

  -- block a leads to block b, over any number of blocks
  abbrev pub Leads : ℕ → ℕ → Type 0
  Leads a b = (ss : List ℕ) × Path b a ss

-- how many edges there are
unfoldable pub total : List (List ℕ) → ℕ
total [] = 0
total (x ∷ xs) = length x + total xs

-- the blocks still to be entered, after one that was marked already or wasn't
abbrev pub pushed : Bool → List ℕ → List ℕ → List ℕ
pushed true more stack = stack
pushed false more stack = more ++ stack

-- the walk, over the blocks still to be entered and the marks
unfoldable pub walk : ℕ → List (List ℕ) → List ℕ → List Bool → List Bool
walk zero edges stack marks = marks
walk (suc k) edges [] marks = marks
walk (suc k) edges (b ∷ stack) marks =
    walk k edges (pushed (get_or marks b true) (get_or edges b []) stack) (set marks b true)

-- one mark for each block, set if block a leads to it: a block is entered at most once for each edge, and at the start
unfoldable pub reached_from : List (List ℕ) → ℕ → List Bool
reached_from edges a = walk (suc (total edges)) edges (a ∷ []) (replicate (length edges) false)
