-- The search for the blocks that one leads to: marks, and a stack of blocks whose targets are still to be pushed.
use Rattle.std.specs.Prelude.{ℕ, ◌+◌, ◌≤◌, min, ◌≡◌, List, [], ◌∷◌, ◌++◌, Bool, true, false, cond, ltb, length, get_or, set, take, replicate}

-- one mark for each of 160 blocks
unfoldable pub clear : List Bool
clear = replicate 160 false

unfoldable pub unmarked : List Bool → ℕ
unmarked [] = 0
unmarked (b ∷ m) = cond b 0 1 + unmarked m

pub record Found : Type 0 where
  pub seen : List Bool
  pub stack : List ℕ

-- marks, and a stack kept in the first places of an array
abbrev pub search_of : List Bool → List ℕ → ℕ → Found
search_of seen stack top = record { seen = seen; stack = take top stack }

-- a block that is one of n and not marked is marked and pushed
unfoldable pub pushed : ℕ → Found → ℕ → Found
pushed n s b =
    cond (ltb b n) (cond (get_or s.seen b false) s (record { seen = set s.seen b true; stack = s.stack ++ (b ∷ []) })) s

unfoldable pub pushed_all : ℕ → Found → List ℕ → Found
pushed_all n s [] = s
pushed_all n s (b ∷ bs) = pushed_all n (pushed n s b) bs

-- a search among n blocks
pub record State : Type 0 where
  pub n : ℕ
  pub found : Found

abbrev pub started : ℕ → State
started n = record { n = min n 160; found = record { seen = clear; stack = [] } }

abbrev pub with_block : State → ℕ → State
with_block s b = record { n = s.n; found = pushed s.n s.found b }

abbrev pub with_blocks : State → List ℕ → State
with_blocks s bs = record { n = s.n; found = pushed_all s.n s.found bs }

-- with one block more on the stack
abbrev pub on_top : State → ℕ → State
on_top s b = record { n = s.n; found = record { seen = s.found.seen; stack = s.found.stack ++ (b ∷ []) } }

-- marks for n blocks, and a stack with room for all that are not marked
pub record Sized (n : ℕ) (seen : List Bool) (stack : List ℕ) : Type 0 where
  pub few : n ≤ 160
  pub marks : length seen ≡ 160
  pub room : length stack + unmarked seen ≤ 160

-- the same for a stack in the first places of an array
pub record Slotted (n : ℕ) (seen : List Bool) (stack : List ℕ) (top : ℕ) : Type 0 where
  pub few : n ≤ 160
  pub marks : length seen ≡ 160
  pub slots : length stack ≡ 160
  pub room : top + unmarked seen ≤ 160
