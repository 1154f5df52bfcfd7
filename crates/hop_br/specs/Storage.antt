-- Storage, not the paper's: what a hop of a Br gets, and how it leaves code, block table and the new registers' kinds.
use Rattle.std.specs.Prelude.{ℕ, suc, ◌+◌, min, List, [], ◌∷◌, false, length, take, set, Option}
use Rattle.inst.specs.declared.Code.{Code}
use Rattle.procedure.specs.Procedure.{codes_of}
use Rattle.blocks.specs.Blocks.{block_bytes}
use Rattle.steps.specs.Thread.{Work}
use Rattle.steps.specs.Copy.{copy_of, kinds_of}
use Rattle.facts.specs.Storage.{kinds_in, facts_in}
use Rattle.arena.specs.Arena.{Arena, arena, topped, to_end, pop, push_all}

-- the blocks, and how many instructions were appended by copying
abbrev pub grown_to : List (List Code) → ℕ → Work
grown_to P n = record { blocks = P; kinds = []; grown = n; edited = false }

-- some kinds written from a place on, as far as there is room
unfoldable pub kinds_put : List ℕ → ℕ → List ℕ → List ℕ
kinds_put b at [] = b
kinds_put b at (k ∷ ks) = kinds_put (set b at k) (suc at) ks

-- the number of the next new register, at most 16 bits
abbrev pub next_in : List ℕ → ℕ → ℕ
next_in facts fresh = min (length (kinds_in facts) + fresh) 65535

-- the new registers, at most 65535
abbrev pub fresh_to : ℕ → ℕ → ℕ
fresh_to fresh n = min (fresh + n) 65535

-- the first four instructions of block l
abbrev pub target_in : Arena → ℕ → List Code
target_in s l = take 4 (codes_of (block_bytes s.work s.table l))

-- its copy, after `fresh` new registers were given, and the kinds of the copy's own new registers
module _ (facts : List ℕ) (body : Option ℕ) (budget : ℕ) where
  abbrev pub copy_in : ℕ → List Code → List Code
  copy_in fresh c = copy_of (facts_in facts body budget) c (next_in facts fresh)

  abbrev pub given_in : List Code → List ℕ
  given_in c = kinds_of (facts_in facts body budget) c

-- block a without its last record
unfoldable pub cut : ℕ → Arena → Arena
cut a s =
    let t = pop a (topped s.table s.top) in
    arena s.work t.table t.top

-- block a, moved to the top, with some code in place of its last record
unfoldable pub replaced : ℕ → List Code → Arena → Arena
replaced a c s = push_all a c (cut a (to_end a s))

-- the arena and the kinds afterwards, how many instructions were added, and how many new registers were given so far
pub record Left : Type 0 where
  pub blocks : Arena
  pub kinds : List ℕ
  pub n : ℕ
  pub fresh : ℕ

abbrev pub left : Arena → List ℕ → ℕ → ℕ → Left
left blocks kinds n fresh = record { blocks = blocks; kinds = kinds; n = n; fresh = fresh }

-- the Br at the end of block a replaced by block l's code
abbrev pub join_of : List ℕ → Option ℕ → ℕ → ℕ → ℕ → ℕ → Arena → List ℕ → Left
join_of facts body budget a l fresh s kinds =
    let c = target_in s l in
    let new = copy_in facts body budget fresh c in
    let given = given_in facts body budget c in
    left (replaced a new s) (kinds_put kinds fresh given) (length new) (fresh_to fresh (length given))
