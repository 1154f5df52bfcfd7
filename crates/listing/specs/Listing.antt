-- The lines of the listing, in bytes: each is a word and numbers, with a space between them.
use Rattle.std.specs.Prelude.{ℕ, List, [], ◌∷◌, ◌++◌}
use Rattle.records.specs.declared.Record.{Record}
use Rattle.inst.specs.declared.Block.{Block}
use Rattle.steps.specs.Shorten.{Answer}
use Rattle.line.specs.Line.{decimal}

-- a word and a number
abbrev pub counted : List ℕ → ℕ → List ℕ
counted word n = word ++ decimal n

abbrev pub field : ℕ → List ℕ
field n = counted (32 ∷ []) n

unfoldable pub pair : ℕ → ℕ → List ℕ
pair a b = field a ++ field b

-- 'moved 1 grown 2 fresh 0 rescued 0'
unfoldable pub moved_text : Answer → List ℕ
moved_text a = counted (109 ∷ 111 ∷ 118 ∷ 101 ∷ 100 ∷ 32 ∷ []) a.moved ++ counted (32 ∷ 103 ∷ 114 ∷ 111 ∷ 119 ∷ 110 ∷ 32 ∷ []) a.grown

unfoldable pub fresh_text : Answer → List ℕ
fresh_text a = counted (32 ∷ 102 ∷ 114 ∷ 101 ∷ 115 ∷ 104 ∷ 32 ∷ []) a.fresh ++ counted (32 ∷ 114 ∷ 101 ∷ 115 ∷ 99 ∷ 117 ∷ 101 ∷ 100 ∷ 32 ∷ []) a.rescued

unfoldable pub counts_line : Answer → List ℕ
counts_line a = (moved_text a ++ fresh_text a) ++ (10 ∷ [])

-- 'moved 1 grown 2 fresh 0 rescued 0 price 3'
unfoldable pub priced_line : Answer → ℕ → List ℕ
priced_line a price = ((moved_text a ++ fresh_text a) ++ counted (32 ∷ 112 ∷ 114 ∷ 105 ∷ 99 ∷ 101 ∷ 32 ∷ []) price) ++ (10 ∷ [])

-- 'reg 0 2'
unfoldable pub reg_line : ℕ → ℕ → List ℕ
reg_line i kind = (counted (114 ∷ 101 ∷ 103 ∷ 32 ∷ []) i ++ field kind) ++ (10 ∷ [])

-- 'block 0 0 2'
unfoldable pub block_line : ℕ → Block → List ℕ
block_line i b = (counted (98 ∷ 108 ∷ 111 ∷ 99 ∷ 107 ∷ 32 ∷ []) i ++ pair b.start b.end) ++ (10 ∷ [])

-- 'code 0 23 0 10 0 0 0 0 0 0'
unfoldable pub code_text : ℕ → Record → List ℕ
code_text i r = (counted (99 ∷ 111 ∷ 100 ∷ 101 ∷ 32 ∷ []) i ++ pair r.kind r.op) ++ field r.stmt

unfoldable pub places_text : Record → List ℕ
places_text r = (pair r.p1 r.p2 ++ pair r.p3 r.p4) ++ pair r.p5 r.p6

unfoldable pub code_line : ℕ → Record → List ℕ
code_line i r = (code_text i r ++ places_text r) ++ (10 ∷ [])
