-- Document 01, "File" and "Read", 2 and 3: the records of each class.
use Rattle.std.specs.Prelude.{ℕ, suc, List, [], ◌∷◌, Bool, ◌&&◌, cond, eqb, ltb, leb, length}
use Rattle.records.specs.declared.Record.{Record}
use Rattle.records.specs.Kinds.{right}
use Rattle.layout.specs.Walk.{walk}
use Rattle.layout.specs.declared.Layout.{Layout}

-- "Classes ascend": a record after one of class prev that isn't wrong "in itself or its class order"
abbrev pub in_order : ℕ → Record → Bool
in_order prev r = right r && leb prev r.class

-- how many records come before the first that is wrong in itself or its class order
abbrev pub ordered : List Record → ℕ
ordered rs = walk in_order (λ prev r. r.class) 1 rs

-- the records of a class
unfoldable pub of_class : ℕ → List Record → List Record
of_class c [] = []
of_class c (r ∷ rs) = cond (eqb r.class c) (r ∷ of_class c rs) (of_class c rs)

-- how many records are of a class before c
unfoldable pub before : ℕ → List Record → ℕ
before c [] = 0
before c (r ∷ rs) = cond (ltb r.class c) (suc (before c rs)) (before c rs)

-- if all records are valid and in order: where each class starts and the last ends; else the first record that isn't
abbrev pub layout_of : List Record → Layout
layout_of rs =
    cond (eqb (ordered rs) (length rs))
    (record { blocks = before 2 rs; bodies = before 3 rs; code = before 4 rs; operands = before 5 rs; arms = before 6 rs; end = length rs })
    (record { blocks = 0; bodies = 0; code = 0; operands = 0; arms = 0; end = ordered rs })
