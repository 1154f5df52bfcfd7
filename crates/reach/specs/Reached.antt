-- Document 01, "Emit": "From block 0 over Br, CondBr and arms", over the bytes of code, block table and arms.
use Rattle.std.specs.Prelude.{ℕ, ◌-◌, List, [], ◌∷◌, ◌++◌, map, Bool, false, cond, eqb, length, take, replicate}
use Rattle.records.specs.declared.Record.{Record}
use Rattle.records.specs.Record.{records_of}
use Rattle.read.specs.Structure.{is_default}
use Rattle.paths.specs.Paths.{reached_from}
use Rattle.ends.specs.declared.End.{End}
use Rattle.ends.specs.declared.End.TheVariants as e
use Rattle.ends.specs.Ends.{end_of}
use Rattle.blocks.specs.Blocks.{blocks_of}

-- "Arm: p1 table, .. p6 target; kind 1 is the default": the targets of table n, up to its default
unfoldable pub targets_in : ℕ → List Record → List ℕ
targets_in n [] = []
targets_in n (r ∷ rs) = cond (eqb r.p1 n) (r.p6 ∷ cond (is_default r) [] (targets_in n rs)) (targets_in n rs)

-- where an end leads
abbrev pub leads_in : List Record → End → List ℕ
leads_in arms (e.Br l) = l.0 ∷ []
leads_in arms (e.CondBr c t f) = t.0 ∷ f.0 ∷ []
leads_in arms (e.Case n) = targets_in n arms
leads_in arms e.Other = []

-- where the end of each block leads
abbrev pub edges_in : List ℕ → List ℕ → List ℕ → List (List ℕ)
edges_in code table arms = map (λ c. leads_in (records_of arms) (end_of c)) (blocks_of code table)

-- "one mark for each of 160 blocks, all clear at the start": those past the last block stay clear
abbrev pub marks_of : List (List ℕ) → List Bool
marks_of edges = reached_from edges 0 ++ replicate (160 - length edges) false

-- the marks of the first 160 blocks of a table
unfoldable pub seen_in : List ℕ → List ℕ → List ℕ → List Bool
seen_in code table arms = marks_of (take 160 (edges_in code table arms))
