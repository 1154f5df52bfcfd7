-- Document 01, "Emit".
use Rattle.std.specs.Prelude.{ℕ, suc, List, [], ◌∷◌, ◌++◌, map, Bool, true, false, ◌&&◌, ◌||◌, not, cond, leb, length}
use Rattle.inst.specs.declared.Code.{Code}
use Rattle.inst.specs.declared.StmtId.{StmtId}
use Rattle.inst.specs.declared.Inst.TheVariants as i
use Rattle.codec.specs.Codec.{block_of}
use Rattle.roles.specs.Roles.{defs_of}
use Rattle.procedure.specs.Procedure.{Table, table_at}
use Rattle.procedure.specs.Lists.{any_of}
use Rattle.paths.specs.Paths.{reached_from}
use Rattle.ends.specs.declared.End.{End}
use Rattle.ends.specs.declared.End.TheVariants as e
use Rattle.ends.specs.Forms.{fixed_of, is_fixed}
use Rattle.ends.specs.Ends.{end_of}
use Rattle.steps.specs.Facts.{Facts}

abbrev pub arm_targets : Table → List ℕ
arm_targets t = map (λ a. a.target) t.arms ++ (t.default ∷ [])

-- "over Br, CondBr and arms"
abbrev pub leads : List Table → End → List ℕ
leads tables (e.Br l) = l.0 ∷ []
leads tables (e.CondBr c t f) = t.0 ∷ f.0 ∷ []
leads tables (e.Case n) = arm_targets (table_at tables n)
leads tables e.Other = []

-- where the end of each block leads
abbrev pub edges_of : List Table → List (List Code) → List (List ℕ)
edges_of tables P = map (λ c. leads tables (end_of c)) P

-- "From block 0 over Br, CondBr and arms"; "one mark for each of 160 blocks, all clear at the start"
unfoldable pub reached : List Table → List (List Code) → List Bool
reached tables P = reached_from (edges_of tables P) 0

abbrev pub is_jump : End → Bool
is_jump (e.Br l) = true
is_jump (e.CondBr c t f) = true
is_jump (e.Case n) = false
is_jump e.Other = false

abbrev pub is_last : List (List Code) → Bool
is_last [] = true
is_last (c ∷ cs) = false

-- "An unreached block stays if last, or one instruction and neither Br nor CondBr."
unfoldable pub stays : Bool → List (List Code) → List Code → Bool
stays mark after c = mark || is_last after || leb (length c) 1 && not (is_jump (end_of c))

abbrev pub first_stmt : List Code → StmtId
first_stmt [] = record { 0 = 0 }
first_stmt (x ∷ c) = x.stmt

-- "Others become a Br to the next block with their first statement"
abbrev pub emptied : ℕ → List Code → List Code
emptied b c = record { inst = i.Br (block_of (suc b)); stmt = first_stmt c } ∷ []

-- the blocks from block b on, with their marks
unfoldable pub empty_from : ℕ → List Bool → List (List Code) → List (List Code)
empty_from b marks [] = []
empty_from b [] (c ∷ cs) = c ∷ cs
empty_from b (m ∷ ms) (c ∷ cs) = cond (stays m cs c) c (emptied b c) ∷ empty_from (suc b) ms cs

-- "their singly written Const, ConstF and AddrOf"
abbrev pub is_rescued : Facts → Code → Bool
is_rescued f x = is_fixed (fixed_of x.inst) && any_of f.single (defs_of x.inst)

unfoldable pub rescued_of : Facts → List Code → List Code
rescued_of f [] = []
rescued_of f (x ∷ c) = cond (is_rescued f x) (x ∷ rescued_of f c) (rescued_of f c)

-- "in order": of the blocks that become a Br
unfoldable pub rescues : Facts → List Bool → List (List Code) → List Code
rescues f marks [] = []
rescues f [] (c ∷ cs) = []
rescues f (m ∷ ms) (c ∷ cs) = cond (stays m cs c) [] (rescued_of f c) ++ rescues f ms cs

-- "move, in order, to the front of block 0"
abbrev pub onto_front : List Code → List (List Code) → List (List Code)
onto_front k [] = []
onto_front k (c ∷ cs) = (k ++ c) ∷ cs
