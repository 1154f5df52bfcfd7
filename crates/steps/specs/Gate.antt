-- Document 01, "Gate": "Some Br or CondBr targets its own or an earlier block (`has_back_edge`), and `may_thread` holds."
use Rattle.std.specs.Prelude.{ℕ, suc, List, [], ◌∷◌, Bool, true, false, ◌&&◌, ◌||◌, not, eqb, leb, get_or}
use Rattle.inst.specs.declared.Code.{Code}
use Rattle.procedure.specs.Lists.{any_of}
use Rattle.ends.specs.declared.End.{End}
use Rattle.ends.specs.declared.End.TheVariants as e
use Rattle.ends.specs.Ends.{end_of, lone_of, targets}
use Rattle.steps.specs.Small.{small, latch}

-- for the blocks from block b on
unfoldable pub back_edge_from : ℕ → List (List Code) → Bool
back_edge_from b [] = false
back_edge_from b (c ∷ cs) = any_of (λ t. leb t b) (targets (end_of c)) || back_edge_from (suc b) cs

abbrev pub has_back_edge : List (List Code) → Bool
has_back_edge P = back_edge_from 0 P

abbrev pub is_cond_br : End → Bool
is_cond_br (e.Br to) = false
is_cond_br (e.CondBr c t f) = true
is_cond_br (e.Case n) = false
is_cond_br e.Other = false

-- a block that is small and not a latch, so that Thread may copy it; wide if there is a body
unfoldable pub copied : Bool → List (List Code) → ℕ → Bool
copied wide P l = small (get_or P l []) && not (latch (get_or P l []) (get_or P (suc l) []) l wide)

-- `may_thread`: a Br of block a to a block that is copied, or a CondBr to a lone CondBr
abbrev pub may_hop : Bool → List (List Code) → ℕ → End → Bool
may_hop wide P a (e.Br l) = not (eqb l.0 a) && copied wide P l.0
may_hop wide P a (e.CondBr c t f) = is_cond_br (lone_of (get_or P t.0 [])) || is_cond_br (lone_of (get_or P f.0 []))
may_hop wide P a (e.Case n) = false
may_hop wide P a e.Other = false

-- for the blocks from block a on
unfoldable pub may_thread_from : Bool → List (List Code) → ℕ → List (List Code) → Bool
may_thread_from wide P a [] = false
may_thread_from wide P a (c ∷ cs) = may_hop wide P a (end_of c) || may_thread_from wide P (suc a) cs

abbrev pub may_thread : Bool → List (List Code) → Bool
may_thread wide P = may_thread_from wide P 0 P
