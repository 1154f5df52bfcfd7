-- What a procedure held by parts of bytes is after `slice_tests`: the constants are those of its own code.
use Rattle.std.specs.Prelude.{ℕ, ◌≡◌, List, Bool, Option}
use Rattle.procedure.specs.Procedure.{Procedure}
use Rattle.procedure.specs.Lists.{joined}
use Rattle.steps.specs.Facts.{const_of}
use Rattle.steps.specs.Slice.{tests_in, sliced_in, some_test}
use Rattle.steps.specs.Run.{with_blocks}
use Rattle.procedure_parts.specs.Opened.{Parts, recoded, Holds}

abbrev pub kc_of : Procedure → ℕ → Option ℕ
kc_of p = const_of (joined p.blocks)

-- code and block table hold the sliced blocks, and t says whether a Cmp was rewritten
pub record Staged (p : Procedure) (x : Parts) (kinds code heads : List ℕ) (t : Bool) : Type 0 where
  pub holds : Holds (with_blocks p (sliced_in (kc_of p) p.operands p.blocks)) (recoded x code heads) kinds
  pub any : t ≡ some_test (tests_in (kc_of p) p.operands p.blocks)
