-- Document 01, "Steps": the sizes of what `run` leaves.
use Rattle.std.specs.Prelude.{ℕ, ◌+◌, ◌/◌, ◌≤◌, ◌≡◌, length}
use Rattle.procedure.specs.Procedure.{Procedure}
use Rattle.procedure.specs.Lists.{joined}
use Rattle.steps.specs.Run.{Shortened}

-- how many instructions a procedure has
abbrev pub code_size : Procedure → ℕ
code_size p = length (joined p.blocks)

-- "Output has at most n + n/2 + 36 instructions."
pub record Sized (p : Procedure) (s : Shortened) : Type 0 where
  pub code : code_size s.procedure ≤ code_size p + code_size p / 2 + 36
  pub grown : s.grown ≤ code_size p / 2 + 36
  pub fresh : s.fresh ≤ s.grown
  pub rescued : s.rescued ≤ code_size p + code_size p / 2 + 36
  pub registers : length s.procedure.registers ≡ length p.registers + s.fresh
  pub blocks : length s.procedure.blocks ≡ length p.blocks
