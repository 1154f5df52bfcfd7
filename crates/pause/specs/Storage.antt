-- Storage, not the paper's: the number of the body's block, if there is a body.
use Rattle.std.specs.Prelude.{ℕ, Option, option_map}
use Rattle.inst.specs.declared.BlockId.{BlockId}

abbrev pub body_in : Option BlockId → Option ℕ
body_in pause = option_map (λ b. b.0) pause
