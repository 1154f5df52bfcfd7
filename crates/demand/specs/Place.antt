-- Where a run is: the block of its next instruction, and the place in the block.
use Rattle.std.specs.Prelude.{ℕ, zero, suc, [], ◌∷◌}
use Rattle.procedure.specs.Procedure.{Procedure}
use Rattle.machine.specs.Machine.{Address, Outside, Effect, writes, goes, ends, asks, State, at, done, effect_of, step}

pub record Place : Type 0 where
  pub block : ℕ
  pub place : ℕ

abbrev pub onward : Place → Place
onward w = record { block = w.block; place = suc w.place }

module _ (outside : Outside) (address : Address) (p : Procedure) where
  abbrev pub after : Effect → Place → Place
  after (writes vs) w = onward w
  after (goes b) w = record { block = b; place = 0 }
  after (ends e) w = w
  after (asks a) w = onward w

  abbrev pub next_place : State → Place → Place
  next_place (at [] g h) w = w
  next_place (at (c ∷ cs) g h) w = after (effect_of outside address p c g) w
  next_place (done h e) w = w

  -- after n instructions from a state at a place
  abbrev pub place_at : ℕ → State → Place → Place
  place_at zero s w = w
  place_at (suc n) s w = place_at n (step outside address p s) (next_place s w)
