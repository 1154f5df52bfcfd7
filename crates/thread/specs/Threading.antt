-- Storage, not the paper's: what lent storage holds while it is threaded.
use Rattle.std.specs.Prelude.{◌≡◌, Bool, true, false}
use Rattle.std.specs.declared.ops.ControlFlow.{ControlFlow}
use Rattle.std.specs.declared.ops.ControlFlow.TheVariants.{Continue, Break}
use Rattle.arena.specs.declared.Space.{Space}
use Rattle.hop_cond_br.specs.declared.Turn.{Turn}
use Rattle.hop_br.specs.declared.Added.{Added}
use Rattle.thread.specs.declared.Threaded.{Threaded}
use Rattle.thread.specs.Storage.{Store, store, Hopping, hopped, turn_at}

abbrev pub at_in : Space → Added → Threaded
at_in s x = record { top = s.top; grown = x.grown; fresh = x.fresh; edited = x.edited }

abbrev pub store_in : Space → Added → Store
store_in s x = store s.work.now s.table.now x.kinds.now (at_in s x)

abbrev pub goes_on : {B T : Type 0} → ControlFlow B T → Bool
goes_on (Continue x) = true
goes_on (Break b) = false

abbrev pub hopping_to : {B T : Type 0} → Store → ControlFlow B T → Hopping
hopping_to s z = record { to = s; more = goes_on z }

-- what a turn adds, and whether the next hop follows
pub record Edited {B T : Type 0} (x : Added) (t : Turn) (y : Added) (z : ControlFlow B T) : Type 0 where
  pub kinds : y.kinds ≡ x.kinds
  pub at : (s : Space) → hopped (at_in s y) (goes_on z) ≡ turn_at t (at_in s x)
