-- A run stands where its place says, so that a condition can speak of an instruction by block and place.
use Prim.Native.Nat.{ℕ, zero, suc}
use mathlib.Core.Path.{◌≡◌, refl}
use mathlib.Core.List.{List, [], ◌∷◌}
use Rattle.std.proofs.Common.{Option, None, Some}
use lib.ListN.{get_or, drop}
use Rattle.inst.specs.declared.Code.{Code}
use Rattle.procedure.specs.Procedure.{Procedure}
use Rattle.machine.specs.Act.{Act}
use Rattle.machine.specs.Machine.{Regs, Address, Outside, Effect, writes, goes, ends, asks, State, at, done, effect_of, answered, step, run, start}
use Rattle.machine.specs.Machine.{after as afterEffect}
use Rattle.demand.specs.Place.{Place, onward, after, next_place, place_at}

-- one instruction more
pub rest : {A : Type 0} (k : ℕ) (b : List A) (x : A) (c : List A) → x ∷ c ≡ drop k b → c ≡ drop (suc k) b
rest zero [] x c q = cc
rest zero (y ∷ b) x c q = cc
rest (suc k) [] x c q = cc
rest (suc k) (y ∷ b) x c q = rest k b x c q

module _ (outside : Outside) (address : Address) (p : Procedure) where
  -- the code that a state has left is that of its block, from its place on
  abbrev pub Stands : State → Place → Type 0
  Stands (at c g h) w = c ≡ drop w.place (get_or p.blocks w.block [])
  Stands (done h e) w = Unit {0}

  answer_stands : (o : Option (List ℕ)) (a : Act) (rs : List ℕ) (c : List Code) (g : Regs) (h : List Act) (w : Place) → Stands (at c g h) w
      → Stands (answered outside address p o a rs c g h) w
  answer_stands None a rs c g h w q = tt
  answer_stands (Some vs) a rs c g h w q = q

  after_stands : (e : Effect) (rs : List ℕ) (c : List Code) (g : Regs) (h : List Act) (w : Place) → Stands (at c g h) (onward w)
      → Stands (afterEffect outside address p e rs c g h) (after outside address p e w)
  after_stands (writes vs) rs c g h w q = q
  after_stands (goes b) rs c g h w q = refl
  after_stands (ends e) rs c g h w q = tt
  after_stands (asks a) rs c g h w q = answer_stands (outside h a) a rs c g h (onward w) q

  step_stands : (s : State) (w : Place) → Stands s w → Stands (step outside address p s) (next_place outside address p s w)
  step_stands (at [] g h) w q = tt
  step_stands (at (x ∷ c) g h) w q =
      after_stands (effect_of outside address p x g) _ c g h w (rest w.place (get_or p.blocks w.block []) x c q)
  step_stands (done h e) w q = tt

  pub run_stands : (n : ℕ) (s : State) (w : Place) → Stands s w → Stands (run outside address p n s) (place_at outside address p n s w)
  run_stands zero s w q = q
  run_stands (suc n) s w q = run_stands n (step outside address p s) (next_place outside address p s w) (step_stands s w q)

  pub start_stands : (b : ℕ) (g : Regs) → Stands (start outside address p b g) (record { block = b; place = 0 })
  start_stands b g = refl
