-- Document 01, "Machine": a run of a procedure.
use Rattle.std.specs.Prelude.{ℕ, zero, suc, ◌+◌, cond, List, [], ◌∷◌, ◌++◌, map, eqb, get_or, drop, Option, None, Some}
use Rattle.inst.specs.declared.AddrSpace.{AddrSpace}
use Rattle.inst.specs.declared.Code.{Code}
use Rattle.inst.specs.declared.Inst.{Inst}
use Rattle.inst.specs.declared.Inst.TheVariants as i
use Rattle.real.specs.Real.{bits_of}
use Rattle.roles.specs.Roles.{defs_of, reads_of}
use Rattle.procedure.specs.Procedure.{Table, Procedure, table_at, first_of}
use Rattle.word.specs.Word.{choose, compares, tests, target_of}
use Rattle.machine.specs.Act.{Act, act_of}

-- each register's word
abbrev pub Regs : Type 0
Regs = ℕ → ℕ

-- "AddrOf a fixed function of space and off"
abbrev pub Address : Type 0
Address = AddrSpace → ℕ → ℕ

-- "The outside, knowing earlier acts and this one, gives the written values, stored in role order, or ends the run":
-- one value for each written register; if the list is too short the missing ones are 0, if too long the rest isn't used
abbrev pub Outside : Type 0
Outside = List Act → Act → Option (List ℕ)

-- "Ret and Unreachable end, with value or number, and statement", and the outside on an act.
-- The code of a block that Read accepts doesn't run out.
pub data End : Type 0 where
  returned : Option ℕ → ℕ → End
  unreachable : ℕ → ℕ → End
  stopped : Act → End
  ran_out : End

-- what an instruction does with the values that it reads: it writes, goes to a block, ends, or asks the outside
pub data Effect : Type 0 where
  writes : List ℕ → Effect
  goes : ℕ → Effect
  ends : End → Effect
  asks : Act → Effect

-- over the kinds of the registers read and their values, in the order of the roles
module _ (address : Address) (tables : List Table) (statement : ℕ) (kinds values : List ℕ) where
  abbrev kind : ℕ → ℕ
  kind n = get_or kinds n 0

  abbrev value : ℕ → ℕ
  value n = get_or values n 0

  unfoldable pub effect : Inst → Effect
  -- "Const, ConstF, Move and AddrOf write"
  effect (i.Const d v) = writes (v ∷ [])
  effect (i.ConstF d v) = writes (bits_of v ∷ [])
  effect (i.Move d s) = writes (value 0 ∷ [])
  effect (i.AddrOf d space off) = writes (address space off ∷ [])
  -- "Select gives a and CondBr takes t where c isn't 0, else b and f"
  effect (i.Select d c x y) = writes (choose (value 0) (value 1) (value 2) ∷ [])
  -- "Cmp is signed, giving 0 or 1; Bool tests operands against 0, giving 0 or 1"
  effect (i.Cmp op d x y) = writes (compares (kind 0) (kind 1) op (value 0) (value 1) ∷ [])
  effect (i.Bool op d x y) = writes (tests op (value 0) (value 1) ∷ [])
  -- "Others are acts"
  effect (i.Bin op d x y) = asks (act_of (i.Bin op d x y) statement values)
  effect (i.BinRange op d x y l h w) = asks (act_of (i.BinRange op d x y l h w) statement values)
  effect (i.Load d a w) = asks (act_of (i.Load d a w) statement values)
  effect (i.Store a s w) = asks (act_of (i.Store a s w) statement values)
  effect (i.Check k v l h w) = asks (act_of (i.Check k v l h w) statement values)
  effect (i.MakeDope a p) = asks (act_of (i.MakeDope a p) statement values)
  effect (i.DopeLen d p n) = asks (act_of (i.DopeLen d p n) statement values)
  effect (i.BoundsLen d l r e) = asks (act_of (i.BoundsLen d l r e) statement values)
  effect (i.Alloc d s) = asks (act_of (i.Alloc d s) statement values)
  effect (i.TakeBounds l r e) = asks (act_of (i.TakeBounds l r e) statement values)
  effect (i.CallNative n a d) = asks (act_of (i.CallNative n a d) statement values)
  -- "Br only goes to its target"
  effect (i.Br t) = goes t.0
  effect (i.CondBr c t f) = goes (choose (value 0) t.0 f.0)
  -- "Case takes the first arm holding v"
  effect (i.Case v t) = goes (target_of (table_at tables t) (value 0))
  -- "Ret and Unreachable end, with value or number, and statement"
  effect (i.Ret v) = ends (returned (first_of values) statement)
  effect (i.Unreachable w) = ends (unreachable w statement)
  effect i.Stmt = asks (act_of i.Stmt statement values)

abbrev pub upd : ℕ → ℕ → Regs → Regs
upd r v g = λ x. cond (eqb x r) v (g x)

-- "the written values, stored in role order"
abbrev pub stores : List ℕ → List ℕ → Regs → Regs
stores [] vs g = g
stores (r ∷ rs) vs g = stores rs (drop 1 vs) (upd r (get_or vs 0 0) g)

-- a run: the code left to do in its block, the registers and the acts done, in order; or the acts done and how it ended
pub data State : Type 0 where
  at : List Code → Regs → List Act → State
  done : List Act → End → State

-- an entry into block 0, where a run goes there or starts there
abbrev pub into_zero : ℕ → ℕ
into_zero zero = 1
into_zero (suc b) = 0

module _ (outside : Outside) (address : Address) (p : Procedure) where
  abbrev pub enter : ℕ → Regs → List Act → State
  enter b g h = at (get_or p.blocks b []) g h

  -- "A run starts at block 0's first instruction", or at another block's
  abbrev pub start : ℕ → Regs → State
  start b g = enter b g []

  -- an instruction with the registers' values
  abbrev pub effect_of : Code → Regs → Effect
  effect_of c g =
      let reads = reads_of p.operands c.inst in
      effect address p.tables c.stmt.0 (map (λ r. get_or p.registers r 0) reads) (map g reads) c.inst

  -- "the act it ends on is done"
  abbrev pub answered : Option (List ℕ) → Act → List ℕ → List Code → Regs → List Act → State
  answered None a rs cs g h = done (h ++ (a ∷ [])) (stopped a)
  answered (Some vs) a rs cs g h = at cs (stores rs vs g) (h ++ (a ∷ []))

  -- the state after an effect, over the registers that the instruction writes and the code after it
  abbrev pub after : Effect → List ℕ → List Code → Regs → List Act → State
  after (writes vs) rs cs g h = at cs (stores rs vs g) h
  after (goes b) rs cs g h = enter b g h
  after (ends e) rs cs g h = done h e
  after (asks a) rs cs g h = answered (outside h a) a rs cs g h

  -- "Each instruction carried out counts one, and after the end nothing more is done."
  abbrev pub step : State → State
  step (at [] g h) = done h ran_out
  step (at (c ∷ cs) g h) = after (effect_of c g) (defs_of c.inst) cs g h
  step (done h e) = done h e

  -- a run's next N instructions
  abbrev pub run : ℕ → State → State
  run zero s = s
  run (suc n) s = run n (step s)

  -- "An entry into block 0 is a start there, or a Br, CondBr or Case carried out that goes there."
  abbrev pub entry_of : Effect → ℕ
  entry_of (writes vs) = 0
  entry_of (goes b) = into_zero b
  entry_of (ends e) = 0
  entry_of (asks a) = 0

  abbrev pub entry : State → ℕ
  entry (at [] g h) = 0
  entry (at (c ∷ cs) g h) = entry_of (effect_of c g)
  entry (done h e) = 0

  abbrev pub entered : ℕ → State → ℕ
  entered zero s = 0
  entered (suc n) s = entry s + entered n (step s)

-- what a run shows: the acts done, and how it has ended, if it has
pub record Shown : Type 0 where
  pub acts : List Act
  pub end : Option End

abbrev pub shown : State → Shown
shown (at cs g h) = record { acts = h; end = None }
shown (done h e) = record { acts = h; end = Some e }
