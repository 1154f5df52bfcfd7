-- "Registers are 64-bit words": where the start, the constants, the addresses and the outside's values are words, every register is one, at all times.
use Prim.Native.Nat.{ℕ, zero, suc}
use mathlib.Core.Path.{◌≡◌, refl}
use mathlib.Core.Bool.{Bool, true, false, cond, not, ◌&&◌, ◌||◌}
use mathlib.Core.List.{List, [], ◌∷◌, map}
use Rattle.std.proofs.Common.{Option, None, Some}
use lib.Dec.{eqb, lit<}
use lib.ListN.{get_or, drop}
use Rattle.inst.specs.declared.Code.{Code}
use Rattle.inst.specs.declared.Inst.{Inst}
use Rattle.inst.specs.declared.Inst.TheVariants as i
use Rattle.inst.specs.declared.CmpOp.{CmpOp}
use Rattle.inst.specs.declared.BoolOp.{BoolOp}
use Rattle.inst.specs.declared.BoolOp.TheVariants as b
use Rattle.roles.specs.Roles.{defs_of, reads_of}
use Rattle.procedure.specs.Procedure.{Procedure, Table}
use Rattle.ends.specs.Forms.{form_of, fixed_of}
use Rattle.word.specs.Word.{Word, bit, holds, choose, signed, ordered, compares, tests}
use Rattle.machine.specs.Act.{Act}
use Rattle.machine.specs.Machine.{Regs, Address, Outside, Effect, writes, goes, ends, asks, effect, effect_of}
use Rattle.machine.specs.Machine.{upd, stores, State, at, done, answered, after, step, run}
use Rattle.machine.specs.Single.{constant_of}

abbrev All : List ℕ → Type 0
All [] = Unit {0}
All (v ∷ vs) = Word v × All vs

abbrev Held : Regs → Type 0
Held g = (r : ℕ) → Word (g r)

-- what a Const, ConstF or AddrOf writes is a word
abbrev pub Fits : Address → List Code → Type 0
Fits address [] = Unit {0}
Fits address (c ∷ cs) = ((v : ℕ) → constant_of address c.inst ≡ Some v → Word v) × Fits address cs

abbrev Fine : Effect → Type 0
Fine (writes vs) = All vs
Fine (goes b) = Unit {0}
Fine (ends e) = Unit {0}
Fine (asks a) = Unit {0}

zero_word : Word 0
zero_word = lit< tt

bit_word : (x : Bool) → Word (bit x)
bit_word false = lit< tt
bit_word true = lit< tt

tests-word : (op : BoolOp) (x y : ℕ) → Word (tests op x y)
tests-word b.And x y = bit_word (holds x && holds y)
tests-word b.Or x y = bit_word (holds x || holds y)
tests-word b.Xor x y = bit_word (cond (holds x) (not (holds y)) (holds y))
tests-word b.Not x y = bit_word (not (holds x))

compares-word : (kind kind' : ℕ) (op : CmpOp) (x y : ℕ) → Word (compares kind kind' op x y)
unfolding compares
compares-word kind kind' op x y = bit_word (ordered op (signed x) (signed y))

choose_word : (c x y : ℕ) → Word x → Word y → Word (choose c x y)
choose_word zero x y u v = v
choose_word (suc c) x y u v = u

at-word : (vs : List ℕ) → All vs → (n : ℕ) → Word (get_or vs n 0)
at-word [] a n = zero_word
at-word (v ∷ vs) a zero = a.0
at-word (v ∷ vs) a (suc n) = at-word vs a.1 n

drop-word : (vs : List ℕ) → All vs → All (drop 1 vs)
drop-word [] a = tt
drop-word (v ∷ vs) a = a.1

map-word : (g : Regs) → Held g → (rs : List ℕ) → All (map g rs)
map-word g h [] = tt
map-word g h (r ∷ rs) = (h r, map-word g h rs)

upd-word : (r v : ℕ) (g : Regs) → Word v → Held g → Held (upd r v g)
upd-word r v g w h x = by (eqb x r)
  where
    by : (e : Bool) → Word (cond e v (g x))
    by true = w
    by false = h x

stores-word : (rs vs : List ℕ) (g : Regs) → All vs → Held g → Held (stores rs vs g)
stores-word [] vs g a h = h
stores-word (r ∷ rs) vs g a h = stores-word rs (drop 1 vs) (upd r (get_or vs 0 0) g) (drop-word vs a) (upd-word r _ g (at-word vs a 0) h)

effect-fine : (address : Address) (tables : List Table) (s : ℕ) (kinds vs : List ℕ) → All vs
    → (x : Inst) → ((v : ℕ) → constant_of address x ≡ Some v → Word v) → Fine (effect address tables s kinds vs x)
unfolding effect constant_of fixed_of form_of
effect-fine address tables s kinds vs a (i.Const d v) f = (f _ refl, tt)
effect-fine address tables s kinds vs a (i.ConstF d v) f = (f _ refl, tt)
effect-fine address tables s kinds vs a (i.Move d r) f = (at-word vs a 0, tt)
effect-fine address tables s kinds vs a (i.AddrOf d p o) f = (f _ refl, tt)
effect-fine address tables s kinds vs a (i.Select d c x y) f = (choose_word (get_or vs 0 0) _ _ (at-word vs a 1) (at-word vs a 2), tt)
effect-fine address tables s kinds vs a (i.Cmp op d x y) f = (compares-word (get_or kinds 0 0) (get_or kinds 1 0) op (get_or vs 0 0) (get_or vs 1 0), tt)
effect-fine address tables s kinds vs a (i.Bool op d x y) f = (tests-word op (get_or vs 0 0) (get_or vs 1 0), tt)
effect-fine address tables s kinds vs a (i.Bin op d x y) f = tt
effect-fine address tables s kinds vs a (i.BinRange op d x y l h w) f = tt
effect-fine address tables s kinds vs a (i.Load d r w) f = tt
effect-fine address tables s kinds vs a (i.Store r x w) f = tt
effect-fine address tables s kinds vs a (i.Check k v l h w) f = tt
effect-fine address tables s kinds vs a (i.MakeDope r p) f = tt
effect-fine address tables s kinds vs a (i.DopeLen d p n) f = tt
effect-fine address tables s kinds vs a (i.BoundsLen d l r e) f = tt
effect-fine address tables s kinds vs a (i.Alloc d n) f = tt
effect-fine address tables s kinds vs a (i.TakeBounds l r e) f = tt
effect-fine address tables s kinds vs a (i.CallNative n l d) f = tt
effect-fine address tables s kinds vs a (i.Br t) f = tt
effect-fine address tables s kinds vs a (i.CondBr c t e) f = tt
effect-fine address tables s kinds vs a (i.Case v t) f = tt
effect-fine address tables s kinds vs a (i.Ret v) f = tt
effect-fine address tables s kinds vs a (i.Unreachable w) f = tt
effect-fine address tables s kinds vs a i.Stmt f = tt

module _ (outside : Outside) (address : Address) (p : Procedure)
    (gives : (h : List Act) (a : Act) (vs : List ℕ) → outside h a ≡ Some vs → All vs) (fits : (block : ℕ) → Fits address (get_or p.blocks block [])) where
  abbrev pub InWords : State → Type 0
  InWords (at cs g h) = Held g × Fits address cs
  InWords (done h e) = Unit {0}

  answered-words : (o : Option (List ℕ)) (a : Act) (rs : List ℕ) (cs : List Code) (g : Regs) (h : List Act) → outside h a ≡ o
      → InWords (at cs g h) → InWords (answered outside address p o a rs cs g h)
  answered-words None a rs cs g h e w = tt
  answered-words (Some vs) a rs cs g h e w = (stores-word rs vs g (gives h a vs e) w.0, w.1)

  after-words : (x : Effect) (rs : List ℕ) (cs : List Code) (g : Regs) (h : List Act) → Fine x → InWords (at cs g h)
      → InWords (after outside address p x rs cs g h)
  after-words (writes vs) rs cs g h f w = (stores-word rs vs g f w.0, w.1)
  after-words (goes block) rs cs g h f w = (w.0, fits block)
  after-words (ends e) rs cs g h f w = tt
  after-words (asks a) rs cs g h f w = answered-words (outside h a) a rs cs g h refl w

  step_words : (s : State) → InWords s → InWords (step outside address p s)
  step_words (at [] g h) w = tt
  step_words (at (c ∷ cs) g h) w =
      after-words (effect_of outside address p c g) (defs_of c.inst) cs g h
      (effect-fine address p.tables c.stmt.0 _ _ (map-word g w.0 (reads_of p.operands c.inst)) c.inst w.1.0)
      (w.0, w.1.1)
  step_words (done h e) w = tt

  pub run-words : (n : ℕ) (s : State) → InWords s → InWords (run outside address p n s)
  run-words zero s w = w
  run-words (suc n) s w = run-words n (step outside address p s) (step_words s w)
