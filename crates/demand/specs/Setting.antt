-- What the proof of demand 3 is about: block-local registers, single constants, and what is known after some code.
use Rattle.std.specs.Prelude.{ℕ, ◌<◌, ◌≡◌, ◌⊎◌, List, [], ◌∷◌, map, Bool, true, false, Option, None, Some}
use Rattle.inst.specs.declared.Code.{Code}
use Rattle.roles.specs.Roles.{defs_of, reads_of}
use Rattle.procedure.specs.Procedure.{Table, Procedure}
use Rattle.machine.specs.Machine.{Regs, Address, Outside, Effect, writes, goes, ends, asks, effect, stores}
use Rattle.machine.specs.Single.{constant_of}

-- a number is in a list
abbrev pub In : ℕ → List ℕ → Type 0
In r [] = ⊥
In r (x ∷ xs) = (r ≡ x) ⊎ In r xs

-- something holds for each instruction of some code
abbrev pub Each : (Code → Type 0) → List Code → Type 0
Each F [] = Unit {0}
Each F (x ∷ c) = F x × Each F c

-- the same for each instruction but the last
abbrev pub Front : (Code → Type 0) → List Code → Type 0
Front F [] = Unit {0}
Front F (x ∷ []) = Unit {0}
Front F (x ∷ y ∷ c) = F x × Front F (y ∷ c)

-- what stays the same while a procedure is shortened
pub record Setting : Type 0 where
  pub outside : Outside
  pub address : Address
  pub body : Option ℕ
  pub operands : List ℕ
  pub tables : List Table
  -- the number of the original's registers
  pub size : ℕ
  -- a register of the original that one field writes
  pub one : ℕ → Bool
  -- what is loaded
  pub single : ℕ → Option ℕ
  -- a register that one field writes and that isn't loaded, or a new number
  pub local : ℕ → Bool
  pub single-one : (r v : ℕ) → single r ≡ Some v → one r ≡ true
  pub single_shared : (r v : ℕ) → single r ≡ Some v → local r ≡ false
  pub one_local : (r : ℕ) → one r ≡ true → single r ≡ None → local r ≡ true
  pub one-old : (r : ℕ) → one r ≡ true → r < size
  pub shared_old : (r : ℕ) → local r ≡ false → r < size

-- what an instruction writes, in the order of the roles
abbrev pub defs_at : Code → List ℕ
defs_at x = defs_of x.inst

-- a register is written in some code
abbrev pub Written : List Code → ℕ → Type 0
Written [] r = ⊥
Written (x ∷ c) r = In r (defs_at x) ⊎ Written c r

-- over the operands
module _ (ops : List ℕ) where
  -- what an instruction reads
  abbrev pub reads_at : Code → List ℕ
  reads_at x = reads_of ops x.inst

  -- a register is read in some code
  abbrev pub Read : List Code → ℕ → Type 0
  Read [] r = ⊥
  Read (x ∷ c) r = In r (reads_at x) ⊎ Read c r

  -- a register is read in some code without being written there before
  abbrev pub Exposed : List Code → ℕ → Type 0
  Exposed [] r = ⊥
  Exposed (x ∷ c) r = In r (reads_at x) ⊎ ((¬ (In r (defs_at x))) × Exposed c r)

-- a fact about the registers after an effect, if the run goes on in the same block
abbrev pub Passes : Effect → List ℕ → (Regs → Type 0) → Regs → Type 0
Passes (writes vs) rs Q g = Q (stores rs vs g)
Passes (goes b) rs Q g = Unit {0}
Passes (ends e) rs Q g = Unit {0}
Passes (asks a) rs Q g = (vs : List ℕ) → Q (stores rs vs g)

module _ (E : Setting) where
  -- a procedure of this setting
  abbrev pub code : List ℕ → List (List Code) → Procedure
  code registers P = record { registers = registers; blocks = P; body = E.body; operands = E.operands; tables = E.tables }

  -- what an instruction does, whatever the kinds of the registers
  abbrev pub does : Code → Regs → Effect
  does x g = effect E.address E.tables x.stmt.0 [] (map g (reads_at E.operands x)) x.inst

  -- no local register is exposed
  abbrev pub Hidden : List Code → Type 0
  Hidden c = (r : ℕ) → Exposed E.operands c r → E.local r ≡ false

  -- a register that one field writes is written by its constant if it is loaded, else by no Const, ConstF or AddrOf
  abbrev pub Fine : Code → Type 0
  Fine x = (r : ℕ) → In r (defs_at x) → E.one r ≡ true → E.single r ≡ constant_of E.address x.inst

  -- the single constants hold their values
  abbrev pub Loaded : Regs → Type 0
  Loaded g = (r v : ℕ) → E.single r ≡ Some v → g r ≡ v

  -- a fact about the registers after some code, whenever a run gets there
  abbrev pub Behind : (Regs → Type 0) → List Code → Regs → Type 0
  Behind Q [] g = Q g
  Behind Q (x ∷ c) g = Passes (does x g) (defs_at x) (Behind Q c) g
