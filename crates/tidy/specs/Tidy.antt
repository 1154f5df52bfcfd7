-- Document 01, "Machine", Tidy, and "Operations", Tidy.
use Rattle.std.specs.Prelude.{ℕ, suc, min, ◌≡◌, List, [], ◌∷◌, ◌++◌, map, Bool, false, ◌&&◌, not, cond, eqb, ltb, leb, length, get_or}
use Rattle.records.specs.Record.{records_of}
use Rattle.read.specs.Reading.{reading}
use Rattle.inst.specs.Inst.{kind_of}
use Rattle.inst.specs.declared.Code.{Code}
use Rattle.inst.specs.declared.Inst.{Inst}
use Rattle.roles.specs.Roles.{defs_of, reads_of}
use Rattle.procedure.specs.Procedure.{Procedure, procedure_of}
use Rattle.ends.specs.Ends.{end_of, targets}
use Rattle.paths.specs.Paths.{Leads, reached_from}

-- an instruction, its block, and its place in that block
pub record Placed : Type 0 where
  pub block : ℕ
  pub place : ℕ
  pub inst : Inst

-- a register field, or an operand, of an instruction
pub record Field : Type 0 where
  pub reg : ℕ
  pub at : Placed

unfoldable pub placed_in : ℕ → ℕ → List Code → List Placed
placed_in b k [] = []
placed_in b k (c ∷ cs) = record { block = b; place = k; inst = c.inst } ∷ placed_in b (suc k) cs

unfoldable pub placed_from : ℕ → List (List Code) → List Placed
placed_from b [] = []
placed_from b (cs ∷ bs) = placed_in b 0 cs ++ placed_from (suc b) bs

-- all instructions, in the file's order
abbrev pub placed : Procedure → List Placed
placed p = placed_from 0 p.blocks

abbrev pub fields_at : Placed → List ℕ → List Field
fields_at x rs = map (λ r. record { reg = r; at = x }) rs

-- the register fields that are written
unfoldable pub written : List Placed → List Field
written [] = []
written (x ∷ xs) = fields_at x (defs_of x.inst) ++ written xs

-- the register fields that are read; "list operands are read too"
unfoldable pub reads : List ℕ → List Placed → List Field
reads ops [] = []
reads ops (x ∷ xs) = fields_at x (reads_of ops x.inst) ++ reads ops xs

-- the instructions that write a register, one for each register field
unfoldable pub writers : ℕ → List Field → List Placed
writers r [] = []
writers r (f ∷ fs) = cond (eqb f.reg r) (f.at ∷ writers r fs) (writers r fs)

-- "targets of Br and CondBr alone": those of each block
abbrev pub edges_of : Procedure → List (List ℕ)
edges_of p = map (λ c. targets (end_of c)) p.blocks

-- "from which targets of Br and CondBr alone, over any number of blocks of the file as sent, lead to that block":
-- `LeadsTo` says it, and `leads` computes it
abbrev pub LeadsTo : Procedure → ℕ → ℕ → Type 0
LeadsTo p a t = Leads (edges_of p) a t

abbrev pub leads : Procedure → ℕ → ℕ → Bool
leads p a t = get_or (reached_from (edges_of p) a) t false

-- "one singly written by AddrOf isn't read earlier in the block that writes it, nor in another block from which .. lead to
-- that block": whether a read at place k of block b is one of these, of a register written at place y of block x
abbrev pub too_early : (ℕ → ℕ → Bool) → ℕ → ℕ → ℕ → ℕ → Bool
too_early lead x y b k = cond (eqb b x) (ltb k y) (lead b x)

-- "is read only later in that same block"
abbrev pub later : ℕ → ℕ → ℕ → ℕ → Bool
later x y b k = eqb b x && ltb y k

-- a read of a register whose one writer is of that kind: for a Const or ConstF any read is fine
abbrev pub wrong : (ℕ → ℕ → Bool) → ℕ → ℕ → ℕ → ℕ → ℕ → Bool
wrong lead kind x y b k = cond (leb kind 1) false (cond (eqb kind 3) (too_early lead x y b k) (not (later x y b k)))

abbrev pub wrong_for : (ℕ → ℕ → Bool) → Placed → Placed → Bool
wrong_for lead w x = wrong lead (kind_of w.inst) w.block w.place x.block x.place

-- "written by exactly one register field"
abbrev pub only_one : (Placed → Bool) → List Placed → Bool
only_one q [] = false
only_one q (w ∷ []) = q w
only_one q (w ∷ v ∷ ws) = false

-- a read offends: its register, one of the file's, has one writer, and is read wrongly for it
unfoldable pub offends : Procedure → Field → Bool
offends p f =
    ltb f.reg (length p.registers)
    && only_one (λ w. wrong_for (leads p) w f.at) (writers f.reg (written (placed p)))

-- the registers of the fields that a test finds
unfoldable pub regs_of : (Field → Bool) → List Field → List ℕ
regs_of q [] = []
regs_of q (f ∷ fs) = cond (q f) (f.reg ∷ regs_of q fs) (regs_of q fs)

-- the offending registers
abbrev pub offenders : Procedure → List ℕ
offenders p = regs_of (offends p) (reads p.operands (placed p))

abbrev pub Tidy : Procedure → Type 0
Tidy p = offenders p ≡ []

-- Read's number and place; then 1 if the file is tidy, or 0 and the lowest offending register
pub record Tidiness : Type 0 where
  pub number : ℕ
  pub place : ℕ
  pub tidy : ℕ
  pub reg : ℕ

abbrev pub told : ℕ → ℕ → ℕ → ℕ → Tidiness
told number place tidy reg = record { number = number; place = place; tidy = tidy; reg = reg }

abbrev pub lowest : ℕ → List ℕ → ℕ
lowest r [] = r
lowest r (s ∷ rs) = lowest (min r s) rs

-- "yes, or no with the lowest offending register"
abbrev pub verdict : List ℕ → Tidiness
verdict [] = told 0 0 1 0
verdict (r ∷ rs) = told 0 0 0 (lowest r rs)

-- "The same seven, then yes, or no"
unfoldable pub tidiness : List ℕ → Tidiness
tidiness b =
    cond (eqb (reading b).number 0)
    (verdict (offenders (procedure_of (records_of b))))
    (told (reading b).number (reading b).place 0 0)
