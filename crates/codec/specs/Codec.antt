-- Document 01, "Class 4, instruction": the instruction that a record holds, and the record of an instruction.
use Rattle.std.specs.Prelude.{ℕ, ◌+◌, ◌*◌, ◌/◌, ◌%◌, ◌<◌, ◌^◌, ◌≡◌, Bool, true, ◌&&◌, List, [], ◌∷◌, ltb, get_or}
use Rattle.records.specs.declared.Record.{Record}
use Rattle.real.specs.Real.{real_of, bits_of, canonical}
use Rattle.inst.specs.declared.Reg.{Reg}
use Rattle.inst.specs.declared.BlockId.{BlockId}
use Rattle.inst.specs.declared.Regs.{Regs}
use Rattle.inst.specs.declared.Code.{Code}
use Rattle.inst.specs.declared.Inst.{Inst}
use Rattle.inst.specs.declared.Inst.TheVariants as i
use Rattle.ops.specs.Ops.{cmp_of, cmp_num, bool_of, bool_num, int_of, int_num, width_of, width_num, check_of, check_num}
use Rattle.ops.specs.Ops.{space_of, space_num, space_arg, space_in_range, opt_of, opt_num, opt_arg}

-- "v (p2 low, p3 high)"
abbrev pub word_of : ℕ → ℕ → ℕ
word_of low high = low + 4294967296 * high

-- its low half, and its high half
abbrev pub low_of : ℕ → ℕ
low_of v = v % 4294967296

abbrev pub high_of : ℕ → ℕ
high_of v = v / 4294967296

-- "Register, block and statement numbers are tuple structs"; a list is its start and length
abbrev pub reg_of : ℕ → Reg
reg_of n = record { 0 = n }

abbrev pub block_of : ℕ → BlockId
block_of n = record { 0 = n }

abbrev pub regs_of : ℕ → ℕ → Regs
regs_of start len = record { start = start; len = len }

-- "Kinds:", over the record's op and p1..p6, in the order of the paper
abbrev pub insts : ℕ → ℕ → ℕ → ℕ → ℕ → ℕ → ℕ → List Inst
insts op p1 p2 p3 p4 p5 p6 =
    i.Const (reg_of p1) (word_of p2 p3)
    ∷ i.ConstF (reg_of p1) (real_of (word_of p2 p3))
    ∷ i.Move (reg_of p1) (reg_of p2)
    ∷ i.AddrOf (reg_of p1) (space_of op p2) p3
    ∷ i.Select (reg_of p1) (reg_of p2) (reg_of p3) (reg_of p4)
    ∷ i.Cmp (cmp_of op) (reg_of p1) (reg_of p2) (reg_of p3)
    ∷ i.Bool (bool_of op) (reg_of p1) (reg_of p2) (reg_of p3)
    ∷ i.Bin (int_of op) (reg_of p1) (reg_of p2) (reg_of p3)
    ∷ i.BinRange (int_of op) (reg_of p1) (reg_of p2) (reg_of p3) (reg_of p4) (reg_of p5) p6
    ∷ i.Load (reg_of p1) (reg_of p2) (width_of op)
    ∷ i.Store (reg_of p1) (reg_of p2) (width_of op)
    ∷ i.Check (check_of op) (reg_of p1) (reg_of p2) (reg_of p3) p4
    ∷ i.MakeDope (reg_of p1) (regs_of p2 p3)
    ∷ i.DopeLen (reg_of p1) (reg_of p2) (p3 % 256)
    ∷ i.BoundsLen (reg_of p1) (reg_of p2) (reg_of p3) (reg_of p4)
    ∷ i.Alloc (reg_of p1) (reg_of p2)
    ∷ i.TakeBounds (reg_of p1) (reg_of p2) (reg_of p3)
    ∷ i.CallNative p1 (regs_of p2 p3) (opt_of op p4)
    ∷ i.Br (block_of p1)
    ∷ i.CondBr (reg_of p1) (block_of p2) (block_of p3)
    ∷ i.Case (reg_of p1) p2
    ∷ i.Ret (opt_of op p1)
    ∷ i.Unreachable p1
    ∷ []

-- over the record itself
abbrev pub insts_of : Record → List Inst
insts_of r = insts r.op r.p1 r.p2 r.p3 r.p4 r.p5 r.p6

-- "23 Stmt"; a kind past it is read as a Stmt too
unfoldable pub inst_of : Record → Inst
inst_of r = get_or (insts_of r) r.kind i.Stmt

-- "4..7 statement"
abbrev pub code_of : Record → Code
code_of r = record { inst = inst_of r; stmt = record { 0 = r.stmt } }

-- "Byte 0 class", "3 zero": a record of class 4, with statement 0
abbrev pub row_of : ℕ → ℕ → ℕ → ℕ → ℕ → ℕ → ℕ → ℕ → Record
row_of kind op p1 p2 p3 p4 p5 p6 = record {
  class = 4;
  kind = kind;
  op = op;
  zero = 0;
  stmt = 0;
  p1 = p1;
  p2 = p2;
  p3 = p3;
  p4 = p4;
  p5 = p5;
  p6 = p6;
}

-- "Kinds:" and "Unused places are zero": the record of an instruction, with statement 0
unfoldable pub inst_record : Inst → Record
inst_record (i.Const d v) = row_of 0 0 d.0 (low_of v) (high_of v) 0 0 0
inst_record (i.ConstF d v) = row_of 1 0 d.0 (low_of (bits_of v)) (high_of (bits_of v)) 0 0 0
inst_record (i.Move d a) = row_of 2 0 d.0 a.0 0 0 0 0
inst_record (i.AddrOf d p f) = row_of 3 (space_num p) d.0 (space_arg p) f 0 0 0
inst_record (i.Select d c a b) = row_of 4 0 d.0 c.0 a.0 b.0 0 0
inst_record (i.Cmp o d a b) = row_of 5 (cmp_num o) d.0 a.0 b.0 0 0 0
inst_record (i.Bool o d a b) = row_of 6 (bool_num o) d.0 a.0 b.0 0 0 0
inst_record (i.Bin o d a b) = row_of 7 (int_num o) d.0 a.0 b.0 0 0 0
inst_record (i.BinRange o d a b l h w) = row_of 8 (int_num o) d.0 a.0 b.0 l.0 h.0 w
inst_record (i.Load d a w) = row_of 9 (width_num w) d.0 a.0 0 0 0 0
inst_record (i.Store a v w) = row_of 10 (width_num w) a.0 v.0 0 0 0 0
inst_record (i.Check k v l h w) = row_of 11 (check_num k) v.0 l.0 h.0 w 0 0
inst_record (i.MakeDope a p) = row_of 12 0 a.0 p.start p.len 0 0 0
inst_record (i.DopeLen d p n) = row_of 13 0 d.0 p.0 n 0 0 0
inst_record (i.BoundsLen d l r k) = row_of 14 0 d.0 l.0 r.0 k.0 0 0
inst_record (i.Alloc d n) = row_of 15 0 d.0 n.0 0 0 0 0
inst_record (i.TakeBounds l r k) = row_of 16 0 l.0 r.0 k.0 0 0 0
inst_record (i.CallNative n a d) = row_of 17 (opt_num d) n a.start a.len (opt_arg d) 0 0
inst_record (i.Br t) = row_of 18 0 t.0 0 0 0 0 0
inst_record (i.CondBr c t f) = row_of 19 0 c.0 t.0 f.0 0 0 0
inst_record (i.Case v t) = row_of 20 0 v.0 t 0 0 0 0
inst_record (i.Ret v) = row_of 21 (opt_num v) (opt_arg v) 0 0 0 0 0
inst_record (i.Unreachable w) = row_of 22 0 w 0 0 0 0 0
inst_record i.Stmt = row_of 23 0 0 0 0 0 0 0

-- the same record with a statement
abbrev pub with_stmt : Record → ℕ → Record
with_stmt r n = record {
  class = r.class;
  kind = r.kind;
  op = r.op;
  zero = r.zero;
  stmt = n;
  p1 = r.p1;
  p2 = r.p2;
  p3 = r.p3;
  p4 = r.p4;
  p5 = r.p5;
  p6 = r.p6;
}

-- the record of an instruction with its statement
abbrev pub record_of : Code → Record
record_of c = with_stmt (inst_record c.inst) c.stmt.0

-- an instruction replaced by another, with the statement kept
abbrev pub with_inst : Inst → Code → Code
with_inst x c = record { inst = x; stmt = c.stmt }

-- the same for a record
abbrev pub rewritten_record : Record → Inst → Record
rewritten_record r x = record_of (with_inst x (code_of r))

-- "32-bit fields"
abbrev pub words : List ℕ → Bool
words [] = true
words (x ∷ xs) = ltb x (2 ^ 32) && words xs

-- an instruction's numbers are in their types' ranges, and its f64 comes from 64 bits
unfoldable pub in_range : Inst → Bool
in_range (i.Const d v) = ltb v (2 ^ 64) && words (d.0 ∷ [])
in_range (i.ConstF d v) = canonical v && words (d.0 ∷ [])
in_range (i.Move d a) = words (d.0 ∷ a.0 ∷ [])
in_range (i.AddrOf d p f) = space_in_range p && words (d.0 ∷ f ∷ [])
in_range (i.Select d c a b) = words (d.0 ∷ c.0 ∷ a.0 ∷ b.0 ∷ [])
in_range (i.Cmp o d a b) = words (d.0 ∷ a.0 ∷ b.0 ∷ [])
in_range (i.Bool o d a b) = words (d.0 ∷ a.0 ∷ b.0 ∷ [])
in_range (i.Bin o d a b) = words (d.0 ∷ a.0 ∷ b.0 ∷ [])
in_range (i.BinRange o d a b l h w) = words (d.0 ∷ a.0 ∷ b.0 ∷ l.0 ∷ h.0 ∷ w ∷ [])
in_range (i.Load d a w) = words (d.0 ∷ a.0 ∷ [])
in_range (i.Store a v w) = words (a.0 ∷ v.0 ∷ [])
in_range (i.Check k v l h w) = words (v.0 ∷ l.0 ∷ h.0 ∷ w ∷ [])
in_range (i.MakeDope a p) = words (a.0 ∷ p.start ∷ p.len ∷ [])
in_range (i.DopeLen d p n) = ltb n 256 && words (d.0 ∷ p.0 ∷ [])
in_range (i.BoundsLen d l r k) = words (d.0 ∷ l.0 ∷ r.0 ∷ k.0 ∷ [])
in_range (i.Alloc d n) = words (d.0 ∷ n.0 ∷ [])
in_range (i.TakeBounds l r k) = words (l.0 ∷ r.0 ∷ k.0 ∷ [])
in_range (i.CallNative n a d) = words (n ∷ a.start ∷ a.len ∷ opt_arg d ∷ [])
in_range (i.Br t) = words (t.0 ∷ [])
in_range (i.CondBr c t f) = words (c.0 ∷ t.0 ∷ f.0 ∷ [])
in_range (i.Case v t) = words (v.0 ∷ t ∷ [])
in_range (i.Ret v) = words (opt_arg v ∷ [])
in_range (i.Unreachable w) = words (w ∷ [])
in_range i.Stmt = true

-- the same for an instruction with its statement
pub record InRange (c : Code) : Type 0 where
  pub inst : in_range c.inst ≡ true
  pub stmt : c.stmt.0 < 2 ^ 32
