-- The definition of tidy on small procedures, one for each clause.
use Prim.Native.Nat.{ℕ}
use mathlib.Core.Path.{◌≡◌, refl}
use mathlib.Core.List.{List, [], ◌∷◌, map}
use Rattle.std.proofs.Common.{Some, None}
use lib.ListN.{replicate}
use Rattle.codec.specs.Codec.{reg_of, block_of, regs_of as list_of}
use Rattle.inst.specs.declared.Inst.{Inst}
use Rattle.inst.specs.declared.Inst.TheVariants as i
use Rattle.inst.specs.declared.AddrSpace.TheVariants as s
use Rattle.read.proofs.Table.{P7}
use Rattle.procedure.specs.Procedure.{Procedure}
use Rattle.ends.specs.Forms.{form_of}
use Rattle.ends.specs.Ends.{view_of, end_of}
use Rattle.paths.specs.Paths.{total, walk, reached_from}
use Rattle.tidy.specs.Tidy.{placed_in, placed_from, written, reads, writers, offends, regs_of, offenders, told, tidiness}

-- a procedure of ten registers, with the operand 5
blocks : List (List Inst) → Procedure
blocks bs = record {
  registers = replicate 10 0;
  blocks = map
      (map (λ x. record { inst = x; stmt = record { 0 = 0 } })) bs;
  body = None;
  operands = 5 ∷ [];
  tables = [];
}

move : ℕ → ℕ → Inst
move d a = i.Move (reg_of d) (reg_of a)

address : ℕ → Inst
address d = i.AddrOf (reg_of d) s.Frame 8

br : ℕ → Inst
br t = i.Br (block_of t)

ret : ℕ → Inst
ret r = i.Ret (Some (reg_of r))

-- read later in its block; nothing writes 1
read-later : offenders (blocks ((move 3 1 ∷ ret 3 ∷ []) ∷ [])) ≡ []
unfolding blocks move ret placed_in placed_from written reads writers offends regs_of
read-later = refl

-- read in another block, even one that comes after
read_elsewhere : offenders (blocks ((move 3 1 ∷ br 1 ∷ []) ∷ (ret 3 ∷ []) ∷ [])) ≡ 3 ∷ []
unfolding blocks move br ret placed_in placed_from written reads writers offends regs_of
read_elsewhere = refl

-- read earlier in its block, and by the instruction that writes it
read_early : offenders (blocks ((move 3 4 ∷ move 4 4 ∷ ret 3 ∷ []) ∷ [])) ≡ 4 ∷ 4 ∷ []
unfolding blocks move ret placed_in placed_from written reads writers offends regs_of
read_early = refl

-- a list operand is read
read-in-list : offenders (blocks ((i.CallNative 0 (list_of 0 1) None ∷ move 5 1 ∷ ret 1 ∷ []) ∷ [])) ≡ 5 ∷ []
unfolding blocks move ret placed_in placed_from written reads writers offends regs_of
read-in-list = refl

-- three register fields write 4, so it isn't single
written_thrice : offenders (blocks ((move 3 4 ∷ i.TakeBounds (reg_of 4) (reg_of 4) (reg_of 4) ∷ ret 3 ∷ []) ∷ [])) ≡ []
unfolding blocks move ret placed_in placed_from written reads writers offends regs_of
written_thrice = refl

-- a single constant is free
constant : offenders (blocks ((ret 3 ∷ []) ∷ (i.Const (reg_of 3) 7 ∷ ret 1 ∷ []) ∷ [])) ≡ []
unfolding blocks ret placed_in placed_from written reads writers offends regs_of
constant = refl

-- an address read earlier in its block
address_early : offenders (blocks ((move 3 4 ∷ address 4 ∷ ret 3 ∷ []) ∷ [])) ≡ 4 ∷ []
unfolding blocks move address ret placed_in placed_from written reads writers offends regs_of
address_early = refl

-- an address read in a block that leads to its writer over another block
address_far : offenders (blocks ((move 3 4 ∷ br 2 ∷ []) ∷ (address 4 ∷ ret 1 ∷ []) ∷ (br 1 ∷ []) ∷ [])) ≡ 4 ∷ []
unfolding blocks move address br ret placed_in placed_from written reads writers offends regs_of form_of view_of end_of total walk reached_from
address_far = refl

-- and in one that doesn't
address-apart : offenders (blocks ((move 3 4 ∷ ret 3 ∷ []) ∷ (address 4 ∷ br 0 ∷ []) ∷ [])) ≡ []
unfolding blocks move address br ret placed_in placed_from written reads writers offends regs_of form_of view_of end_of total walk reached_from
address-apart = refl

-- a refusal of Read
empty : tidiness [] ≡ told 3 0 0 0
unfolding tidiness
empty = rw P7
