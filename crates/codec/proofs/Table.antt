-- What the table of instructions has at a record's kind.
use Prim.Native.Nat.{ℕ, ◌≤◌, ◌<◌, ◌%◌}
use mathlib.Core.Path.{◌≡◌, refl, sym, ap, ◌∙◌}
use mathlib.Core.Logic.{◌⊎◌, inl, inr}
use lib.ListN.{get_or, get_or-eq_default}
use Rattle.records.specs.declared.Record.{Record}
use Rattle.general.proofs.Numbers.{below, order}
use Rattle.real.specs.Real.{real_of}
use Rattle.inst.specs.declared.Kind.{Kind}
use Rattle.inst.specs.declared.Kind.TheVariants as k
use Rattle.inst.specs.declared.Inst.{Inst}
use Rattle.inst.specs.declared.Inst.TheVariants as i
use Rattle.inst.specs.declared.Inst.TheVariants.{Stmt}
use Rattle.inst.specs.Kinds.{kind_at}
use Rattle.inst.proofs.Numbers.{kind-past}
use Rattle.ops.specs.Ops.{cmp_of, bool_of, int_of, width_of, check_of, space_of, opt_of}
use Rattle.codec.specs.Codec.{word_of, reg_of, block_of, regs_of, insts_of, inst_of}

pub inst-at : (r : Record) (k : ℕ) → r.kind ≡ k → get_or (insts_of r) k Stmt ≡ inst_of r
unfolding inst_of
inst-at r k e = ap (λ (n : ℕ). get_or (insts_of r) n Stmt) (sym e)

pub inst-past : (r : Record) → 23 ≤ r.kind → Stmt ≡ inst_of r
unfolding inst_of
inst-past r h = sym (get_or-eq_default (insts_of r) Stmt h)

-- the instruction of a record of some kind
abbrev pub of_kind : Record → Kind → Inst
of_kind r k.Const = i.Const (reg_of r.p1) (word_of r.p2 r.p3)
of_kind r k.ConstF = i.ConstF (reg_of r.p1) (real_of (word_of r.p2 r.p3))
of_kind r k.Move = i.Move (reg_of r.p1) (reg_of r.p2)
of_kind r k.AddrOf = i.AddrOf (reg_of r.p1) (space_of r.op r.p2) r.p3
of_kind r k.Select = i.Select (reg_of r.p1) (reg_of r.p2) (reg_of r.p3) (reg_of r.p4)
of_kind r k.Cmp = i.Cmp (cmp_of r.op) (reg_of r.p1) (reg_of r.p2) (reg_of r.p3)
of_kind r k.Bool = i.Bool (bool_of r.op) (reg_of r.p1) (reg_of r.p2) (reg_of r.p3)
of_kind r k.Bin = i.Bin (int_of r.op) (reg_of r.p1) (reg_of r.p2) (reg_of r.p3)
of_kind r k.BinRange = i.BinRange (int_of r.op) (reg_of r.p1) (reg_of r.p2) (reg_of r.p3) (reg_of r.p4) (reg_of r.p5) r.p6
of_kind r k.Load = i.Load (reg_of r.p1) (reg_of r.p2) (width_of r.op)
of_kind r k.Store = i.Store (reg_of r.p1) (reg_of r.p2) (width_of r.op)
of_kind r k.Check = i.Check (check_of r.op) (reg_of r.p1) (reg_of r.p2) (reg_of r.p3) r.p4
of_kind r k.MakeDope = i.MakeDope (reg_of r.p1) (regs_of r.p2 r.p3)
of_kind r k.DopeLen = i.DopeLen (reg_of r.p1) (reg_of r.p2) (r.p3 % 256)
of_kind r k.BoundsLen = i.BoundsLen (reg_of r.p1) (reg_of r.p2) (reg_of r.p3) (reg_of r.p4)
of_kind r k.Alloc = i.Alloc (reg_of r.p1) (reg_of r.p2)
of_kind r k.TakeBounds = i.TakeBounds (reg_of r.p1) (reg_of r.p2) (reg_of r.p3)
of_kind r k.CallNative = i.CallNative r.p1 (regs_of r.p2 r.p3) (opt_of r.op r.p4)
of_kind r k.Br = i.Br (block_of r.p1)
of_kind r k.CondBr = i.CondBr (reg_of r.p1) (block_of r.p2) (block_of r.p3)
of_kind r k.Case = i.Case (reg_of r.p1) r.p2
of_kind r k.Ret = i.Ret (opt_of r.op r.p1)
of_kind r k.Unreachable = i.Unreachable r.p1
of_kind r k.Stmt = Stmt

-- a record's instruction by its kind
pub inst_by_kind : (r : Record) → inst_of r ≡ of_kind r (kind_at r.kind)
unfolding inst_of
inst_by_kind r = go (order r.kind 23)
  where
    go : (r.kind < 23) ⊎ (23 ≤ r.kind) → get_or (insts_of r) r.kind Stmt ≡ of_kind r (kind_at r.kind)
    go (inl h) = below (λ (n : ℕ). get_or (insts_of r) n Stmt ≡ of_kind r (kind_at n)) 23 (((((((((((((((((((((((tt, refl), refl), refl), refl), refl), refl), refl), refl), refl), refl), refl), refl), refl), refl), refl), refl), refl), refl), refl), refl), refl), refl), refl) r.kind h
    go (inr h) = get_or-eq_default (insts_of r) Stmt h ∙ ap (of_kind r) (sym (kind-past r.kind h))
