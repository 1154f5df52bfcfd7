-- Every register that an instruction writes or reads exists, where what it names does.
use Prim.Native.Nat.{ℕ, ◌<◌}
use mathlib.Core.List.{◌++◌}
use Rattle.record_rules.specs.declared.exist.Counts.{Counts}
use Rattle.std.specs.Prelude.{Some, None}
use Rattle.inst.specs.declared.BoolOp.TheVariants as b
use Rattle.inst.specs.declared.CheckKind.TheVariants as k
use Rattle.inst.specs.declared.Inst.{Inst}
use Rattle.inst.specs.declared.Inst.TheVariants as i
use Rattle.codec.specs.Codec.{inst_record}
use Rattle.roles.specs.Roles.{defs_of, uses_of}
use Rattle.round_trips.specs.WellFormed.{All}
use Rattle.step_laws.proofs.Names.{Named}

module _ (n : Counts) where
  abbrev Low : ℕ → Type 0
  Low r = r < n.registers

  pub regs-exist : (x : Inst) → Named n x → All Low (defs_of x ++ uses_of x)
  unfolding inst_record
  regs-exist (i.Const d v) h = (h.0, tt)
  regs-exist (i.ConstF d v) h = (h.0, tt)
  regs-exist (i.Move d s) h = (h.0, (h.1.0, tt))
  regs-exist (i.AddrOf d s f) h = (h.0, tt)
  regs-exist (i.Select d c x y) h = (h.0, (h.1.0, (h.1.1.0, (h.1.1.1.0, tt))))
  regs-exist (i.Cmp op d x y) h = (h.0, (h.1.0, (h.1.1.0, tt)))
  regs-exist (i.Bool b.And d x y) h = (h.0, (h.1.0, (h.1.1.0, tt)))
  regs-exist (i.Bool b.Or d x y) h = (h.0, (h.1.0, (h.1.1.0, tt)))
  regs-exist (i.Bool b.Xor d x y) h = (h.0, (h.1.0, (h.1.1.0, tt)))
  regs-exist (i.Bool b.Not d x y) h = (h.0, (h.1.0, tt))
  regs-exist (i.Bin op d x y) h = (h.0, (h.1.0, (h.1.1.0, tt)))
  regs-exist (i.BinRange op d x y l u w) h = (h.0, (h.1.0, (h.1.1.0, (h.1.1.1.0, (h.1.1.1.1.0, tt)))))
  regs-exist (i.Load d a w) h = (h.0, (h.1.0, tt))
  regs-exist (i.Store a s w) h = (h.0, (h.1.0, tt))
  regs-exist (i.Check k.Range v l u w) h = (h.0, (h.1.0, (h.1.1.0, tt)))
  regs-exist (i.Check k.Index v l u w) h = (h.0, (h.1.0, (h.1.1.0, tt)))
  regs-exist (i.Check k.IndexDown v l u w) h = (h.0, (h.1.0, (h.1.1.0, tt)))
  regs-exist (i.Check k.Length v l u w) h = (h.0, (h.1.0, tt))
  regs-exist (i.Check k.Null v l u w) h = (h.0, tt)
  regs-exist (i.MakeDope a p) h = (h.0, tt)
  regs-exist (i.DopeLen d p m) h = (h.0, (h.1.0, tt))
  regs-exist (i.BoundsLen d l r e) h = (h.0, (h.1.0, (h.1.1.0, (h.1.1.1.0, tt))))
  regs-exist (i.Alloc d s) h = (h.0, (h.1.0, tt))
  regs-exist (i.TakeBounds l r e) h = (h.0, (h.1.0, (h.1.1.0, tt)))
  regs-exist (i.CallNative m a (Some d)) h = (h.1.1.1.0, tt)
  regs-exist (i.CallNative m a None) h = tt
  regs-exist (i.Br t) h = tt
  regs-exist (i.CondBr c t f) h = (h.0, tt)
  regs-exist (i.Case v t) h = (h.0, tt)
  regs-exist (i.Ret (Some v)) h = (h.0, tt)
  regs-exist (i.Ret None) h = tt
  regs-exist (i.Unreachable w) h = tt
  regs-exist i.Stmt h = tt
