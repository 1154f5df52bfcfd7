-- An instruction with its registers exchanged for others that exist names what exists.
use Prim.Native.Nat.{ℕ, ◌≤◌, ◌<◌, ◌^◌}
use native.Mathlib.Omega.{arith}
use mathlib.Core.Path.{◌≡◌, refl}
use mathlib.Core.Bool.{Bool, true, false, ◌&&◌}
use mathlib.Core.List.{List, [], ◌∷◌}
use borrow.Author.Tests.{ltb-true, lt-ltb}
use lib.Dec.{ltb}
use Rattle.general.proofs.Booleans.{and_first, and_second}
use Rattle.records.specs.Kinds.{number, space_number}
use Rattle.record_rules.specs.declared.exist.Counts.{Counts}
use Rattle.real.specs.Real.{canonical}
use Rattle.inst.specs.Inst.{kind_of}
use Rattle.inst.specs.declared.Reg.{Reg}
use Rattle.std.specs.Prelude.{Some, None}
use Rattle.inst.specs.declared.BoolOp.{BoolOp}
use Rattle.inst.specs.declared.BoolOp.TheVariants as b
use Rattle.inst.specs.declared.CheckKind.{CheckKind}
use Rattle.inst.specs.declared.CheckKind.TheVariants as k
use Rattle.inst.specs.declared.Inst.{Inst}
use Rattle.inst.specs.declared.Inst.TheVariants as i
use Rattle.ops.specs.Ops.{space_num, space_arg}
use Rattle.ops.specs.Ops.{space_in_range}
use Rattle.codec.specs.Codec.{inst_record, words, in_range}
use Rattle.roles.specs.Exchange.{bool_second, check_low, check_high, exchanged}
use Rattle.step_laws.proofs.Names.{Named, with_regs, more_exists}

-- a second bound over the first, through the fields that an op may leave out
module _ (σ : ℕ → ℕ) {p q : ℕ} (read : (r : ℕ) → r < p → σ r < q) (wide : p ≤ q) where
  bool_second_lem : (op : BoolOp) (r : Reg) → r.0 < p → (bool_second op σ r).0 < q
  bool_second_lem b.And r h = read r.0 h
  bool_second_lem b.Or r h = read r.0 h
  bool_second_lem b.Xor r h = read r.0 h
  bool_second_lem b.Not r h = omega arith

  check_low_lem : (op : CheckKind) (r : Reg) → r.0 < p → (check_low op σ r).0 < q
  check_low_lem k.Range r h = read r.0 h
  check_low_lem k.Index r h = read r.0 h
  check_low_lem k.IndexDown r h = read r.0 h
  check_low_lem k.Length r h = read r.0 h
  check_low_lem k.Null r h = omega arith

  check_high_lem : (op : CheckKind) (r : Reg) → r.0 < p → (check_high op σ r).0 < q
  check_high_lem k.Range r h = read r.0 h
  check_high_lem k.Index r h = read r.0 h
  check_high_lem k.IndexDown r h = read r.0 h
  check_high_lem k.Length r h = omega arith
  check_high_lem k.Null r h = omega arith

module _ (σ τ : ℕ → ℕ) (n : Counts) (m : ℕ) (more : n.registers ≤ m)
    (read : (r : ℕ) → r < n.registers → σ r < m) (write : (r : ℕ) → r < n.registers → τ r < m) where
  from : {r : ℕ} → r < n.registers → σ r < m
  from {r} = read r

  to : {r : ℕ} → r < n.registers → τ r < m
  to {r} = write r

  second_in : (op : BoolOp) (r : Reg) → r.0 < n.registers → (bool_second op σ r).0 < m
  second_in = bool_second_lem σ read more

  low-in : (op : CheckKind) (r : Reg) → r.0 < n.registers → (check_low op σ r).0 < m
  low-in = check_low_lem σ read more

  high-in : (op : CheckKind) (r : Reg) → r.0 < n.registers → (check_high op σ r).0 < m
  high-in = check_high_lem σ read more

  pub exchange_named : (x : Inst) → Named n x → Named (with_regs m n) (exchanged σ τ x)
  unfolding inst_record exchanged
  exchange_named (i.Const d v) h = (to h.0, h.1)
  exchange_named (i.ConstF d v) h = (to h.0, h.1)
  exchange_named (i.Move d a) h = (to h.0, (from h.1.0, tt))
  exchange_named (i.AddrOf d p f) h = (to h.0, more_exists n m more (space_number (space_num p) ∷ number ∷ []) (space_arg p ∷ f ∷ 0 ∷ 0 ∷ 0 ∷ []) h.1)
  exchange_named (i.Select d c a b) h = (to h.0, (from h.1.0, (from h.1.1.0, (from h.1.1.1.0, tt))))
  exchange_named (i.Cmp o d a b) h = (to h.0, (from h.1.0, (from h.1.1.0, tt)))
  exchange_named (i.Bool o d a b) h = (to h.0, (from h.1.0, (second_in o b h.1.1.0, tt)))
  exchange_named (i.Bin o d a b) h = (to h.0, (from h.1.0, (from h.1.1.0, tt)))
  exchange_named (i.BinRange o d a b l u w) h =
      (to h.0, (from h.1.0, (from h.1.1.0, (from h.1.1.1.0, (from h.1.1.1.1.0, h.1.1.1.1.1)))))
  exchange_named (i.Load d a w) h = (to h.0, (from h.1.0, tt))
  exchange_named (i.Store a v w) h = (from h.0, (from h.1.0, tt))
  exchange_named (i.Check k v l u w) h = (from h.0, (low-in k l h.1.0, (high-in k u h.1.1.0, h.1.1.1)))
  exchange_named (i.MakeDope a p) h = (from h.0, h.1)
  exchange_named (i.DopeLen d p s) h = (to h.0, (from h.1.0, h.1.1))
  exchange_named (i.BoundsLen d l r k) h = (to h.0, (from h.1.0, (from h.1.1.0, (from h.1.1.1.0, tt))))
  exchange_named (i.Alloc d s) h = (to h.0, (from h.1.0, tt))
  exchange_named (i.TakeBounds l r k) h = (to h.0, (to h.1.0, (to h.1.1.0, tt)))
  exchange_named (i.CallNative x a (Some d)) h = (tt, (h.1.0, (tt, (to h.1.1.1.0, tt))))
  exchange_named (i.CallNative x a None) h = h
  exchange_named (i.Br t) h = h
  exchange_named (i.CondBr c t f) h = (from h.0, h.1)
  exchange_named (i.Case v t) h = (from h.0, h.1)
  exchange_named (i.Ret (Some v)) h = (from h.0, tt)
  exchange_named (i.Ret None) h = h
  exchange_named (i.Unreachable w) h = h
  exchange_named i.Stmt h = h

-- words, one by one
abbrev Turn : List ℕ → List ℕ → Type 0
Turn [] [] = Unit {0}
Turn [] (q ∷ qs) = ⊥
Turn (p ∷ ps) [] = Unit {0}
Turn (p ∷ ps) (q ∷ qs) = (p < 2 ^ 32 → q < 2 ^ 32) × Turn ps qs

turn : (ps qs : List ℕ) → Turn ps qs → words ps ≡ true → words qs ≡ true
turn [] [] t e = refl
turn [] (q ∷ qs) t e = absurd t
turn (p ∷ ps) [] t e = refl
turn (p ∷ ps) (q ∷ qs) t e =
    let l = ltb p (2 ^ 32) in
    rw (lt-ltb q (2 ^ 32) (t.0 (ltb-true p (2 ^ 32) (and_first l _ e))), turn ps qs t.1 (and_second l _ e))

keep : (a : Bool) {b c : Bool} → (b ≡ true → c ≡ true) → (a && b) ≡ true → (a && c) ≡ true
keep true g e = g e
keep false g e = e

same : {p : ℕ} → p < 2 ^ 32 → p < 2 ^ 32
same h = h

module _ (σ τ : ℕ → ℕ) (from : (r : ℕ) → r < 2 ^ 32 → σ r < 2 ^ 32) (to : (r : ℕ) → r < 2 ^ 32 → τ r < 2 ^ 32) where
  second_word : (op : BoolOp) (r : Reg) → r.0 < 2 ^ 32 → (bool_second op σ r).0 < 2 ^ 32
  second_word = bool_second_lem σ from (omega arith)

  low_word : (op : CheckKind) (r : Reg) → r.0 < 2 ^ 32 → (check_low op σ r).0 < 2 ^ 32
  low_word = check_low_lem σ from (omega arith)

  high_word : (op : CheckKind) (r : Reg) → r.0 < 2 ^ 32 → (check_high op σ r).0 < 2 ^ 32
  high_word = check_high_lem σ from (omega arith)

  pub exchange_range : (x : Inst) → in_range x ≡ true → in_range (exchanged σ τ x) ≡ true
  unfolding in_range exchanged
  exchange_range (i.Const d v) h = keep (ltb v (2 ^ 64)) (turn (d.0 ∷ []) (τ d.0 ∷ []) (to d.0, tt)) h
  exchange_range (i.ConstF d v) h = keep (canonical v) (turn (d.0 ∷ []) (τ d.0 ∷ []) (to d.0, tt)) h
  exchange_range (i.Move d a) h = turn (d.0 ∷ a.0 ∷ []) (τ d.0 ∷ σ a.0 ∷ []) (to d.0, (from a.0, tt)) h
  exchange_range (i.AddrOf d p f) h = keep (space_in_range p) (turn (d.0 ∷ f ∷ []) (τ d.0 ∷ f ∷ []) (to d.0, (same, tt))) h
  exchange_range (i.Select d c a b) h =
      turn (d.0 ∷ c.0 ∷ a.0 ∷ b.0 ∷ [])
      (τ d.0 ∷ σ c.0 ∷ σ a.0 ∷ σ b.0 ∷ [])
      (to d.0, (from c.0, (from a.0, (from b.0, tt)))) h
  exchange_range (i.Cmp o d a b) h = turn (d.0 ∷ a.0 ∷ b.0 ∷ []) (τ d.0 ∷ σ a.0 ∷ σ b.0 ∷ []) (to d.0, (from a.0, (from b.0, tt))) h
  exchange_range (i.Bool o d a b) h =
      turn (d.0 ∷ a.0 ∷ b.0 ∷ [])
      (τ d.0 ∷ σ a.0 ∷ (bool_second o σ b).0 ∷ [])
      (to d.0, (from a.0, (second_word o b, tt))) h
  exchange_range (i.Bin o d a b) h = turn (d.0 ∷ a.0 ∷ b.0 ∷ []) (τ d.0 ∷ σ a.0 ∷ σ b.0 ∷ []) (to d.0, (from a.0, (from b.0, tt))) h
  exchange_range (i.BinRange o d a b l u w) h =
      turn (d.0 ∷ a.0 ∷ b.0 ∷ l.0 ∷ u.0 ∷ w ∷ [])
      (τ d.0 ∷ σ a.0 ∷ σ b.0 ∷ σ l.0 ∷ σ u.0 ∷ w ∷ [])
      (to d.0, (from a.0, (from b.0, (from l.0, (from u.0, (same, tt)))))) h
  exchange_range (i.Load d a w) h = turn (d.0 ∷ a.0 ∷ []) (τ d.0 ∷ σ a.0 ∷ []) (to d.0, (from a.0, tt)) h
  exchange_range (i.Store a v w) h = turn (a.0 ∷ v.0 ∷ []) (σ a.0 ∷ σ v.0 ∷ []) (from a.0, (from v.0, tt)) h
  exchange_range (i.Check k v l u w) h =
      turn (v.0 ∷ l.0 ∷ u.0 ∷ w ∷ [])
      (σ v.0 ∷ (check_low k σ l).0 ∷ (check_high k σ u).0 ∷ w ∷ [])
      (from v.0, (low_word k l, (high_word k u, (same, tt)))) h
  exchange_range (i.MakeDope a p) h = turn (a.0 ∷ p.start ∷ p.len ∷ []) (σ a.0 ∷ p.start ∷ p.len ∷ []) (from a.0, (same, (same, tt))) h
  exchange_range (i.DopeLen d p s) h = keep (ltb s 256) (turn (d.0 ∷ p.0 ∷ []) (τ d.0 ∷ σ p.0 ∷ []) (to d.0, (from p.0, tt))) h
  exchange_range (i.BoundsLen d l r k) h =
      turn (d.0 ∷ l.0 ∷ r.0 ∷ k.0 ∷ [])
      (τ d.0 ∷ σ l.0 ∷ σ r.0 ∷ σ k.0 ∷ [])
      (to d.0, (from l.0, (from r.0, (from k.0, tt)))) h
  exchange_range (i.Alloc d s) h = turn (d.0 ∷ s.0 ∷ []) (τ d.0 ∷ σ s.0 ∷ []) (to d.0, (from s.0, tt)) h
  exchange_range (i.TakeBounds l r k) h = turn (l.0 ∷ r.0 ∷ k.0 ∷ []) (τ l.0 ∷ τ r.0 ∷ τ k.0 ∷ []) (to l.0, (to r.0, (to k.0, tt))) h
  exchange_range (i.CallNative x a (Some d)) h =
      turn (x ∷ a.start ∷ a.len ∷ d.0 ∷ [])
      (x ∷ a.start ∷ a.len ∷ τ d.0 ∷ [])
      (same, (same, (same, (to d.0, tt)))) h
  exchange_range (i.CallNative x a None) h = h
  exchange_range (i.Br t) h = h
  exchange_range (i.CondBr c t f) h = turn (c.0 ∷ t.0 ∷ f.0 ∷ []) (σ c.0 ∷ t.0 ∷ f.0 ∷ []) (from c.0, (same, (same, tt))) h
  exchange_range (i.Case v t) h = turn (v.0 ∷ t ∷ []) (σ v.0 ∷ t ∷ []) (from v.0, (same, tt)) h
  exchange_range (i.Ret (Some v)) h = turn (v.0 ∷ []) (σ v.0 ∷ []) (from v.0, tt) h
  exchange_range (i.Ret None) h = h
  exchange_range (i.Unreachable w) h = h
  exchange_range i.Stmt h = h

pub exchange_kind : (σ τ : ℕ → ℕ) (x : Inst) → kind_of (exchanged σ τ x) ≡ kind_of x
unfolding exchanged
exchange_kind σ τ (i.Const d v) = refl
exchange_kind σ τ (i.ConstF d v) = refl
exchange_kind σ τ (i.Move d a) = refl
exchange_kind σ τ (i.AddrOf d p f) = refl
exchange_kind σ τ (i.Select d c a b) = refl
exchange_kind σ τ (i.Cmp o d a b) = refl
exchange_kind σ τ (i.Bool o d a b) = refl
exchange_kind σ τ (i.Bin o d a b) = refl
exchange_kind σ τ (i.BinRange o d a b l h w) = refl
exchange_kind σ τ (i.Load d a w) = refl
exchange_kind σ τ (i.Store a v w) = refl
exchange_kind σ τ (i.Check k v l h w) = refl
exchange_kind σ τ (i.MakeDope a p) = refl
exchange_kind σ τ (i.DopeLen d p n) = refl
exchange_kind σ τ (i.BoundsLen d l r k) = refl
exchange_kind σ τ (i.Alloc d n) = refl
exchange_kind σ τ (i.TakeBounds l r k) = refl
exchange_kind σ τ (i.CallNative n a d) = refl
exchange_kind σ τ (i.Br t) = refl
exchange_kind σ τ (i.CondBr c t f) = refl
exchange_kind σ τ (i.Case v t) = refl
exchange_kind σ τ (i.Ret v) = refl
exchange_kind σ τ (i.Unreachable w) = refl
exchange_kind σ τ i.Stmt = refl
