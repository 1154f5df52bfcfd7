-- What was written reads back as the same value, and its record is right.
use Prim.Native.Nat.{ℕ, ◌<◌, ◌^◌}
use native.Mathlib.Omega.{arith}
use mathlib.Core.Path.{◌≡◌, refl, ap, ◌∙◌}
use mathlib.Core.Bool.{true}
use mathlib.Core.List.{[], ◌∷◌}
use lib.Dec.{ltb}
use borrow.Author.Tests.{lt-ltb, ltb-true}
use Rattle.general.proofs.Booleans.{and_first, and_second}
use Rattle.records.specs.Kinds.{right, fields}
use Rattle.real.specs.Real.{real_of, bits_of, canonical}
use Rattle.real.proofs.Laws.{real_bits, bits_lt}
use Rattle.std.specs.Prelude.{Some, None}
use Rattle.inst.specs.declared.AddrSpace.{AddrSpace}
use Rattle.inst.specs.declared.AddrSpace.TheVariants as s
use Rattle.inst.specs.declared.CmpOp.{CmpOp}
use Rattle.inst.specs.declared.BoolOp.{BoolOp}
use Rattle.inst.specs.declared.IntOp.{IntOp}
use Rattle.inst.specs.declared.CheckKind.{CheckKind}
use Rattle.inst.specs.declared.Inst.{Inst}
use Rattle.inst.specs.declared.Inst.TheVariants as i
use Rattle.ops.specs.Ops.{space_in_range, cmp_num, bool_num, int_num, width_num, check_num}
use Rattle.ops.proofs.Laws.{cmp_back, cmp_lt, bool-back, bool_lt, int_back, int_lt, width_back, width_lt, check_back, check_lt, small, space_back, opt_back}
use Rattle.codec.specs.Codec.{word_of, low_of, high_of, inst_of, inst_record, with_stmt, words, in_range}

pub word_join : (v : ℕ) → word_of (low_of v) (high_of v) ≡ v
word_join v = omega arith

pub inst_back : (x : Inst) (n : ℕ) → in_range x ≡ true → inst_of (with_stmt (inst_record x) n) ≡ x
unfolding inst_of inst_record in_range
inst_back (i.Const d v) n h = ap (i.Const d) (word_join v)
inst_back (i.ConstF d v) n h = ap (i.ConstF d) (ap real_of (word_join (bits_of v)) ∙ real_bits v (and_first (canonical v) _ h))
inst_back (i.Move d a) n h = refl
inst_back (i.AddrOf d p f) n h = ap (λ (q : AddrSpace). i.AddrOf d q f) (space_back p (and_first (space_in_range p) _ h))
inst_back (i.Select d c a b) n h = refl
inst_back (i.Cmp o d a b) n h = ap (λ (q : CmpOp). i.Cmp q d a b) (cmp_back o)
inst_back (i.Bool o d a b) n h = ap (λ (q : BoolOp). i.Bool q d a b) (bool-back o)
inst_back (i.Bin o d a b) n h = ap (λ (q : IntOp). i.Bin q d a b) (int_back o)
inst_back (i.BinRange o d a b l u w) n h = ap (λ (q : IntOp). i.BinRange q d a b l u w) (int_back o)
inst_back (i.Load d a w) n h = ap (i.Load d a) (width_back w)
inst_back (i.Store a v w) n h = ap (i.Store a v) (width_back w)
inst_back (i.Check k v l u w) n h = ap (λ (q : CheckKind). i.Check q v l u w) (check_back k)
inst_back (i.MakeDope a p) n h = refl
inst_back (i.DopeLen d p m) n h = ap (i.DopeLen d p) (small m (and_first (ltb m 256) _ h))
inst_back (i.BoundsLen d l r k) n h = refl
inst_back (i.Alloc d m) n h = refl
inst_back (i.TakeBounds l r k) n h = refl
inst_back (i.CallNative m a d) n h = ap (i.CallNative m a) (opt_back d)
inst_back (i.Br t) n h = refl
inst_back (i.CondBr c t f) n h = refl
inst_back (i.Case v t) n h = refl
inst_back (i.Ret v) n h = ap i.Ret (opt_back v)
inst_back (i.Unreachable w) n h = refl
inst_back i.Stmt n h = refl

pub inst-right : (x : Inst) (n : ℕ) → in_range x ≡ true → right (with_stmt (inst_record x) n) ≡ true
unfolding right inst_record in_range
inst-right (i.Const d v) n h = refl
inst-right (i.ConstF d v) n h = refl
inst-right (i.Move d a) n h = refl
inst-right (i.AddrOf d s.Frame f) n h = refl
inst-right (i.AddrOf d (s.Up m) f) n h = rw (and_first (ltb m 256) _ h)
inst-right (i.AddrOf d s.Inst f) n h = refl
inst-right (i.AddrOf d (s.Pkg m) f) n h = refl
inst-right (i.AddrOf d (s.Const m) f) n h = refl
inst-right (i.AddrOf d s.Shared f) n h = refl
inst-right (i.Select d c a b) n h = refl
inst-right (i.Cmp o d a b) n h = rw (lt-ltb (cmp_num o) 6 (cmp_lt o))
inst-right (i.Bool o d a b) n h = rw (lt-ltb (bool_num o) 4 (bool_lt o))
inst-right (i.Bin o d a b) n h = rw (lt-ltb (int_num o) 7 (int_lt o))
inst-right (i.BinRange o d a b l u w) n h = rw (lt-ltb (int_num o) 7 (int_lt o))
inst-right (i.Load d a w) n h = rw (lt-ltb (width_num w) 4 (width_lt w))
inst-right (i.Store a v w) n h = rw (lt-ltb (width_num w) 4 (width_lt w))
inst-right (i.Check k v l u w) n h = rw (lt-ltb (check_num k) 5 (check_lt k))
inst-right (i.MakeDope a p) n h = refl
inst-right (i.DopeLen d p m) n h = rw (and_first (ltb m 256) _ h)
inst-right (i.BoundsLen d l r k) n h = refl
inst-right (i.Alloc d m) n h = refl
inst-right (i.TakeBounds l r k) n h = refl
inst-right (i.CallNative m a (Some d)) n h = refl
inst-right (i.CallNative m a None) n h = refl
inst-right (i.Br t) n h = refl
inst-right (i.CondBr c t f) n h = refl
inst-right (i.Case v t) n h = refl
inst-right (i.Ret (Some v)) n h = refl
inst-right (i.Ret None) n h = refl
inst-right (i.Unreachable w) n h = refl
inst-right i.Stmt n h = refl

low_fits : (v : ℕ) → ltb (low_of v) (2 ^ 32) ≡ true
low_fits v = lt-ltb (low_of v) (2 ^ 32) (omega arith)

high_fits : (v : ℕ) → v < 2 ^ 64 → ltb (high_of v) (2 ^ 32) ≡ true
high_fits v h = lt-ltb (high_of v) (2 ^ 32) (omega arith)

narrow : (n : ℕ) → ltb n 256 ≡ true → ltb n (2 ^ 32) ≡ true
narrow n h = let k = ltb-true n 256 h in lt-ltb n (2 ^ 32) (omega arith)

split : (v d : ℕ) → v < 2 ^ 64 → words (d ∷ []) ≡ true → words (d ∷ low_of v ∷ high_of v ∷ []) ≡ true
split v d h w = rw (and_first (ltb d (2 ^ 32)) true w, low_fits v, high_fits v h)

-- its fields are 32-bit
pub inst_words : (x : Inst) → in_range x ≡ true → words (fields (inst_record x)) ≡ true
unfolding inst_record in_range
inst_words (i.Const d v) h = split v d.0 (ltb-true v (2 ^ 64) (and_first (ltb v (2 ^ 64)) _ h)) (and_second (ltb v (2 ^ 64)) _ h)
inst_words (i.ConstF d v) h = split (bits_of v) d.0 (bits_lt v (and_first (canonical v) _ h)) (and_second (canonical v) _ h)
inst_words (i.Move d a) h = h
inst_words (i.AddrOf d s.Frame f) h = h
inst_words (i.AddrOf d (s.Up m) f) h =
    let w = and_second (ltb m 256) _ h in
    rw (and_first (ltb d.0 (2 ^ 32)) _ w, narrow m (and_first (ltb m 256) _ h), and_second (ltb d.0 (2 ^ 32)) _ w)
inst_words (i.AddrOf d s.Inst f) h = h
inst_words (i.AddrOf d (s.Pkg m) f) h =
    let w = and_second (ltb m (2 ^ 32)) _ h in
    rw (and_first (ltb d.0 (2 ^ 32)) _ w, and_first (ltb m (2 ^ 32)) _ h, and_second (ltb d.0 (2 ^ 32)) _ w)
inst_words (i.AddrOf d (s.Const m) f) h =
    let w = and_second (ltb m (2 ^ 32)) _ h in
    rw (and_first (ltb d.0 (2 ^ 32)) _ w, and_first (ltb m (2 ^ 32)) _ h, and_second (ltb d.0 (2 ^ 32)) _ w)
inst_words (i.AddrOf d s.Shared f) h = h
inst_words (i.Select d c a b) h = h
inst_words (i.Cmp o d a b) h = h
inst_words (i.Bool o d a b) h = h
inst_words (i.Bin o d a b) h = h
inst_words (i.BinRange o d a b l u w) h = h
inst_words (i.Load d a w) h = h
inst_words (i.Store a v w) h = h
inst_words (i.Check k v l u w) h = h
inst_words (i.MakeDope a p) h = h
inst_words (i.DopeLen d p m) h =
    let w = and_second (ltb m 256) _ h in
    rw (and_first (ltb d.0 (2 ^ 32)) _ w, and_first (ltb p.0 (2 ^ 32)) _ (and_second (ltb d.0 (2 ^ 32)) _ w), narrow m (and_first (ltb m 256) _ h))
inst_words (i.BoundsLen d l r k) h = h
inst_words (i.Alloc d m) h = h
inst_words (i.TakeBounds l r k) h = h
inst_words (i.CallNative m a d) h = h
inst_words (i.Br t) h = h
inst_words (i.CondBr c t f) h = h
inst_words (i.Case v t) h = h
inst_words (i.Ret v) h = h
inst_words (i.Unreachable w) h = h
inst_words i.Stmt h = h
