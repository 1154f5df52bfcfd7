-- Laws of some code's instructions and of how it ends.
use Prim.Native.Nat.{ℕ, zero, suc, ◌/◌}
use native.Mathlib.Omega.{arith}
use mathlib.Core.Path.{◌≡◌, refl, sym, ap, ◌∙◌}
use mathlib.Core.Bool.{Bool, ◌||◌}
use mathlib.Core.List.{List, [], ◌∷◌}
use lib.Dec.{eqb}
use lib.ListN.{length, length-map, get_or-map}
use Rattle.records.specs.declared.Record.{Record}
use Rattle.records.specs.Record.{records_of, record_at, blank}
use Rattle.records.proofs.Laws.{length_records}
use Rattle.inst.specs.declared.Code.{Code}
use Rattle.inst.specs.declared.Inst.{Inst}
use Rattle.inst.specs.declared.Inst.TheVariants as i
use Rattle.inst.specs.Inst.{kind_of}
use Rattle.codec.specs.Codec.{inst_of, code_of}
use Rattle.procedure.specs.Procedure.{codes_of}
use Rattle.ends.specs.declared.End.TheVariants as v
use Rattle.ends.specs.Forms.{form_of, fixed_of, is_fixed}
use Rattle.ends.specs.Ends.{code_at, view_of, end_of, lone_of}

-- there is one instruction for each record
pub length_codes : (b : List ℕ) → length (codes_of b) ≡ length b / 32
length_codes b = length-map (records_of b) code_of ∙ length_records b

pub code-at : (b : List ℕ) (k : ℕ) → code_at (codes_of b) k ≡ code_of (record_at b k)
code-at b k = get_or-map code_of (records_of b) k blank

-- the instruction of the record at a place
pub inst-there : (b : List ℕ) (k : ℕ) {r : Record} → r ≡ record_at b k → inst_of r ≡ (code_at (codes_of b) k).inst
inst-there b k e = ap inst_of e ∙ sym (ap (λ (x : Code). x.inst) (code-at b k))

-- Const, ConstF and AddrOf by their kinds
abbrev pub fixed_kind : ℕ → Bool
fixed_kind k = eqb k 0 || (eqb k 1 || eqb k 3)

pub fixed-kind : (x : Inst) → fixed_kind (kind_of x) ≡ is_fixed (fixed_of x)
unfolding fixed_of form_of
fixed-kind (i.Const d v) = refl
fixed-kind (i.ConstF d v) = refl
fixed-kind (i.Move d s) = refl
fixed-kind (i.AddrOf d s f) = refl
fixed-kind (i.Select d c x y) = refl
fixed-kind (i.Cmp op d x y) = refl
fixed-kind (i.Bool op d x y) = refl
fixed-kind (i.Bin op d x y) = refl
fixed-kind (i.BinRange op d x y l h w) = refl
fixed-kind (i.Load d a w) = refl
fixed-kind (i.Store a s w) = refl
fixed-kind (i.Check c v l h w) = refl
fixed-kind (i.MakeDope a p) = refl
fixed-kind (i.DopeLen d p n) = refl
fixed-kind (i.BoundsLen d l r e) = refl
fixed-kind (i.Alloc d s) = refl
fixed-kind (i.TakeBounds l r e) = refl
fixed-kind (i.CallNative n a d) = refl
fixed-kind (i.Br t) = refl
fixed-kind (i.CondBr c t f) = refl
fixed-kind (i.Case v t) = refl
fixed-kind (i.Ret v) = refl
fixed-kind (i.Unreachable w) = refl
fixed-kind i.Stmt = refl

-- the end is the view of the last instruction
pub end-last : (c : List Code) (n : ℕ) → length c ≡ suc n → end_of c ≡ view_of (code_at c n).inst
unfolding end_of
end-last [] n e = absurd (omega arith)
end-last (x ∷ []) zero e = refl
end-last (x ∷ []) (suc n) e = absurd (omega arith)
end-last (x ∷ (y ∷ c)) zero e = absurd (omega arith)
end-last (x ∷ (y ∷ c)) (suc n) e = end-last (y ∷ c) n (omega arith)

pub end_none : (c : List Code) → length c ≡ 0 → end_of c ≡ v.Other
unfolding end_of
end_none [] e = refl
end_none (x ∷ c) e = absurd (omega arith)

pub lone_one : (c : List Code) → length c ≡ 1 → lone_of c ≡ view_of (code_at c 0).inst
lone_one [] e = absurd (omega arith)
lone_one (x ∷ []) e = refl
lone_one (x ∷ (y ∷ c)) e = absurd (omega arith)

pub lone_none : (c : List Code) → (length c ≡ 1 → ⊥) → lone_of c ≡ v.Other
lone_none [] e = refl
lone_none (x ∷ []) e = absurd (e refl)
lone_none (x ∷ (y ∷ c)) e = refl
