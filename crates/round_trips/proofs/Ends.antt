-- Each block ends in its only terminator: of records and of instructions.
use Prim.Native.Nat.{ℕ, suc, ◌+◌}
use native.Mathlib.Omega.{arith}
use mathlib.Core.Path.{◌≡◌, refl, sym, ap, ◌∙◌}
use mathlib.Core.Bool.{true, false, not}
use mathlib.Core.List.{List, [], ◌∷◌, map}
use mathlib.Core.Logic.{◌⊎◌, inl, inr}
use borrow.Author.Tests.{eqb-true, eq-eqb}
use lib.ListN.{length, length-map}
use Rattle.general.proofs.Booleans.{cases}
use Rattle.records.specs.declared.Record.{Record}
use Rattle.layout.specs.Walk.{lead}
use Rattle.layout.proofs.Walks.{walk_pass, walk_stop}
use Rattle.read.specs.Structure.{terminator_kind, terminator, ends_well}
use Rattle.inst.specs.Inst.{kind_of}
use Rattle.ends.specs.Ends.{terminator_of}
use Rattle.inst.specs.declared.Code.{Code}
use Rattle.inst.specs.declared.Inst.{Inst}
use Rattle.inst.specs.declared.Inst.TheVariants as i
use Rattle.codec.specs.Codec.{code_of, record_of, inst_record}
use Rattle.round_trips.specs.WellFormed.{All, Ends}

pub record_kind : (x : Inst) → (inst_record x).kind ≡ kind_of x
unfolding inst_record
record_kind (i.Const d v) = refl
record_kind (i.ConstF d v) = refl
record_kind (i.Move d a) = refl
record_kind (i.AddrOf d p f) = refl
record_kind (i.Select d c a b) = refl
record_kind (i.Cmp o d a b) = refl
record_kind (i.Bool o d a b) = refl
record_kind (i.Bin o d a b) = refl
record_kind (i.BinRange o d a b l h w) = refl
record_kind (i.Load d a w) = refl
record_kind (i.Store a v w) = refl
record_kind (i.Check k v l h w) = refl
record_kind (i.MakeDope a p) = refl
record_kind (i.DopeLen d p n) = refl
record_kind (i.BoundsLen d l r k) = refl
record_kind (i.Alloc d n) = refl
record_kind (i.TakeBounds l r k) = refl
record_kind (i.CallNative n a d) = refl
record_kind (i.Br t) = refl
record_kind (i.CondBr c t f) = refl
record_kind (i.Case v t) = refl
record_kind (i.Ret v) = refl
record_kind (i.Unreachable w) = refl
record_kind i.Stmt = refl

pub record_ends : (x : Code) → terminator (record_of x) ≡ terminator_of x.inst
record_ends x = ap terminator_kind (record_kind x.inst)

-- the instructions before the first terminator
abbrev before : List Record → ℕ
before rs = lead (λ r. not (terminator r)) rs

go_on : (r : Record) (rs : List Record) → terminator r ≡ false → before (r ∷ rs) ≡ suc (before rs)
go_on r rs e = walk_pass (λ s r. not (terminator r)) (λ s r. s) rs (ap not e)

stop : (r : Record) (rs : List Record) → terminator r ≡ true → before (r ∷ rs) ≡ 0
stop r rs e = walk_stop (λ s r. not (terminator r)) (λ s r. s) rs (ap not e)

ends-count : (c : List Code) → Ends c → before (map record_of c) + 1 ≡ length c
ends-count [] h = absurd h
ends-count (x ∷ []) h = let e = stop (record_of x) [] (record_ends x ∙ h) in omega arith
ends-count (x ∷ y ∷ c) h =
    let e = go_on (record_of x) (map record_of (y ∷ c)) (record_ends x ∙ h.0) in
    let i = ends-count (y ∷ c) h.1 in
    omega arith

pub written-ends : (c : List Code) → Ends c → ends_well (map record_of c) ≡ true
written-ends c h = eq-eqb (before (map record_of c) + 1) (length (map record_of c)) (ends-count c h ∙ sym (length-map c record_of))

-- a record that is written as it was read
abbrev pub Back : Record → Type 0
Back r = record_of (code_of r) ≡ r

code-ends : (r : Record) → Back r → terminator_of (code_of r).inst ≡ terminator r
code-ends r e = sym (record_ends (code_of r)) ∙ ap terminator e

count-ends : (rs : List Record) → All Back rs → before rs + 1 ≡ length rs → Ends (map code_of rs)
count-ends [] h e = absurd (omega arith)
count-ends (r ∷ []) h e = by (cases (terminator r))
  where
    by : (terminator r ≡ true) ⊎ (terminator r ≡ false) → terminator_of (code_of r).inst ≡ true
    by (inl t) = code-ends r h.0 ∙ t
    by (inr t) = absurd (let g = go_on r [] t in omega arith)
count-ends (r ∷ s ∷ rs) h e = by (cases (terminator r)) (count-ends (s ∷ rs) h.1)
  where
    by : (terminator r ≡ true) ⊎ (terminator r ≡ false) → (before (s ∷ rs) + 1 ≡ suc (length rs) → Ends (map code_of (s ∷ rs))) → Ends (map code_of (r ∷ s ∷ rs))
    by (inl t) k = absurd (let g = stop r (s ∷ rs) t in omega arith)
    by (inr t) k = (code-ends r h.0 ∙ t, k (let g = go_on r (s ∷ rs) t in omega arith))

pub read-ends : (rs : List Record) → All Back rs → ends_well rs ≡ true → Ends (map code_of rs)
read-ends rs h e = count-ends rs h (eqb-true (before rs + 1) (length rs) e)
