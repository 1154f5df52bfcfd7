-- The laws of reading and writing an instruction.
use Prim.Native.Nat.{ℕ, ◌/◌, ◌≤◌, ◌<◌, ◌^◌}
use native.Mathlib.Omega.{arith}
use mathlib.Core.Path.{◌≡◌, refl, sym, ap, ◌∙◌}
use mathlib.Core.Bool.{Bool, true, ◌&&◌}
use mathlib.Core.List.{List, []}
use mathlib.Core.Logic.{◌⊎◌, inl, inr}
use lib.Dec.{ltb, eqb, lit<}
use lib.ListN.{length, get_or}
use borrow.Author.Tests.{lt-ltb, ltb-true, eqb-true}
use Rattle.general.proofs.Booleans.{and_first, and_second}
use Rattle.general.proofs.Numbers.{Below, below, order}
use Rattle.records.specs.declared.Record.{Record}
use Rattle.records.specs.Record.{record_at}
use Rattle.records.specs.Kinds.{right, fields, instruction_places, instruction_ops, all_fit}
use Rattle.inst.specs.declared.Code.{Code}
use Rattle.inst.specs.declared.Inst.{Inst}
use Rattle.inst.specs.declared.Inst.TheVariants as i
use Rattle.put_record.specs.Store.{Bytes, Fits, put_of}
use Rattle.put_record.proofs.Laws.{fits-at, put_same, put_back}
use Rattle.codec.specs.Codec.{inst_of, code_of, inst_record, record_of, with_stmt, with_inst, rewritten_record, row_of, in_range, InRange}
use Rattle.codec.proofs.Table.{inst-past}
use Rattle.codec.proofs.Read.{inst_back, inst-right, inst_words}
use Rattle.codec.proofs.Write.{kept}
use Rattle.codec.proofs.Range.{ranged}

-- what a right record of an instruction has
pub record Listed (r : Record) : Type 0 where
  pub kind : r.kind < 24
  pub op : r.op < instruction_ops r.kind
  pub zero : r.zero ≡ 0
  pub places : all_fit (get_or (instruction_places r.op) r.kind []) (fields r) ≡ true

pub listed : (r : Record) → right r ≡ true → r.class ≡ 4 → Listed r
unfolding right
listed r h e =
    let a = rw e at h in
    let b = and_second (ltb r.kind 24) _ a in
    let c = and_second (ltb r.op (instruction_ops r.kind)) _ b in
    record {
      kind = ltb-true r.kind 24 (and_first (ltb r.kind 24) _ a);
      op = ltb-true r.op (instruction_ops r.kind) (and_first (ltb r.op (instruction_ops r.kind)) _ b);
      zero = eqb-true r.zero 0 (and_first (eqb r.zero 0) _ c);
      places = and_second (eqb r.zero 0) _ c;
    }

row_same : (r : Record) → r.class ≡ 4 → r.zero ≡ 0 → with_stmt (row_of r.kind r.op r.p1 r.p2 r.p3 r.p4 r.p5 r.p6) r.stmt ≡ r
row_same r e z = ap (λ (c : ℕ). of c 0) (sym e) ∙ ap (of r.class) (sym z)
  where
    of : ℕ → ℕ → Record
    of c n = record { class = c; kind = r.kind; op = r.op; zero = n; stmt = r.stmt; p1 = r.p1; p2 = r.p2; p3 = r.p3; p4 = r.p4; p5 = r.p5; p6 = r.p6 }

-- what was read from a right record writes the same record
pub write_back : (r : Record) → right r ≡ true → r.class ≡ 4 → Fits r → record_of (code_of r) ≡ r
unfolding inst_of
write_back r h e f =
    let l = listed r h e in
    ap (λ (x : Record). with_stmt x r.stmt)
    (kept r.kind l.kind r.op r.p1 r.p2 r.p3 r.p4 r.p5 r.p6 l.op f.p2 f.p3 l.places)
    ∙ row_same r e l.zero

-- what was written reads back as the same value
pub read_back : (c : Code) → InRange c → code_of (record_of c) ≡ c
read_back c h = ap (λ (x : Inst). record { inst = x; stmt = c.stmt }) (inst_back c.inst c.stmt.0 h.inst)

-- what is written is right
pub written-right : (c : Code) → InRange c → right (record_of c) ≡ true
written-right c h = inst-right c.inst c.stmt.0 h.inst

-- a rewritten record is right, and is read as the other instruction with all else of what the record held
pub rewritten_right : (r : Record) (x : Inst) → in_range x ≡ true → right (rewritten_record r x) ≡ true
rewritten_right r x h = inst-right x r.stmt h

pub rewritten_code : (r : Record) (x : Inst) → in_range x ≡ true → code_of (rewritten_record r x) ≡ with_inst x (code_of r)
rewritten_code r x h = ap (λ (y : Inst). with_inst y (code_of r)) (inst_back x r.stmt h)

pub written-class : (x : Inst) → (inst_record x).class ≡ 4
unfolding inst_record
written-class (i.Const d v) = refl
written-class (i.ConstF d v) = refl
written-class (i.Move d a) = refl
written-class (i.AddrOf d p f) = refl
written-class (i.Select d c a b) = refl
written-class (i.Cmp o d a b) = refl
written-class (i.Bool o d a b) = refl
written-class (i.Bin o d a b) = refl
written-class (i.BinRange o d a b l h w) = refl
written-class (i.Load d a w) = refl
written-class (i.Store a v w) = refl
written-class (i.Check k v l h w) = refl
written-class (i.MakeDope a p) = refl
written-class (i.DopeLen d p n) = refl
written-class (i.BoundsLen d l r k) = refl
written-class (i.Alloc d n) = refl
written-class (i.TakeBounds l r k) = refl
written-class (i.CallNative n a d) = refl
written-class (i.Br t) = refl
written-class (i.CondBr c t f) = refl
written-class (i.Case v t) = refl
written-class (i.Ret v) = refl
written-class (i.Unreachable w) = refl
written-class i.Stmt = refl

abbrev Few : ℕ → Type 0
Few k = instruction_ops k < 256

ops_few_8 : Below Few 8
ops_few_8 = ((((((((tt, lit< tt), lit< tt), lit< tt), lit< tt), lit< tt), lit< tt), lit< tt), lit< tt)

ops_few_16 : Below Few 16
ops_few_16 = ((((((((ops_few_8, lit< tt), lit< tt), lit< tt), lit< tt), lit< tt), lit< tt), lit< tt), lit< tt)

ops_few : (k : ℕ) → k < 24 → Few k
ops_few = below Few 24 ((((((((ops_few_16, lit< tt), lit< tt), lit< tt), lit< tt), lit< tt), lit< tt), lit< tt), lit< tt)

pub word : (p : ℕ) (b : Bool) → (ltb p (2 ^ 32) && b) ≡ true → p < 2 ^ 32
word p b h = ltb-true p (2 ^ 32) (and_first (ltb p (2 ^ 32)) b h)

-- what is written fits its 32 bytes
pub written-fits : (c : Code) → InRange c → Fits (record_of c)
written-fits c h =
    let r = record_of c in
    let e = written-class c.inst in
    let l = listed r (written-right c h) e in
    let few = ops_few r.kind l.kind in
    let w1 = inst_words c.inst h.inst in
    let w2 = and_second (ltb r.p1 (2 ^ 32)) _ w1 in
    let w3 = and_second (ltb r.p2 (2 ^ 32)) _ w2 in
    let w4 = and_second (ltb r.p3 (2 ^ 32)) _ w3 in
    let w5 = and_second (ltb r.p4 (2 ^ 32)) _ w4 in
    let w6 = and_second (ltb r.p5 (2 ^ 32)) _ w5 in
    record {
      class = omega (arith, e);
      kind = omega (arith, l.kind);
      op = omega (arith, l.op, few);
      zero = omega (arith, l.zero);
      stmt = h.stmt;
      p1 = word r.p1 _ w1;
      p2 = word r.p2 _ w2;
      p3 = word r.p3 _ w3;
      p4 = word r.p4 _ w4;
      p5 = word r.p5 _ w5;
      p6 = word r.p6 _ w6;
    }

-- what is read is in range
pub read-range : (r : Record) → Fits r → InRange (code_of r)
unfolding inst_of in_range
read-range r f = record { inst = go (order r.kind 23); stmt = f.stmt }
  where
    go : (r.kind < 23) ⊎ (23 ≤ r.kind) → in_range (inst_of r) ≡ true
    go (inl h) =
        ranged r.kind h r.op r.p1 r.p2 r.p3 r.p4 r.p5 r.p6
        (record {
          w1 = lt-ltb r.p1 (2 ^ 32) f.p1;
          w2 = lt-ltb r.p2 (2 ^ 32) f.p2;
          w3 = lt-ltb r.p3 (2 ^ 32) f.p3;
          w4 = lt-ltb r.p4 (2 ^ 32) f.p4;
          w5 = lt-ltb r.p5 (2 ^ 32) f.p5;
          w6 = lt-ltb r.p6 (2 ^ 32) f.p6;
        })
    go (inr h) = ap in_range (sym (inst-past r h))

-- over bytes: an instruction written at place k is read there again
pub code-at-put : (b : List ℕ) (k : ℕ) (c : Code) → k < length b / 32 → InRange c → code_of (record_at (put_of b k (record_of c)) k) ≡ c
code-at-put b k c h i = ap code_of (put_same b k (record_of c) h (written-fits c i)) ∙ read_back c i

-- over bytes: an instruction read from a right record at place k, written there again, changes no byte
pub put-code-at : (b : List ℕ) (k : ℕ) → Bytes b → right (record_at b k) ≡ true → (record_at b k).class ≡ 4 → put_of b k (record_of (code_of (record_at b k))) ≡ b
put-code-at b k h r e = ap (put_of b k) (write_back (record_at b k) r e (fits-at b k h)) ∙ put_back b k h
