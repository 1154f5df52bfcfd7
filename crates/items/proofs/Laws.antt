-- Laws of the records of the classes 1, 2, 3, 5 and 6: each is written as it was read, and read as it was written.
use Prim.Native.Nat.{ℕ, ◌<◌, ◌^◌}
use native.Mathlib.Omega.{arith}
use mathlib.Core.Path.{◌≡◌, refl, ap, ◌∙◌}
use mathlib.Core.Bool.{Bool, true, false, ◌&&◌}
use mathlib.Core.List.{[], ◌∷◌}
use lib.Dec.{ltb, eqb, lit<}
use borrow.Author.Tests.{lt-ltb, ltb-true, eqb-true}
use Rattle.general.proofs.Booleans.{and_first, and_second}
use Rattle.general.proofs.Numbers.{below}
use Rattle.records.specs.declared.Record.{Record}
use Rattle.records.specs.Kinds.{right, fields, kind_count, places, all_fit, zeros}
use Rattle.inst.specs.declared.Reg.{Reg}
use Rattle.inst.specs.declared.RegTy.{RegTy}
use Rattle.inst.specs.declared.BlockId.{BlockId}
use Rattle.inst.specs.declared.Block.{Block}
use Rattle.inst.specs.declared.ArmEntry.{ArmEntry}
use Rattle.ops.specs.Ops.{reg_ty_of, reg_ty_num}
use Rattle.ops.proofs.Laws.{reg_ty_num_lem, reg_ty_back, reg_ty_lt}
use Rattle.put_record.specs.Store.{Fits}
use Rattle.codec.specs.Codec.{word_of, low_of, high_of}
use Rattle.codec.proofs.Read.{word_join}
use Rattle.codec.proofs.Write.{all-zero, low_word, high_word}
use Rattle.items.specs.Items.{row_of, register_of, register_record, block_of, block_record, body_of, body_record}
use Rattle.items.specs.Items.{operand_of, operand_record, arm_of, arm_kind, arm_record, ArmInRange}

-- what a right record of a class other than 4 has
pub record Plain (class : ℕ) (r : Record) : Type 0 where
  pub class-is : r.class ≡ class
  pub kind : r.kind < kind_count class
  pub op : r.op ≡ 0
  pub zero : r.zero ≡ 0
  pub stmt : r.stmt ≡ 0
  pub places : all_fit (places class r.kind r.op) (fields r) ≡ true

-- over the class's tests, as `right` computes them
plain : (class : ℕ) (r : Record) → r.class ≡ class →
    (ltb r.kind (kind_count class)
    && (ltb r.op 1 && (eqb r.zero 0 && (eqb r.stmt 0 && all_fit (places class r.kind r.op) (fields r)))))
    ≡ true → Plain class r
plain class r e a =
    let b = and_second (ltb r.kind (kind_count class)) _ a in
    let c = and_second (ltb r.op 1) _ b in
    let d = and_second (eqb r.zero 0) _ c in
    let o = ltb-true r.op 1 (and_first (ltb r.op 1) _ b) in
    record {
      class-is = e;
      kind = ltb-true r.kind (kind_count class) (and_first (ltb r.kind (kind_count class)) _ a);
      op = omega arith;
      zero = eqb-true r.zero 0 (and_first (eqb r.zero 0) _ c);
      stmt = eqb-true r.stmt 0 (and_first (eqb r.stmt 0) _ d);
      places = and_second (eqb r.stmt 0) _ d;
    }

abbrev full_of : ℕ → ℕ → ℕ → ℕ → ℕ → ℕ → ℕ → ℕ → ℕ → ℕ → ℕ → Record
full_of c k o z s p1 p2 p3 p4 p5 p6 = record { class = c; kind = k; op = o; zero = z; stmt = s; p1 = p1; p2 = p2; p3 = p3; p4 = p4; p5 = p5; p6 = p6 }

register-same :
    (c k o z s p1 p2 p3 p4 p5 p6 : ℕ) → c ≡ 1 → o ≡ 0 → z ≡ 0 → s ≡ 0 → k < 5 → zeros (p1 ∷ p2 ∷ p3 ∷ p4 ∷ p5 ∷ p6 ∷ []) ≡ true →
    row_of 1 (reg_ty_num (reg_ty_of k)) 0 0 0 0 0 0 ≡ full_of c k o z s p1 p2 p3 p4 p5 p6
register-same c k o z s p1 p2 p3 p4 p5 p6 ec eo ez es h f =
    let ek = reg_ty_num_lem k h in
    let e = all-zero (p1 ∷ p2 ∷ p3 ∷ p4 ∷ p5 ∷ p6 ∷ []) f in
    cc

pub register_write_back : (r : Record) → right r ≡ true → r.class ≡ 1 → register_record (register_of r) ≡ r
unfolding right
register_write_back r h e =
    let l = plain 1 r e (rw e at h) in
    register-same r.class r.kind r.op r.zero r.stmt r.p1 r.p2 r.p3 r.p4 r.p5 r.p6 l.class-is l.op l.zero
    l.stmt l.kind l.places

block_same :
    (c k o z s p1 p2 p3 p4 p5 p6 : ℕ) → c ≡ 2 → o ≡ 0 → z ≡ 0 → s ≡ 0 → k < 1 → zeros (p3 ∷ p4 ∷ p5 ∷ p6 ∷ []) ≡ true →
    row_of 2 0 p1 p2 0 0 0 0 ≡ full_of c k o z s p1 p2 p3 p4 p5 p6
block_same c k o z s p1 p2 p3 p4 p5 p6 ec eo ez es h f =
    let ek : k ≡ 0 = omega arith in
    let e = all-zero (p3 ∷ p4 ∷ p5 ∷ p6 ∷ []) f in
    cc

pub block_write_back : (r : Record) → right r ≡ true → r.class ≡ 2 → block_record (block_of r) ≡ r
unfolding right
block_write_back r h e =
    let l = plain 2 r e (rw e at h) in
    block_same r.class r.kind r.op r.zero r.stmt r.p1 r.p2 r.p3 r.p4 r.p5 r.p6 l.class-is l.op l.zero
    l.stmt l.kind l.places

body_same :
    (c k o z s p1 p2 p3 p4 p5 p6 : ℕ) → c ≡ 3 → o ≡ 0 → z ≡ 0 → s ≡ 0 → k < 1 → zeros (p2 ∷ p3 ∷ p4 ∷ p5 ∷ p6 ∷ []) ≡ true →
    row_of 3 0 p1 0 0 0 0 0 ≡ full_of c k o z s p1 p2 p3 p4 p5 p6
body_same c k o z s p1 p2 p3 p4 p5 p6 ec eo ez es h f =
    let ek : k ≡ 0 = omega arith in
    let e = all-zero (p2 ∷ p3 ∷ p4 ∷ p5 ∷ p6 ∷ []) f in
    cc

pub body_write_back : (r : Record) → right r ≡ true → r.class ≡ 3 → body_record (body_of r) ≡ r
unfolding right
body_write_back r h e =
    let l = plain 3 r e (rw e at h) in
    body_same r.class r.kind r.op r.zero r.stmt r.p1 r.p2 r.p3 r.p4 r.p5 r.p6 l.class-is l.op l.zero
    l.stmt l.kind l.places

operand_same :
    (c k o z s p1 p2 p3 p4 p5 p6 : ℕ) → c ≡ 5 → o ≡ 0 → z ≡ 0 → s ≡ 0 → k < 1 → zeros (p2 ∷ p3 ∷ p4 ∷ p5 ∷ p6 ∷ []) ≡ true →
    row_of 5 0 p1 0 0 0 0 0 ≡ full_of c k o z s p1 p2 p3 p4 p5 p6
operand_same c k o z s p1 p2 p3 p4 p5 p6 ec eo ez es h f =
    let ek : k ≡ 0 = omega arith in
    let e = all-zero (p2 ∷ p3 ∷ p4 ∷ p5 ∷ p6 ∷ []) f in
    cc

pub operand_write_back : (r : Record) → right r ≡ true → r.class ≡ 5 → operand_record (operand_of r) ≡ r
unfolding right
operand_write_back r h e =
    let l = plain 5 r e (rw e at h) in
    operand_same r.class r.kind r.op r.zero r.stmt r.p1 r.p2 r.p3 r.p4 r.p5 r.p6 l.class-is l.op l.zero
    l.stmt l.kind l.places

arm-kind : (k : ℕ) → k < 2 → arm_kind (eqb k 1) ≡ k
arm-kind = below (λ (k : ℕ). arm_kind (eqb k 1) ≡ k) 2 ((tt, refl), refl)

arm_same : (c k o z s p1 p2 p3 p4 p5 p6 : ℕ) → c ≡ 6 → o ≡ 0 → z ≡ 0 → s ≡ 0 → k < 2 → p2 < 2 ^ 32 → p4 < 2 ^ 32 →
    row_of 6 (arm_kind (eqb k 1)) p1 (low_of (word_of p2 p3)) (high_of (word_of p2 p3)) (low_of (word_of p4 p5)) (high_of (word_of p4 p5)) p6 ≡ full_of c k o z s
    p1 p2 p3 p4 p5 p6
arm_same c k o z s p1 p2 p3 p4 p5 p6 ec eo ez es h w2 w4 = cc (arm-kind k h, low_word p2 p3 w2, high_word p2 p3 w2, low_word p4 p5 w4, high_word p4 p5 w4)

pub arm_write_back : (r : Record) → right r ≡ true → r.class ≡ 6 → Fits r → arm_record (arm_of r) ≡ r
unfolding right
arm_write_back r h e f =
    let l = plain 6 r e (rw e at h) in
    arm_same r.class r.kind r.op r.zero r.stmt r.p1 r.p2 r.p3 r.p4 r.p5 r.p6 l.class-is l.op l.zero
    l.stmt l.kind f.p2 f.p4

pub register-read-back : (x : RegTy) → register_of (register_record x) ≡ x
register-read-back x = reg_ty_back x

pub block-read-back : (x : Block) → block_of (block_record x) ≡ x
block-read-back x = refl

pub body-read-back : (x : BlockId) → body_of (body_record x) ≡ x
body-read-back x = refl

pub operand_read_back : (x : Reg) → operand_of (operand_record x) ≡ x
operand_read_back x = refl

default-back : (d : Bool) → eqb (arm_kind d) 1 ≡ d
default-back true = refl
default-back false = refl

pub arm-read-back : (x : ArmEntry) → arm_of (arm_record x) ≡ x
arm-read-back x =
    ap (λ (v : ℕ). of v (word_of (low_of x.high) (high_of x.high)) (eqb (arm_kind x.default) 1)) (word_join x.low)
    ∙ ap (λ (v : ℕ). of x.low v (eqb (arm_kind x.default) 1)) (word_join x.high)
    ∙ ap (of x.low x.high) (default-back x.default)
  where
    of : ℕ → ℕ → Bool → ArmEntry
    of low high d = record { table = x.table; low = low; high = high; to = x.to; default = d }

pub register-right : (x : RegTy) → right (register_record x) ≡ true
unfolding right
register-right x = rw (lt-ltb (reg_ty_num x) 5 (reg_ty_lt x))

pub block-right : (x : Block) → right (block_record x) ≡ true
unfolding right
block-right x = refl

pub body-right : (x : BlockId) → right (body_record x) ≡ true
unfolding right
body-right x = refl

pub operand_right : (x : Reg) → right (operand_record x) ≡ true
unfolding right
operand_right x = refl

default-right : (t b : ℕ) → right (row_of 6 1 t 0 0 0 0 b) ≡ true
unfolding right
default-right t b = refl

other-right : (t p q r s b : ℕ) → right (row_of 6 0 t p q r s b) ≡ true
unfolding right
other-right t p q r s b = refl

pub arm-right : (x : ArmEntry) → ArmInRange x → right (arm_record x) ≡ true
arm-right x h = go x.default refl
  where
    go : (d : Bool) → x.default ≡ d → right (arm_record x) ≡ true
    go true e = rw (e, h.low-zero e, h.high_zero e) (default-right x.table x.to.0)
    go false e = rw e (other-right x.table (low_of x.low) (high_of x.low) (low_of x.high) (high_of x.high) x.to.0)

row_fits :
    (class kind p1 p2 p3 p4 p5 p6 : ℕ) → class < 256 → kind < 256 → p1 < 2 ^ 32 → p2 < 2 ^ 32 → p3 < 2 ^ 32 → p4 < 2 ^ 32 → p5 < 2 ^ 32 → p6 < 2 ^ 32 →
    Fits (row_of class kind p1 p2 p3 p4 p5 p6)
row_fits class kind p1 p2 p3 p4 p5 p6 hc hk h1 h2 h3 h4 h5 h6 =
    record { class = hc; kind = hk; op = lit< tt; zero = lit< tt; stmt = lit< tt; p1 = h1; p2 = h2; p3 = h3; p4 = h4; p5 = h5; p6 = h6 }

pub register-fits : (x : RegTy) → Fits (register_record x)
register-fits x = row_fits 1 (reg_ty_num x) 0 0 0 0 0 0 (lit< tt) (omega (arith, reg_ty_lt x)) (lit< tt) (lit< tt) (lit< tt) (lit< tt) (lit< tt) (lit< tt)

pub block-fits : (x : Block) → x.start < 2 ^ 32 → x.end < 2 ^ 32 → Fits (block_record x)
block-fits x a b = row_fits 2 0 x.start x.end 0 0 0 0 (lit< tt) (lit< tt) a b (lit< tt) (lit< tt) (lit< tt) (lit< tt)

pub body-fits : (x : BlockId) → x.0 < 2 ^ 32 → Fits (body_record x)
body-fits x a = row_fits 3 0 x.0 0 0 0 0 0 (lit< tt) (lit< tt) a (lit< tt) (lit< tt) (lit< tt) (lit< tt) (lit< tt)

pub operand_fits : (x : Reg) → x.0 < 2 ^ 32 → Fits (operand_record x)
operand_fits x a = row_fits 5 0 x.0 0 0 0 0 0 (lit< tt) (lit< tt) a (lit< tt) (lit< tt) (lit< tt) (lit< tt) (lit< tt)

kind_lt : (d : Bool) → arm_kind d < 256
kind_lt true = lit< tt
kind_lt false = lit< tt

low_lt : (v : ℕ) → low_of v < 2 ^ 32
low_lt v = omega arith

high_lt : (v : ℕ) → v < 2 ^ 64 → high_of v < 2 ^ 32
high_lt v h = omega arith

pub arm-fits : (x : ArmEntry) → ArmInRange x → Fits (arm_record x)
arm-fits x h =
    row_fits 6 (arm_kind x.default) x.table (low_of x.low) (high_of x.low) (low_of x.high) (high_of x.high) x.to.0 (lit< tt)
    (kind_lt x.default) h.table (low_lt x.low) (high_lt x.low h.low) (low_lt x.high) (high_lt x.high h.high) h.to
