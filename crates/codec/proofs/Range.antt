-- What is read from fields of 32 bits is in its types' ranges.
use Prim.Native.Nat.{ℕ, zero, suc, ◌%◌, ◌<◌, ◌^◌}
use native.Mathlib.Omega.{arith}
use mathlib.Core.Path.{◌≡◌, refl}
use mathlib.Core.Bool.{true}
use lib.Dec.{ltb}
use lib.ListN.{get_or}
use borrow.Author.Tests.{lt-ltb, ltb-true}
use Rattle.general.proofs.Numbers.{Below, below}
use Rattle.real.proofs.Laws.{real-canonical}
use Rattle.inst.specs.declared.Inst.TheVariants as i
use Rattle.ops.specs.Ops.{space_of, space_in_range, opt_of, opt_arg}
use Rattle.codec.specs.Codec.{word_of, insts, in_range}

-- six fields of 32 bits
pub record Words (p1 p2 p3 p4 p5 p6 : ℕ) : Type 0 where
  pub w1 : ltb p1 (2 ^ 32) ≡ true
  pub w2 : ltb p2 (2 ^ 32) ≡ true
  pub w3 : ltb p3 (2 ^ 32) ≡ true
  pub w4 : ltb p4 (2 ^ 32) ≡ true
  pub w5 : ltb p5 (2 ^ 32) ≡ true
  pub w6 : ltb p6 (2 ^ 32) ≡ true

byte_lt : (n : ℕ) → ltb (n % 256) 256 ≡ true
byte_lt n = lt-ltb (n % 256) 256 (omega arith)

word_lt : (p q : ℕ) → ltb p (2 ^ 32) ≡ true → ltb q (2 ^ 32) ≡ true → word_of p q < 2 ^ 64
word_lt p q hp hq =
    let a = ltb-true p (2 ^ 32) hp in
    let b = ltb-true q (2 ^ 32) hq in
    omega arith

space_range : (op p : ℕ) → ltb p (2 ^ 32) ≡ true → space_in_range (space_of op p) ≡ true
space_range zero p h = refl
space_range (suc zero) p h = byte_lt p
space_range (suc (suc zero)) p h = refl
space_range (suc (suc (suc zero))) p h = h
space_range (suc (suc (suc (suc zero)))) p h = h
space_range (suc (suc (suc (suc (suc op))))) p h = refl

opt_range : (op p : ℕ) → ltb p (2 ^ 32) ≡ true → ltb (opt_arg (opt_of op p)) (2 ^ 32) ≡ true
opt_range zero p h = refl
opt_range (suc op) p h = h

abbrev Ranged : ℕ → Type 0
Ranged k = (op p1 p2 p3 p4 p5 p6 : ℕ) → Words p1 p2 p3 p4 p5 p6 → in_range (get_or (insts op p1 p2 p3 p4 p5 p6) k i.Stmt) ≡ true

ranged_const : Ranged 0
unfolding in_range
ranged_const op p1 p2 p3 p4 p5 p6 w = rw (lt-ltb (word_of p2 p3) (2 ^ 64) (word_lt p2 p3 w.w2 w.w3), w.w1)

ranged_constf : Ranged 1
unfolding in_range
ranged_constf op p1 p2 p3 p4 p5 p6 w = rw (real-canonical (word_of p2 p3) (word_lt p2 p3 w.w2 w.w3), w.w1)

ranged_move : Ranged 2
unfolding in_range
ranged_move op p1 p2 p3 p4 p5 p6 w = rw (w.w1, w.w2)

ranged_addrof : Ranged 3
unfolding in_range
ranged_addrof op p1 p2 p3 p4 p5 p6 w = rw (space_range op p2 w.w2, w.w1, w.w3)

ranged_select : Ranged 4
unfolding in_range
ranged_select op p1 p2 p3 p4 p5 p6 w = rw (w.w1, w.w2, w.w3, w.w4)

ranged_cmp : Ranged 5
unfolding in_range
ranged_cmp op p1 p2 p3 p4 p5 p6 w = rw (w.w1, w.w2, w.w3)

ranged_bool : Ranged 6
unfolding in_range
ranged_bool op p1 p2 p3 p4 p5 p6 w = rw (w.w1, w.w2, w.w3)

ranged_bin : Ranged 7
unfolding in_range
ranged_bin op p1 p2 p3 p4 p5 p6 w = rw (w.w1, w.w2, w.w3)

ranged_binrange : Ranged 8
unfolding in_range
ranged_binrange op p1 p2 p3 p4 p5 p6 w = rw (w.w1, w.w2, w.w3, w.w4, w.w5, w.w6)

ranged_load : Ranged 9
unfolding in_range
ranged_load op p1 p2 p3 p4 p5 p6 w = rw (w.w1, w.w2)

ranged_store : Ranged 10
unfolding in_range
ranged_store op p1 p2 p3 p4 p5 p6 w = rw (w.w1, w.w2)

ranged_check : Ranged 11
unfolding in_range
ranged_check op p1 p2 p3 p4 p5 p6 w = rw (w.w1, w.w2, w.w3, w.w4)

ranged_makedope : Ranged 12
unfolding in_range
ranged_makedope op p1 p2 p3 p4 p5 p6 w = rw (w.w1, w.w2, w.w3)

ranged_dopelen : Ranged 13
unfolding in_range
ranged_dopelen op p1 p2 p3 p4 p5 p6 w = rw (byte_lt p3, w.w1, w.w2)

ranged_boundslen : Ranged 14
unfolding in_range
ranged_boundslen op p1 p2 p3 p4 p5 p6 w = rw (w.w1, w.w2, w.w3, w.w4)

ranged_alloc : Ranged 15
unfolding in_range
ranged_alloc op p1 p2 p3 p4 p5 p6 w = rw (w.w1, w.w2)

ranged_takebounds : Ranged 16
unfolding in_range
ranged_takebounds op p1 p2 p3 p4 p5 p6 w = rw (w.w1, w.w2, w.w3)

ranged_callnative : Ranged 17
unfolding in_range
ranged_callnative op p1 p2 p3 p4 p5 p6 w = rw (w.w1, w.w2, w.w3, opt_range op p4 w.w4)

ranged_br : Ranged 18
unfolding in_range
ranged_br op p1 p2 p3 p4 p5 p6 w = rw w.w1

ranged_condbr : Ranged 19
unfolding in_range
ranged_condbr op p1 p2 p3 p4 p5 p6 w = rw (w.w1, w.w2, w.w3)

ranged_case : Ranged 20
unfolding in_range
ranged_case op p1 p2 p3 p4 p5 p6 w = rw (w.w1, w.w2)

ranged_ret : Ranged 21
unfolding in_range
ranged_ret op p1 p2 p3 p4 p5 p6 w = rw (opt_range op p1 w.w1)

ranged_unreachable : Ranged 22
unfolding in_range
ranged_unreachable op p1 p2 p3 p4 p5 p6 w = rw w.w1

ranged_8 : Below Ranged 8
ranged_8 = ((((((((tt, ranged_const), ranged_constf), ranged_move), ranged_addrof), ranged_select), ranged_cmp), ranged_bool), ranged_bin)

ranged_16 : Below Ranged 16
ranged_16 = ((((((((ranged_8, ranged_binrange), ranged_load), ranged_store), ranged_check), ranged_makedope), ranged_dopelen), ranged_boundslen), ranged_alloc)

pub ranged : (k : ℕ) → k < 23 → Ranged k
ranged = below Ranged 23 (((((((ranged_16, ranged_takebounds), ranged_callnative), ranged_br), ranged_condbr), ranged_case), ranged_ret), ranged_unreachable)
