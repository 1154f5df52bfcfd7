-- What was read from a right record writes the same record, kind by kind.
use Prim.Native.Nat.{ℕ, ◌%◌, ◌<◌, ◌^◌}
use native.Mathlib.Omega.{arith}
use mathlib.Core.Path.{◌≡◌, refl}
use mathlib.Core.Bool.{true}
use mathlib.Core.List.{List, [], ◌∷◌}
use lib.Dec.{ltb, eqb}
use lib.ListN.{get_or}
use borrow.Author.Tests.{ltb-true, eqb-true}
use Rattle.general.proofs.Booleans.{and_first, and_second}
use Rattle.general.proofs.Numbers.{Below, below}
use Rattle.records.specs.Kinds.{instruction_places, instruction_ops, all_fit, zeros}
use Rattle.real.proofs.Laws.{bits_real}
use Rattle.inst.specs.declared.Inst.TheVariants as i
use Rattle.ops.specs.Ops.{space_of, space_num, space_arg, opt_of, opt_num, opt_arg}
use Rattle.ops.proofs.Laws.{cmp_num_lem, bool_num_lem, int_num_lem, width_num_lem, check_num_lem}
use Rattle.codec.specs.Codec.{word_of, low_of, high_of, insts, row_of, inst_record}

-- a list of as many zeros
abbrev pub cleared : List ℕ → List ℕ
cleared [] = []
cleared (p ∷ ps) = 0 ∷ cleared ps

pub all-zero : (ps : List ℕ) → zeros ps ≡ true → ps ≡ cleared ps
all-zero [] h = refl
all-zero (p ∷ ps) h =
    let e = eqb-true p 0 (and_first (eqb p 0) (zeros ps) h) in
    let f = all-zero ps (and_second (eqb p 0) (zeros ps) h) in
    cc

pub low_word : (p q : ℕ) → p < 2 ^ 32 → low_of (word_of p q) ≡ p
low_word p q h = omega arith

pub high_word : (p q : ℕ) → p < 2 ^ 32 → high_of (word_of p q) ≡ q
high_word p q h = omega arith

pub word_fits : (p q : ℕ) → p < 2 ^ 32 → q < 2 ^ 32 → word_of p q < 2 ^ 64
word_fits p q hp hq = omega arith

small : (n : ℕ) → n < 256 → n % 256 ≡ n
small n h = omega arith

-- a kind writes what it reads, over every op and field that its places take
abbrev Kept : ℕ → Type 0
Kept k =
    (op p1 p2 p3 p4 p5 p6 : ℕ) →
    op < instruction_ops k →
    p2 < 2 ^ 32 →
    p3 < 2 ^ 32 →
    all_fit (get_or (instruction_places op) k []) (p1 ∷ p2 ∷ p3 ∷ p4 ∷ p5 ∷ p6 ∷ []) ≡ true →
    inst_record (get_or (insts op p1 p2 p3 p4 p5 p6) k i.Stmt) ≡ row_of k op p1 p2 p3 p4 p5 p6

kept-const : Kept 0
unfolding inst_record
kept-const op p1 p2 p3 p4 p5 p6 o w2 w3 f =
    let e : op ≡ 0 = omega arith in
    let z = all-zero (p4 ∷ p5 ∷ p6 ∷ []) f in
    cc (low_word p2 p3 w2, high_word p2 p3 w2)

kept_constf : Kept 1
unfolding inst_record
kept_constf op p1 p2 p3 p4 p5 p6 o w2 w3 f =
    let e : op ≡ 0 = omega arith in
    let z = all-zero (p4 ∷ p5 ∷ p6 ∷ []) f in
    cc (bits_real (word_of p2 p3) (word_fits p2 p3 w2 w3), low_word p2 p3 w2, high_word p2 p3 w2)

kept_move : Kept 2
unfolding inst_record
kept_move op p1 p2 p3 p4 p5 p6 o w2 w3 f =
    let e : op ≡ 0 = omega arith in
    let z = all-zero (p3 ∷ p4 ∷ p5 ∷ p6 ∷ []) f in
    cc

-- AddrOf, over its space
abbrev KeptSpace : ℕ → Type 0
KeptSpace op =
    (p1 p2 p3 p4 p5 p6 : ℕ) →
    all_fit (get_or (instruction_places op) 3 []) (p1 ∷ p2 ∷ p3 ∷ p4 ∷ p5 ∷ p6 ∷ []) ≡ true →
    row_of 3 (space_num (space_of op p2)) p1 (space_arg (space_of op p2)) p3 0 0 0 ≡ row_of 3 op p1 p2 p3 p4 p5 p6

space_frame : KeptSpace 0
space_frame p1 p2 p3 p4 p5 p6 f =
    let e = eqb-true p2 0 (and_first (eqb p2 0) _ f) in
    let z = all-zero (p4 ∷ p5 ∷ p6 ∷ []) (and_second (eqb p2 0) _ f) in
    cc

space_up : KeptSpace 1
space_up p1 p2 p3 p4 p5 p6 f =
    let e = small p2 (ltb-true p2 256 (and_first (ltb p2 256) _ f)) in
    let z = all-zero (p4 ∷ p5 ∷ p6 ∷ []) (and_second (ltb p2 256) _ f) in
    cc

space_inst : KeptSpace 2
space_inst p1 p2 p3 p4 p5 p6 f =
    let e = eqb-true p2 0 (and_first (eqb p2 0) _ f) in
    let z = all-zero (p4 ∷ p5 ∷ p6 ∷ []) (and_second (eqb p2 0) _ f) in
    cc

space_pkg : KeptSpace 3
space_pkg p1 p2 p3 p4 p5 p6 f =
    let z = all-zero (p4 ∷ p5 ∷ p6 ∷ []) f in
    cc

space_const : KeptSpace 4
space_const p1 p2 p3 p4 p5 p6 f =
    let z = all-zero (p4 ∷ p5 ∷ p6 ∷ []) f in
    cc

space_shared : KeptSpace 5
space_shared p1 p2 p3 p4 p5 p6 f =
    let e = eqb-true p2 0 (and_first (eqb p2 0) _ f) in
    let z = all-zero (p4 ∷ p5 ∷ p6 ∷ []) (and_second (eqb p2 0) _ f) in
    cc

kept_addrof : Kept 3
unfolding inst_record
kept_addrof op p1 p2 p3 p4 p5 p6 o w2 w3 f =
    below KeptSpace 6 ((((((tt, space_frame), space_up), space_inst), space_pkg), space_const), space_shared) op o p1 p2 p3 p4 p5 p6 f

kept_select : Kept 4
unfolding inst_record
kept_select op p1 p2 p3 p4 p5 p6 o w2 w3 f =
    let e : op ≡ 0 = omega arith in
    let z = all-zero (p5 ∷ p6 ∷ []) f in
    cc

kept_cmp : Kept 5
unfolding inst_record
kept_cmp op p1 p2 p3 p4 p5 p6 o w2 w3 f =
    let z = all-zero (p4 ∷ p5 ∷ p6 ∷ []) f in
    cc (cmp_num_lem op o)

kept-bool : Kept 6
unfolding inst_record
kept-bool op p1 p2 p3 p4 p5 p6 o w2 w3 f =
    let z = all-zero (p4 ∷ p5 ∷ p6 ∷ []) f in
    cc (bool_num_lem op o)

kept-bin : Kept 7
unfolding inst_record
kept-bin op p1 p2 p3 p4 p5 p6 o w2 w3 f =
    let z = all-zero (p4 ∷ p5 ∷ p6 ∷ []) f in
    cc (int_num_lem op o)

kept_binrange : Kept 8
unfolding inst_record
kept_binrange op p1 p2 p3 p4 p5 p6 o w2 w3 f =
    let z = all-zero ([]) f in
    cc (int_num_lem op o)

kept-load : Kept 9
unfolding inst_record
kept-load op p1 p2 p3 p4 p5 p6 o w2 w3 f =
    let z = all-zero (p3 ∷ p4 ∷ p5 ∷ p6 ∷ []) f in
    cc (width_num_lem op o)

kept_store : Kept 10
unfolding inst_record
kept_store op p1 p2 p3 p4 p5 p6 o w2 w3 f =
    let z = all-zero (p3 ∷ p4 ∷ p5 ∷ p6 ∷ []) f in
    cc (width_num_lem op o)

kept_check : Kept 11
unfolding inst_record
kept_check op p1 p2 p3 p4 p5 p6 o w2 w3 f =
    let z = all-zero (p5 ∷ p6 ∷ []) f in
    cc (check_num_lem op o)

kept_makedope : Kept 12
unfolding inst_record
kept_makedope op p1 p2 p3 p4 p5 p6 o w2 w3 f =
    let e : op ≡ 0 = omega arith in
    let z = all-zero (p4 ∷ p5 ∷ p6 ∷ []) f in
    cc

kept_dopelen : Kept 13
unfolding inst_record
kept_dopelen op p1 p2 p3 p4 p5 p6 o w2 w3 f =
    let e : op ≡ 0 = omega arith in
    let m = small p3 (ltb-true p3 256 (and_first (ltb p3 256) _ f)) in
    let z = all-zero (p4 ∷ p5 ∷ p6 ∷ []) (and_second (ltb p3 256) _ f) in
    cc

kept_boundslen : Kept 14
unfolding inst_record
kept_boundslen op p1 p2 p3 p4 p5 p6 o w2 w3 f =
    let e : op ≡ 0 = omega arith in
    let z = all-zero (p5 ∷ p6 ∷ []) f in
    cc

kept_alloc : Kept 15
unfolding inst_record
kept_alloc op p1 p2 p3 p4 p5 p6 o w2 w3 f =
    let e : op ≡ 0 = omega arith in
    let z = all-zero (p3 ∷ p4 ∷ p5 ∷ p6 ∷ []) f in
    cc

kept_takebounds : Kept 16
unfolding inst_record
kept_takebounds op p1 p2 p3 p4 p5 p6 o w2 w3 f =
    let e : op ≡ 0 = omega arith in
    let z = all-zero (p4 ∷ p5 ∷ p6 ∷ []) f in
    cc

-- CallNative, with a register or without
abbrev KeptCallNative : ℕ → Type 0
KeptCallNative op =
    (p1 p2 p3 p4 p5 p6 : ℕ) →
    all_fit (get_or (instruction_places op) 17 []) (p1 ∷ p2 ∷ p3 ∷ p4 ∷ p5 ∷ p6 ∷ []) ≡ true →
    row_of 17 (opt_num (opt_of op p4)) p1 p2 p3 (opt_arg (opt_of op p4)) 0 0 ≡ row_of 17 op p1 p2 p3 p4 p5 p6

callnative_none : KeptCallNative 0
callnative_none p1 p2 p3 p4 p5 p6 f =
    let e = eqb-true p4 0 (and_first (eqb p4 0) _ f) in
    let z = all-zero (p5 ∷ p6 ∷ []) (and_second (eqb p4 0) _ f) in
    cc

callnative_some : KeptCallNative 1
callnative_some p1 p2 p3 p4 p5 p6 f =
    let z = all-zero (p5 ∷ p6 ∷ []) f in
    cc

kept_callnative : Kept 17
unfolding inst_record
kept_callnative op p1 p2 p3 p4 p5 p6 o w2 w3 f = below KeptCallNative 2 ((tt, callnative_none), callnative_some) op o p1 p2 p3 p4 p5 p6 f

kept_br : Kept 18
unfolding inst_record
kept_br op p1 p2 p3 p4 p5 p6 o w2 w3 f =
    let e : op ≡ 0 = omega arith in
    let z = all-zero (p2 ∷ p3 ∷ p4 ∷ p5 ∷ p6 ∷ []) f in
    cc

kept_condbr : Kept 19
unfolding inst_record
kept_condbr op p1 p2 p3 p4 p5 p6 o w2 w3 f =
    let e : op ≡ 0 = omega arith in
    let z = all-zero (p4 ∷ p5 ∷ p6 ∷ []) f in
    cc

kept_case : Kept 20
unfolding inst_record
kept_case op p1 p2 p3 p4 p5 p6 o w2 w3 f =
    let e : op ≡ 0 = omega arith in
    let z = all-zero (p3 ∷ p4 ∷ p5 ∷ p6 ∷ []) f in
    cc

-- Ret, with a register or without
abbrev KeptRet : ℕ → Type 0
KeptRet op =
    (p1 p2 p3 p4 p5 p6 : ℕ) →
    all_fit (get_or (instruction_places op) 21 []) (p1 ∷ p2 ∷ p3 ∷ p4 ∷ p5 ∷ p6 ∷ []) ≡ true →
    row_of 21 (opt_num (opt_of op p1)) (opt_arg (opt_of op p1)) 0 0 0 0 0 ≡ row_of 21 op p1 p2 p3 p4 p5 p6

ret_none : KeptRet 0
ret_none p1 p2 p3 p4 p5 p6 f =
    let e = eqb-true p1 0 (and_first (eqb p1 0) _ f) in
    let z = all-zero (p2 ∷ p3 ∷ p4 ∷ p5 ∷ p6 ∷ []) (and_second (eqb p1 0) _ f) in
    cc

ret_some : KeptRet 1
ret_some p1 p2 p3 p4 p5 p6 f =
    let z = all-zero (p2 ∷ p3 ∷ p4 ∷ p5 ∷ p6 ∷ []) f in
    cc

kept_ret : Kept 21
unfolding inst_record
kept_ret op p1 p2 p3 p4 p5 p6 o w2 w3 f = below KeptRet 2 ((tt, ret_none), ret_some) op o p1 p2 p3 p4 p5 p6 f

kept-unreachable : Kept 22
unfolding inst_record
kept-unreachable op p1 p2 p3 p4 p5 p6 o w2 w3 f =
    let e : op ≡ 0 = omega arith in
    let z = all-zero (p2 ∷ p3 ∷ p4 ∷ p5 ∷ p6 ∷ []) f in
    cc

kept-stmt : Kept 23
unfolding inst_record
kept-stmt op p1 p2 p3 p4 p5 p6 o w2 w3 f =
    let e : op ≡ 0 = omega arith in
    let z = all-zero (p1 ∷ p2 ∷ p3 ∷ p4 ∷ p5 ∷ p6 ∷ []) f in
    cc

kept_8 : Below Kept 8
kept_8 = ((((((((tt, kept-const), kept_constf), kept_move), kept_addrof), kept_select), kept_cmp), kept-bool), kept-bin)

kept_16 : Below Kept 16
kept_16 = ((((((((kept_8, kept_binrange), kept-load), kept_store), kept_check), kept_makedope), kept_dopelen), kept_boundslen), kept_alloc)

pub kept : (k : ℕ) → k < 24 → Kept k
kept = below Kept 24 ((((((((kept_16, kept_takebounds), kept_callnative), kept_br), kept_condbr), kept_case), kept_ret), kept-unreachable), kept-stmt)
