-- Laws of the ops: each case of an enum comes back from its number, and each number from its case.
use Prim.Native.Nat.{ℕ, ◌%◌, ◌<◌}
use native.Mathlib.Omega.{arith}
use mathlib.Core.Path.{◌≡◌, refl, ap}
use mathlib.Core.Bool.{true}
use lib.Dec.{ltb}
use borrow.Author.Tests.{ltb-true}
use borrow.Author.Rules.{rules}
use Rattle.general.proofs.Numbers.{below}
use Rattle.inst.specs.declared.Reg.{Reg}
use Rattle.inst.specs.declared.CmpOp.{CmpOp}
use Rattle.inst.specs.declared.BoolOp.{BoolOp}
use Rattle.inst.specs.declared.IntOp.{IntOp}
use Rattle.inst.specs.declared.Width.{Width}
use Rattle.inst.specs.declared.CheckKind.{CheckKind}
use Rattle.inst.specs.declared.RegTy.{RegTy}
use Rattle.std.specs.Prelude.{Option}
use Rattle.inst.specs.declared.AddrSpace.{AddrSpace}
use Rattle.inst.specs.declared.AddrSpace.TheVariants as s
use Rattle.ops.specs.Ops.{cmp_of, cmp_num, bool_of, bool_num, int_of, int_num, width_of, width_num, check_of, check_num}
use Rattle.ops.specs.Ops.{reg_ty_of, reg_ty_num, space_of, space_num, space_arg, space_in_range, opt_of, opt_num, opt_arg}

pub cmp_back : (x : CmpOp) → cmp_of (cmp_num x) ≡ x
cmp_back x = search rules

pub cmp_lt : (x : CmpOp) → cmp_num x < 6
cmp_lt x = search rules

pub cmp_num_lem : (n : ℕ) → n < 6 → cmp_num (cmp_of n) ≡ n
cmp_num_lem = below (λ (n : ℕ). cmp_num (cmp_of n) ≡ n) 6 ((((((tt, refl), refl), refl), refl), refl), refl)

pub bool-back : (x : BoolOp) → bool_of (bool_num x) ≡ x
bool-back x = search rules

pub bool_lt : (x : BoolOp) → bool_num x < 4
bool_lt x = search rules

pub bool_num_lem : (n : ℕ) → n < 4 → bool_num (bool_of n) ≡ n
bool_num_lem = below (λ (n : ℕ). bool_num (bool_of n) ≡ n) 4 ((((tt, refl), refl), refl), refl)

pub int_back : (x : IntOp) → int_of (int_num x) ≡ x
int_back x = search rules

pub int_lt : (x : IntOp) → int_num x < 7
int_lt x = search rules

pub int_num_lem : (n : ℕ) → n < 7 → int_num (int_of n) ≡ n
int_num_lem = below (λ (n : ℕ). int_num (int_of n) ≡ n) 7 (((((((tt, refl), refl), refl), refl), refl), refl), refl)

pub width_back : (x : Width) → width_of (width_num x) ≡ x
width_back x = search rules

pub width_lt : (x : Width) → width_num x < 4
width_lt x = search rules

pub width_num_lem : (n : ℕ) → n < 4 → width_num (width_of n) ≡ n
width_num_lem = below (λ (n : ℕ). width_num (width_of n) ≡ n) 4 ((((tt, refl), refl), refl), refl)

pub check_back : (x : CheckKind) → check_of (check_num x) ≡ x
check_back x = search rules

pub check_lt : (x : CheckKind) → check_num x < 5
check_lt x = search rules

pub check_num_lem : (n : ℕ) → n < 5 → check_num (check_of n) ≡ n
check_num_lem = below (λ (n : ℕ). check_num (check_of n) ≡ n) 5 (((((tt, refl), refl), refl), refl), refl)

pub reg_ty_back : (x : RegTy) → reg_ty_of (reg_ty_num x) ≡ x
reg_ty_back x = search rules

pub reg_ty_lt : (x : RegTy) → reg_ty_num x < 5
reg_ty_lt x = search rules

pub reg_ty_num_lem : (n : ℕ) → n < 5 → reg_ty_num (reg_ty_of n) ≡ n
reg_ty_num_lem = below (λ (n : ℕ). reg_ty_num (reg_ty_of n) ≡ n) 5 (((((tt, refl), refl), refl), refl), refl)

pub small : (n : ℕ) → ltb n 256 ≡ true → n % 256 ≡ n
small n h = let k = ltb-true n 256 h in omega arith

pub space_back : (p : AddrSpace) → space_in_range p ≡ true → space_of (space_num p) (space_arg p) ≡ p
space_back s.Frame h = refl
space_back (s.Up n) h = ap s.Up (small n h)
space_back s.Inst h = refl
space_back (s.Pkg n) h = refl
space_back (s.Const n) h = refl
space_back s.Shared h = refl

pub space_lt : (x : AddrSpace) → space_num x < 6
space_lt x = search rules

pub space_num_lem : (n op : ℕ) → op < 6 → space_num (space_of op n) ≡ op
space_num_lem n = below (λ (op : ℕ). space_num (space_of op n) ≡ op) 6 ((((((tt, refl), refl), refl), refl), refl), refl)

pub opt_back : (x : Option Reg) → opt_of (opt_num x) (opt_arg x) ≡ x
opt_back x = search rules

pub opt_lt : (x : Option Reg) → opt_num x < 2
opt_lt x = search rules

pub opt_num_lem : (n op : ℕ) → op < 2 → opt_num (opt_of op n) ≡ op
opt_num_lem n = below (λ (op : ℕ). opt_num (opt_of op n) ≡ op) 2 ((tt, refl), refl)
