-- A number that is read as a class is its number, and no class has one that is read as none.
use Prim.Native.Nat.{ℕ, zero, suc, ◌<◌}
use native.Mathlib.Omega.{arith}
use mathlib.Core.Path.{◌≡◌, refl, sym, ap, ◌∙◌}
use mathlib.Core.Logic.{◌⊎◌, inl, inr}
use Rattle.std.specs.Prelude.{Result, Ok, Err}
use Rattle.records.specs.declared.Class.{Class}
use Rattle.records.specs.declared.Class.TheVariants.{Register, Block, Body, Instruction, Operand, Arm}
use Rattle.records.specs.declared.NoClass.{NoClass}
use Rattle.records.specs.Class.{class_number, class_at}

abbrev number_or_zero : Result Class NoClass → ℕ
number_or_zero (Ok c) = class_number c
number_or_zero (Err e) = 0

known : (n : ℕ) → (number_or_zero (class_at n) ≡ n) ⊎ (number_or_zero (class_at n) ≡ 0)
known zero = inl refl
known (suc zero) = inl refl
known (suc (suc zero)) = inl refl
known (suc (suc (suc zero))) = inl refl
known (suc (suc (suc (suc zero)))) = inl refl
known (suc (suc (suc (suc (suc zero))))) = inl refl
known (suc (suc (suc (suc (suc (suc zero)))))) = inl refl
known (suc (suc (suc (suc (suc (suc (suc n))))))) = inr refl

above_zero : (c : Class) → 0 < class_number c
above_zero Register = omega arith
above_zero Block = omega arith
above_zero Body = omega arith
above_zero Instruction = omega arith
above_zero Operand = omega arith
above_zero Arm = omega arith

there : (c : Class) → number_or_zero (class_at (class_number c)) ≡ class_number c
there Register = refl
there Block = refl
there Body = refl
there Instruction = refl
there Operand = refl
there Arm = refl

pub class_is : (n : ℕ) {c : Class} → class_at n ≡ Ok c → n ≡ class_number c
class_is n {c} e = by (known n)
  where
    by : (number_or_zero (class_at n) ≡ n) ⊎ (number_or_zero (class_at n) ≡ 0) → n ≡ class_number c
    by (inl t) = sym t ∙ ap number_or_zero e
    by (inr t) = absurd (let h = above_zero c in let z : 0 ≡ class_number c = sym t ∙ ap number_or_zero e in omega arith)

-- the same, for what a call gave
pub class_told : (n : ℕ) {k c : Class} → Ok k ≡ class_at n → k ≡ c → n ≡ class_number c
class_told n e f = class_is n (sym e) ∙ ap class_number f

pub no_class_is : (n : ℕ) {e : NoClass} → class_at n ≡ Err e → (c : Class) → n ≡ class_number c → ⊥
no_class_is n e c i =
    let h = above_zero c in
    let z : class_number c ≡ 0 = sym (there c) ∙ ap (λ (k : ℕ). number_or_zero (class_at k)) (sym i) ∙ ap number_or_zero e in
    omega arith
