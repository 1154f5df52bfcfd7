-- Laws of Booleans.
use mathlib.Core.Path.{◌≡◌, refl, sym, ap, subst, ◌∙◌}
use mathlib.Core.Bool.{Bool, true, false, not, ◌&&◌, ◌||◌, false≢true, true≢false}
use mathlib.Core.Logic.{◌⊎◌, inl, inr}
use lib.Dec.{T}

pub cases : (b : Bool) → (b ≡ true) ⊎ (b ≡ false)
cases true = inl refl
cases false = inr refl

pub holds : {b : Bool} → b ≡ true → T b
holds e = subst T (sym e) tt

pub fails : {b : Bool} → b ≡ false → T (not b)
fails e = subst (λ (y : Bool). T (not y)) (sym e) tt

pub and_first : (a b : Bool) → (a && b) ≡ true → a ≡ true
and_first true b e = refl
and_first false b e = e

pub and_second : (a b : Bool) → (a && b) ≡ true → b ≡ true
and_second true b e = e
and_second false b e = absurd (false≢true e)

pub or_first : (a b : Bool) → (a || b) ≡ false → a ≡ false
or_first true b e = absurd (true≢false e)
or_first false b e = refl

pub or_second : (a b : Bool) → (a || b) ≡ false → b ≡ false
or_second true b e = absurd (true≢false e)
or_second false b e = e

-- what a conjunction comes to once its first part is known
pub both : {h a b x : Bool} → h ≡ a → h ≡ true → x ≡ b → x ≡ (a && b)
both {h} {a} {b} i t f = f ∙ ap (λ (y : Bool). y && b) (sym t ∙ i)

pub neither : (b : Bool) {h a : Bool} → h ≡ a → h ≡ false → false ≡ (a && b)
neither b i t = ap (λ (y : Bool). y && b) (sym t ∙ i)

-- and a disjunction
pub otherwise : {a b x : Bool} → a ≡ false → x ≡ b → x ≡ (a || b)
otherwise {a} {b} e f = f ∙ ap (λ (y : Bool). y || b) (sym e)

-- a test of what a call gave is the test of what the call's contract says
pub told : {A : Type 0} (p : A → Bool) {x y : A} {f v : Bool} → x ≡ y → f ≡ p x → f ≡ v → p y ≡ v
told p e i t = ap p (sym e) ∙ sym i ∙ t
