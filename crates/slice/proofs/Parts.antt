-- Laws of the three parts of a MakeDope.
use Rattle.std.proofs.Common.{ℕ, ◌≡◌, ◌≢◌, List, [], ◌∷◌, length, get_or, None, Some, refl, arith}
use Rattle.inst.specs.declared.Reg.{Reg}
use Rattle.slice.specs.declared.noted.Parts.{Parts}
use Rattle.slice.specs.Sliced.{parts_of}

pub no_parts : (l : List ℕ) → length l ≢ 3 → None ≡ parts_of l
no_parts [] h = refl
no_parts (x ∷ []) h = refl
no_parts (x ∷ y ∷ []) h = refl
no_parts (x ∷ y ∷ z ∷ []) h = absurd (h refl)
no_parts (x ∷ y ∷ z ∷ w ∷ l) h = refl

pub some_parts : (l : List ℕ) → length l ≡ 3 → {a b c : Reg} → a.0 ≡ get_or l 0 0 → b.0 ≡ get_or l 1 0 → c.0 ≡ get_or l 2 0
    → Some (let p : Parts = record { left = a; right = b; dir = c } in p) ≡ parts_of l
some_parts [] h p q r = absurd (omega arith)
some_parts (x ∷ []) h p q r = absurd (omega arith)
some_parts (x ∷ y ∷ []) h p q r = absurd (omega arith)
some_parts (x ∷ y ∷ z ∷ []) h p q r = rw (p, q, r)
some_parts (x ∷ y ∷ z ∷ w ∷ l) h p q r = absurd (omega arith)
