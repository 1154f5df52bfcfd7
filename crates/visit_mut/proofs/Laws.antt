-- Laws of the first of some pairs, and of an exchange of registers.
use Rattle.std.proofs.Common.{◌≡◌, ℕ, ◌<◌, ◌≤◌, ◌+◌, true, false, cond, List, length, get_or, drop, drop-cons, refl, sym, ap, ◌∙◌, add-one}
use lib.Dec.{eqb}
use lib.ListN.{drop_of_length-le}
use Rattle.inst.specs.declared.Reg.{Reg}
use Rattle.roles.specs.Exchange.{through}
use Rattle.visit_mut.specs.Pairs.{pairs_in}

-- the pairs from place k on
module _ (l : List (Reg × Reg)) (k r : ℕ) (d : Reg × Reg) where
  next : k < length l → through (pairs_in (drop k l)) r ≡ cond (eqb (get_or l k d).0.0 r) (get_or l k d).1.0 (through (pairs_in (drop (k + 1) l)) r)
  unfolding through
  next h = rw add-one (ap (λ (x : List (Reg × Reg)). through (pairs_in x) r) (drop-cons l k d h))

  pub through_here : k < length l → true ≡ eqb (get_or l k d).0.0 r → (get_or l k d).1.0 ≡ through (pairs_in (drop k l)) r
  through_here h e = sym (next h ∙ rw (sym e) refl)

  pub through-later : k < length l → false ≡ eqb (get_or l k d).0.0 r → through (pairs_in (drop (k + 1) l)) r ≡ through (pairs_in (drop k l)) r
  through-later h e = sym (next h ∙ rw (sym e) refl)

  pub through-done : length l ≤ k → r ≡ through (pairs_in (drop k l)) r
  unfolding through
  through-done h = sym (ap (λ (x : List (Reg × Reg)). through (pairs_in x) r) (drop_of_length-le l {i = k} h))
