-- Stretches of two runs put together.
use Prim.Native.Nat.{ℕ, zero, suc, ◌≤◌}
use mathlib.Core.Path.{◌≡◌, refl, ap, ◌∙◌}
use native.Mathlib.Omega.{arith}
use Rattle.machine.proofs.Shorter.{Mach, Stretch, seen}

module _ (m m' : Mach) where
  -- a stretch to a wider relation
  pub widen : (R R' : m.S → m'.S → Type 0) → ((s : m.S) (s' : m'.S) → R s s' → R' s s') → (s : m.S) (s' : m'.S) → Stretch m m' R s s' → Stretch m m' R' s s'
  widen R R' f s s' x = record { k = x.k; k' = x.k'; rel = f _ _ x.rel; cheap = x.cheap; quiet = x.quiet; quiet' = x.quiet' }

  module _ (R : m.S → m'.S → Type 0) where
    -- a step of the first alone that shows nothing, before a stretch
    pub ahead : (s t : m.S) (s' : m'.S) → m.next s ≡ t → m.show t ≡ m.show s → Stretch m m' R t s' → Stretch m m' R s s'
    ahead s t s' a e y =
        record { k = suc x.k; k' = x.k'; rel = x.rel; cheap = omega (arith, x.cheap); quiet = q; quiet' = x.quiet' }
      where
        x : Stretch m m' R (m.next s) s'
        x = rw a y

        q : (j : ℕ) → j ≤ suc x.k → seen m j s ≡ m.show s
        q zero l = refl
        q (suc j) l = x.quiet j (omega arith) ∙ ap m.show a ∙ e

    -- a step of each that shows nothing, before a stretch
    pub abreast : (s t : m.S) (s' t' : m'.S) → m.next s ≡ t → m'.next s' ≡ t' → m.show t ≡ m.show s → m'.show t' ≡ m'.show s'
        → m'.cost s' ≤ m.cost s → Stretch m m' R t t' → Stretch m m' R s s'
    abreast s t s' t' a a' e e' c y =
        record { k = suc x.k; k' = suc x.k'; rel = x.rel; cheap = omega (arith, x.cheap); quiet = q; quiet' = q' }
      where
        x : Stretch m m' R (m.next s) (m'.next s')
        x = rw (a, a') y

        q : (j : ℕ) → j ≤ suc x.k → seen m j s ≡ m.show s
        q zero l = refl
        q (suc j) l = x.quiet j (omega arith) ∙ ap m.show a ∙ e

        q' : (j : ℕ) → j ≤ suc x.k' → seen m' j s' ≡ m'.show s'
        q' zero l = refl
        q' (suc j) l = x.quiet' j (omega arith) ∙ ap m'.show a' ∙ e'
