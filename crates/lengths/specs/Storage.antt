-- Storage, not the paper's: how the rows of a slice represent what `slice_tests` knows of lengths.
use Rattle.std.specs.Prelude.{ℕ, ◌+◌, ◌≤◌, ◌≡◌, List, [], ◌∷◌, Bool, true, false, ◌&&◌, ◌||◌, not, cond, eqb, length, take}
use Rattle.inst.specs.declared.Reg.{Reg}
use Rattle.steps.specs.Slice as s
use Rattle.lengths.specs.declared.What.{What}
use Rattle.lengths.specs.declared.What.TheVariants.{Made, Measured, Known}
use Rattle.lengths.specs.declared.Bounds.{Bounds}
use Rattle.lengths.specs.declared.Row.{Row}
use Rattle.lengths.specs.declared.Lengths.{Lengths}

abbrev pub same : What → What → Bool
same Made Made = true
same Made Measured = false
same Made Known = false
same Measured Made = false
same Measured Measured = true
same Measured Known = false
same Known Made = false
same Known Measured = false
same Known Known = true

abbrev pub bounds_in : Bounds → s.Bounds
bounds_in b = record { left = b.left.0; right = b.right.0; down = b.down }

-- the bounds of a row
abbrev pub bounds_at : Row → Bounds
bounds_at x = record { left = x.left; right = x.right; down = x.down }

abbrev pub row_of : What → Reg → Bounds → Row
row_of w r b = record { key = r; left = b.left; right = b.right; what = w; down = b.down }

-- the entries that the rows of one kind are, in order
unfoldable pub entries : {A : Type 0} → What → (Bounds → A) → List Row → List (ℕ × A)
entries w f [] = []
entries w f (x ∷ xs) = cond (same x.what w) ((x.key.0, f (bounds_at x)) ∷ entries w f xs) (entries w f xs)

-- a Measured row has the register of the block of memory in place of both bounds
abbrev pub lengths_of : List Row → s.Lengths
lengths_of xs = record {
  made = entries Made bounds_in xs;
  measured = entries Measured (λ b. b.left.0) xs;
  known = entries Known bounds_in xs;
}

-- the rows that are in use
abbrev pub listed : Lengths → List Row
listed k = take k.n k.rows.now

abbrev pub lengths_in : Lengths → s.Lengths
lengths_in k = lengths_of (listed k)

-- a row stays if no register that it names is d
abbrev pub stays : ℕ → Row → Bool
stays d x = not (eqb x.key.0 d) && not (eqb x.left.0 d) && (same x.what Measured || not (eqb x.right.0 d))

-- the same slice with at most m rows more
pub record Keeps (m : ℕ) (z k : Lengths) : Type 0 where
  pub count : z.n ≤ k.n + m
  pub long : length z.rows.now ≡ length k.rows.now
