-- What Tidy's answer says of Read's answer and of the file.
use Prim.Native.Nat.{ℕ}
use native.Mathlib.Omega.{arith}
use mathlib.Core.Path.{◌≡◌, refl}
use mathlib.Core.Bool.{Bool, true, false, cond}
use mathlib.Core.List.{List, [], ◌∷◌}
use borrow.Author.Tests.{eqb-true}
use lib.Dec.{eqb}
use Rattle.records.specs.Record.{records_of}
use Rattle.read.specs.Reading.{reading, answer}
use Rattle.procedure.specs.Procedure.{procedure_of}
use Rattle.std.specs.Prelude.{Option, Some, None, Ok}
use Rattle.inst.specs.declared.Reg.{Reg}
use Rattle.tidy.specs.Told.{tidiness_of}
use Rattle.tidy.specs.Tidy.{Tidiness, Tidy, offenders, verdict, told, tidiness}

-- a verdict is of a file that is read, and yes where nothing offends
verdict-number : (rs : List ℕ) → (verdict rs).number ≡ 0
verdict-number [] = refl
verdict-number (r ∷ rs) = refl

verdict-tidy : (rs : List ℕ) → (verdict rs).tidy ≡ 1 → rs ≡ []
verdict-tidy [] e = refl
verdict-tidy (r ∷ rs) e = absurd (omega arith)

-- a file with a verdict is read
pub ok_number : (x : Option Reg) → (tidiness_of (Ok x)).number ≡ 0
ok_number None = refl
ok_number (Some r) = refl

module _ (b : List ℕ) where
  abbrev bad : List ℕ
  bad = offenders (procedure_of (records_of b))

  abbrev by_number : Bool → Tidiness
  by_number t = cond t (verdict bad) (told (reading b).number (reading b).place 0 0)

  pub read_too : (tidiness b).number ≡ 0 → (reading b).number ≡ 0
  unfolding tidiness
  read_too = by (eqb (reading b).number 0) refl
    where
      by : (t : Bool) → eqb (reading b).number 0 ≡ t → (by_number t).number ≡ 0 → (reading b).number ≡ 0
      by true e h = eqb-true (reading b).number 0 e
      by false e h = h

  pub refused_too : ((tidiness b).number ≡ 0 → ⊥) → answer (tidiness b).number (tidiness b).place ≡ reading b
  unfolding tidiness
  refused_too = by (eqb (reading b).number 0)
    where
      by : (t : Bool) → ((by_number t).number ≡ 0 → ⊥) → answer (by_number t).number (by_number t).place ≡ reading b
      by true h = absurd (h (verdict-number bad))
      by false h = refl

  pub yes_tidy : (tidiness b).tidy ≡ 1 → Tidy (procedure_of (records_of b))
  unfolding tidiness
  yes_tidy = by (eqb (reading b).number 0)
    where
      by : (t : Bool) → (by_number t).tidy ≡ 1 → bad ≡ []
      by true e = verdict-tidy bad e
      by false e = absurd (omega arith)
