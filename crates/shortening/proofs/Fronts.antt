-- Bytes written over the first of others.
use Prim.Native.Nat.{ℕ, ◌+◌, ◌/◌, ◌≤◌, min}
use native.Mathlib.Omega.{arith}
use mathlib.Core.Path.{◌≡◌, refl, sym, ap, ◌∙◌}
use mathlib.Core.List.{List, [], ◌∷◌, map}
use Rattle.std.proofs.Common.{None, Some}
use lib.ListN.{length, get_or, take}
use lib.Seq.{paste, length-paste, take-paste, take_all}
use Rattle.records.specs.declared.Record.{Record}
use Rattle.records.specs.Record.{records_of, record_at, blank}
use Rattle.records.proofs.Laws.{length_records}
use Rattle.procedure.specs.Procedure.{first_of}
use Rattle.shortening.specs.Storage.{fronted}

-- where there is room for all of them
module _ (b s : List ℕ) (room : length s ≤ length b) where
  pub fronted-length : length (fronted b s) ≡ length b
  fronted-length = length-paste b 0 s (min (length s) (length b)) (omega arith) (omega arith)

  pub fronted_first : take (length s) (fronted b s) ≡ s
  fronted_first =
      let m : min (length s) (length b) ≡ length s = omega arith in
      let z : 0 + length s ≡ length s = omega arith in
      ap (λ (k : ℕ). take (length s) (paste b 0 s k)) m
      ∙ ap (λ (k : ℕ). take k (paste b 0 s (length s))) (sym z)
      ∙ take-paste b 0 s (length s) (omega arith) (omega arith)
      ∙ take_all (length s) s (omega arith)

-- the body
pub no_body : (b : List ℕ) → length b / 32 ≡ 0 → None ≡ first_of (map (λ r. r.p1) (records_of b))
no_body b h = by (records_of b) (length_records b ∙ h)
  where
    by : (rs : List Record) → length rs ≡ 0 → None ≡ first_of (map (λ r. r.p1) rs)
    by [] e = refl
    by (r ∷ rs) e = absurd (omega arith)

pub first_body : (b : List ℕ) {r : Record} → (length b / 32 ≡ 0 → ⊥) → r ≡ record_at b 0 → Some r.p1 ≡ first_of (map (λ r. r.p1) (records_of b))
first_body b h e = ap (λ (r : Record). Some r.p1) e ∙ by (records_of b) (λ z. h (sym (length_records b) ∙ z))
  where
    by : (rs : List Record) → (length rs ≡ 0 → ⊥) → Some (get_or rs 0 blank).p1 ≡ first_of (map (λ r. r.p1) rs)
    by [] n = absurd (n refl)
    by (r ∷ rs) n = refl
