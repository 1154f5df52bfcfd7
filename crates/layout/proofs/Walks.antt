-- Laws of a walk: one step more, and where it ends.
use Prim.Native.Nat.{ℕ, zero, suc, ◌+◌, ◌-◌, ◌/◌, ◌≤◌, ◌<◌}
use native.Mathlib.Nat.{add-zero}
use native.Mathlib.Numerals.{add-one, one-add}
use native.Mathlib.Omega.{arith}
use mathlib.Core.Path.{◌≡◌, refl, sym, ap, ◌∙◌}
use mathlib.Core.Bool.{Bool, true, false, cond}
use mathlib.Core.List.{List, [], ◌∷◌}
use mathlib.Core.Logic.{⊎_elim}
use lib.ListN.{length, get_or, take, drop, drop_of_length-le}
use lib.Seq.{drop-cons}
use Rattle.std.specs.List.{prefix_len, range_with_len}
pub use Rattle.general.proofs.Booleans.{cases, told}
use Rattle.records.specs.declared.Record.{Record}
use Rattle.records.specs.Record.{records_of, record_at, blank}
use Rattle.records.proofs.Laws.{length_records}
use Rattle.layout.specs.Walk.{walk, lead}

module _ {S R : Type 0} (ok : S → R → Bool) (next : S → R → S) where
  pub walk_pass : {s : S} {r : R} (rs : List R) → ok s r ≡ true → walk ok next s (r ∷ rs) ≡ suc (walk ok next (next s r) rs)
  unfolding walk
  walk_pass {s} {r} rs e = ap (λ (t : Bool). cond t (suc (walk ok next (next s r) rs)) 0) e

  pub walk_stop : {s : S} {r : R} (rs : List R) → ok s r ≡ false → walk ok next s (r ∷ rs) ≡ 0
  unfolding walk
  walk_stop {s} {r} rs e = ap (λ (t : Bool). cond t (suc (walk ok next (next s r) rs)) 0) e

  pub walk_le : (s : S) (rs : List R) → walk ok next s rs ≤ length rs
  unfolding walk
  walk_le s [] = omega arith
  walk_le s (r ∷ rs) = by (ok s r) (walk_le (next s r) rs)
    where
      by : (t : Bool) → walk ok next (next s r) rs ≤ length rs → cond t (suc (walk ok next (next s r) rs)) 0 ≤ suc (length rs)
      by true h = omega arith
      by false h = omega arith

  -- a walk that passes all passes the first, and then the others
  pub walk_head : (s : S) (r : R) (rs : List R) → walk ok next s (r ∷ rs) ≡ suc (length rs) → ok s r ≡ true
  walk_head s r rs h = ⊎_elim (λ (e : ok s r ≡ true). e) (λ (e : ok s r ≡ false). absurd (let z = walk_stop rs e in omega arith)) (cases (ok s r))

  pub walk_tail : (s : S) (r : R) (rs : List R) → walk ok next s (r ∷ rs) ≡ suc (length rs) → walk ok next (next s r) rs ≡ length rs
  walk_tail s r rs h = let e = walk_pass rs (walk_head s r rs h) in omega arith

  -- the walk from place k of a list
  pub pass_at :
      (l : List R) (k : ℕ) (d : R) (s : S) → k < length l → ok s (get_or l k d) ≡ true →
      (k + 1) + walk ok next (next s (get_or l k d)) (drop (k + 1) l) ≡ k + walk ok next s (drop k l)
  pass_at l k d s h e =
      sym
      (ap (λ (xs : List R). k + walk ok next s xs) (drop-cons l k d h) ∙ ap (λ (n : ℕ). k + n) (walk_pass (drop (suc k) l) e) ∙ rw (add-one k)
      (omega arith))

  pub stop_at : (l : List R) (k : ℕ) (d : R) (s : S) → k < length l → ok s (get_or l k d) ≡ false → k ≡ k + walk ok next s (drop k l)
  stop_at l k d s h e =
      sym (ap (λ (xs : List R). k + walk ok next s xs) (drop-cons l k d h) ∙ ap (λ (n : ℕ). k + n) (walk_stop (drop (suc k) l) e) ∙ add-zero k)

  pub end-at : (l : List R) (k : ℕ) (s : S) → length l ≤ k → k ≡ k + walk ok next s (drop k l)
  unfolding walk
  end-at l k s h = sym (ap (λ (xs : List R). k + walk ok next s xs) (drop_of_length-le l h) ∙ add-zero k)

module _ {R : Type 0} (p : R → Bool) where
  pub lead_pass : (l : List R) (k : ℕ) (d : R) → k < length l → p (get_or l k d) ≡ true → (k + 1) + lead p (drop (k + 1) l) ≡ k + lead p (drop k l)
  lead_pass l k d = pass_at (λ s r. p r) (λ s r. s) l k d (tt {0})

  pub lead_stop : (l : List R) (k : ℕ) (d : R) → k < length l → p (get_or l k d) ≡ false → k ≡ k + lead p (drop k l)
  lead_stop l k d = stop_at (λ s r. p r) (λ s r. s) l k d (tt {0})

  pub lead-end : (l : List R) (k : ℕ) → length l ≤ k → k ≡ k + lead p (drop k l)
  lead-end l k = end-at (λ s r. p r) (λ s r. s) l k (tt {0})

  pub lead_le : (l : List R) → lead p l ≤ length l
  lead_le l = walk_le (λ s r. p r) (λ s r. s) (tt {0}) l

-- the places of n records from `first` on, up to the first that fails the test
module _ (p : Record → Bool) (b : List ℕ) where
  pub run_range :
      (first n : ℕ) → n ≤ length b / 32 - first →
      prefix_len (λ k. p (record_at b k)) (range_with_len first n) ≡ lead p (take n (drop first (records_of b)))
  unfolding walk
  run_range first zero h = refl
  run_range first (suc n) h =
      let i : first < length (records_of b) = rw (length_records b) (omega arith) in
      ap (λ (k : ℕ). cond (p (record_at b first)) k 0)
      (one-add _
      ∙ ap suc (run_range (first + 1) n (omega arith) ∙ ap (λ (k : ℕ). lead p (take n (drop k (records_of b)))) (add-one first)))
      ∙ sym (ap (λ (rs : List Record). lead p (take (suc n) rs)) (drop-cons (records_of b) first blank i))
