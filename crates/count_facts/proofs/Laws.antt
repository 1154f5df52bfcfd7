-- Laws of walking a list to its end.
use Prim.Native.Nat.{ℕ, suc, ◌+◌, ◌/◌, ◌≤◌, ◌<◌}
use native.Mathlib.Numerals.{add-one}
use native.Mathlib.Omega.{arith}
use mathlib.Core.Path.{◌≡◌, refl, sym, ap, ◌∙◌}
use mathlib.Core.List.{List, [], ◌∷◌, ◌++◌}
use lib.ListN.{length, get_or, drop, take, length-take, length-drop, length-map, drop_of_length-le, get_or-map}
use lib.Seq.{drop-cons, get_or-take, get_or-drop}
use Rattle.records.specs.declared.Record.{Record}
use Rattle.records.specs.Record.{records_of, record_at, blank}
use Rattle.records.proofs.Laws.{length_records}
use Rattle.facts.specs.Storage.{operands_in, kinds_of}
use Rattle.count_facts.specs.Filling.{over}

-- what is left from place k on gives w in the end
module _ {S A : Type 0} (f : S → A → S) (l : List A) (k : ℕ) {s w : S} where
  pub over_again : (d : A) {t : S} → k < length l → t ≡ f s (get_or l k d) → over f s (drop k l) ≡ w → over f t (drop (k + 1) l) ≡ w
  unfolding over
  over_again d {t} h e i =
      rw (add-one k)
      (ap (λ (x : S). over f x (drop (suc k) l)) e
      ∙ sym (ap (over f s) (drop-cons l k d h))
      ∙ i)

  pub over_done : length l ≤ k → over f s (drop k l) ≡ w → s ≡ w
  unfolding over
  over_done h i = sym (ap (over f s) (drop_of_length-le l h)) ∙ i

-- the operands of some records
pub operands-length : (b : List ℕ) → length (operands_in b) ≡ length b / 32
unfolding operands_in
operands-length b = length-map (records_of b) (λ r. r.p1) ∙ length_records b

pub operand_at : (b : List ℕ) (k : ℕ) → get_or (operands_in b) k 0 ≡ (record_at b k).p1
unfolding operands_in
operand_at b k = get_or-map (λ (r : Record). r.p1) (records_of b) k blank

-- the kinds of some register records
pub kinds-length : (b : List ℕ) → length (kinds_of b) ≡ length b / 32
unfolding kinds_of
kinds-length b = length-map (records_of b) (λ r. r.kind) ∙ length_records b

pub kind_at : (b : List ℕ) (k : ℕ) → get_or (kinds_of b) k 0 ≡ (record_at b k).kind
unfolding kinds_of
kind_at b k = get_or-map (λ (r : Record). r.kind) (records_of b) k blank

-- a part of a list, from a start and of some length
module _ (l : List ℕ) (start len k : ℕ) where
  pub part_at : k < len → get_or (take len (drop start l)) k 0 ≡ get_or l (start + k) 0
  part_at h = get_or-take len (drop start l) k 0 h ∙ get_or-drop start l k 0

  pub part_in : k < len → start + k < length l → k < length (take len (drop start l))
  part_in h i = simp (length-take, length-drop) (omega arith)

  pub part-short : length l ≤ start + k → length (take len (drop start l)) ≤ k
  part-short h = simp (length-take, length-drop) (omega arith)

  pub part-over : len ≤ k → length (take len (drop start l)) ≤ k
  part-over h = simp length-take (omega arith)

-- one list after another
pub over_append : {S A : Type 0} (f : S → A → S) (s : S) (l m : List A) → over f s (l ++ m) ≡ over f (over f s l) m
unfolding over
over_append f s [] m = refl
over_append f s (x ∷ l) m = over_append f (f s x) l m
