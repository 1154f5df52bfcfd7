-- `slice_tests` asks of the constants only which registers hold 0 and which hold a direction.
use Rattle.std.proofs.Common.{ℕ, ◌≡◌, List, [], ◌∷◌, Option, refl, ap}
use Rattle.inst.specs.declared.Code.{Code}
use Rattle.inst.specs.declared.Inst.{Inst}
use Rattle.roles.specs.Roles.{defs_of, operands_of}
use Rattle.kc.proofs.Laws.{Agree}
use Rattle.steps.specs.Slice.{Measure, compares, makes, measures, spans, plain, measure_of, Lengths, no_lengths, forget_all, note_parts, note, after}
use Rattle.steps.specs.Slice.{Test, rewritten_by, test_by, test_of, tests_from, sliced_from, tests_in, sliced_in}

module _ {f g : ℕ → Option ℕ} (a : Agree f g) (ops : List ℕ) where
  parts_same : (at : ℕ) (l : List ℕ) (k : Lengths) → note_parts f ops at l k ≡ note_parts g ops at l k
  parts_same at [] k = refl
  parts_same at (l ∷ []) k = refl
  parts_same at (l ∷ r ∷ []) k = refl
  parts_same at (l ∷ r ∷ e ∷ []) k = rw (a.down e)
  parts_same at (l ∷ r ∷ e ∷ x ∷ xs) k = refl

  note_same : (m : Measure) (k : Lengths) → note f ops m k ≡ note g ops m k
  note_same (compares op d x z) k = refl
  note_same (makes at parts) k = parts_same at.0 (operands_of ops parts) k
  note_same (measures d at dim) k = refl
  note_same (spans d l r e) k = rw (a.down e.0)
  note_same plain k = refl

  test_same : (k : Lengths) (m : Measure) → test_by f ops k m ≡ test_by g ops k m
  test_same k (compares op d x z) = rw (a.zero z.0)
  test_same k (makes at parts) = refl
  test_same k (measures d at dim) = refl
  test_same k (spans d l r e) = refl
  test_same k plain = refl

  after_same : (k : Lengths) (x : Inst) → after f ops k x ≡ after g ops k x
  after_same k x = note_same (measure_of x) (forget_all (defs_of x) k)

  tests_from_same : (k : Lengths) (c : List Code) → tests_from f ops k c ≡ tests_from g ops k c
  unfolding tests_from
  tests_from_same k [] = refl
  tests_from_same k (x ∷ c) =
      rw (test_same k (measure_of x.inst), after_same k x.inst)
      (ap (λ (l : List (Option Test)). test_of g ops k x ∷ l) (tests_from_same (after g ops k x.inst) c))

  sliced_from_same : (k : Lengths) (c : List Code) → sliced_from f ops k c ≡ sliced_from g ops k c
  unfolding sliced_from
  sliced_from_same k [] = refl
  sliced_from_same k (x ∷ c) =
      rw (test_same k (measure_of x.inst), after_same k x.inst)
      (ap (λ (l : List Code). rewritten_by (test_of g ops k x) x ∷ l) (sliced_from_same (after g ops k x.inst) c))

  pub tests-same : (P : List (List Code)) → tests_in f ops P ≡ tests_in g ops P
  tests-same [] = refl
  tests-same (c ∷ P) = rw (tests_from_same no_lengths c, tests-same P)

  pub sliced-same : (P : List (List Code)) → sliced_in f ops P ≡ sliced_in g ops P
  sliced-same [] = refl
  sliced-same (c ∷ P) = rw (sliced_from_same no_lengths c, sliced-same P)
