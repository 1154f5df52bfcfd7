-- Laws of rows put one after another, and of the kinds that they begin with.
use Prim.Native.Nat.{ℕ, ◌+◌, ◌*◌, ◌-◌, ◌/◌, ◌≤◌, ◌<◌}
use native.Mathlib.Numerals.{add-one, towards_suc}
use native.Mathlib.Omega.{arith}
use mathlib.Core.Path.{◌≡◌, refl, sym, ap, ◌∙◌}
use mathlib.Core.List.{List, [], ◌∷◌, ◌++◌, append_assoc}
use lib.ListN.{length, get_or, take, drop, set, length-append, get_or-append}
use lib.Seq.{sets-eq, length-take-le, take_at, take_all, get_or-append-add}
use Rattle.records.specs.Record.{record_at}
use Rattle.facts.specs.Storage.{rows, kinds_of}
use Rattle.count_facts.specs.Filling.{bare}
use Rattle.count_facts.proofs.Laws.{kinds-length, kind_at}

pub five-put : (t : List ℕ) (at x : ℕ) → at + 5 ≤ length t →
    set (set (set (set (set t at x) (at + 1) 0) (at + 2) 0) (at + 3) 0) (at + 4) 0 ≡ take at t ++ (x ∷ 0 ∷ 0 ∷ 0 ∷ 0 ∷ drop (at + 5) t)
five-put t at x h = simp towards_suc (simp (towards_suc, append_assoc) at (sets-eq (x ∷ 0 ∷ 0 ∷ 0 ∷ 0 ∷ []) t at h))

pub start_none : (kinds t : List ℕ) → take (5 * 0) t ≡ rows 0 (bare kinds)
unfolding rows
start_none kinds t = refl

module _ (kinds : List ℕ) (k : ℕ) where
  pub start-next : (t u : List ℕ) {x : ℕ} → 5 * k + 5 ≤ length t → take (5 * k) t ≡ rows k (bare kinds) → x ≡ get_or kinds k 0 →
      u ≡ take (5 * k) t ++ (x ∷ 0 ∷ 0 ∷ 0 ∷ 0 ∷ drop (5 * k + 5) t) → take (5 * (k + 1)) u ≡ rows (k + 1) (bare kinds)
  unfolding rows
  start-next t u {x} h e f g =
      let front = take (5 * k) t ++ (x ∷ 0 ∷ 0 ∷ 0 ∷ 0 ∷ []) in
      let long : length (take (5 * k) t ++ (x ∷ 0 ∷ 0 ∷ 0 ∷ 0 ∷ [])) ≡ 5 * (k + 1) =
      length-append (take (5 * k) t) (x ∷ 0 ∷ 0 ∷ 0 ∷ 0 ∷ []) ∙ (let m = length-take-le (5 * k) t (omega arith) in omega arith) in
      ap (take (5 * (k + 1))) (g ∙ sym (append_assoc (take (5 * k) t) (x ∷ 0 ∷ 0 ∷ 0 ∷ 0 ∷ []) (drop (5 * k + 5) t)))
      ∙ take_at front (drop (5 * k + 5) t) (5 * (k + 1)) long
      ∙ rw (add-one k, e, f)

  pub start-all : (n : ℕ) (t : List ℕ) → n ≤ k → k ≤ n → length t ≡ 5 * n → take (5 * k) t ≡ rows k (bare kinds) → t ≡ rows n (bare kinds)
  start-all n t h m e f =
      let same : k ≡ n = omega arith in
      sym (take_all (5 * k) t (omega arith)) ∙ f ∙ ap (λ (i : ℕ). rows i (bare kinds)) same

-- the kind of a register: of those in the records, or of the new ones behind them
module _ (b kinds : List ℕ) (k : ℕ) where
  pub kind-sent : k < length b / 32 → (record_at b k).kind ≡ get_or (kinds_of b ++ kinds) k 0
  kind-sent h = sym (get_or-append (kinds_of b) kinds 0 k (omega (arith, kinds-length b)) ∙ kind_at b k)

  pub kind-new : length b / 32 ≤ k → get_or kinds (k - length b / 32) 0 ≡ get_or (kinds_of b ++ kinds) k 0
  kind-new h =
      let e : k ≡ length (kinds_of b) + (k - length b / 32) = omega (arith, kinds-length b) in
      sym (ap (λ (i : ℕ). get_or (kinds_of b ++ kinds) i 0) e ∙ get_or-append-add (kinds_of b) kinds (k - length b / 32) 0)

pub all_kinds : (b kinds : List ℕ) → length (kinds_of b ++ kinds) ≡ length b / 32 + length kinds
all_kinds b kinds = length-append (kinds_of b) kinds ∙ ap (λ (n : ℕ). n + length kinds) (kinds-length b)
