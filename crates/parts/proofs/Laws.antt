-- The layout of a file from where its classes start; in a file in order it is Read's.
use Prim.Native.Nat.{ℕ, zero, suc, ◌≤◌, ◌<◌}
use native.Mathlib.Nat.{zero-add}
use native.Mathlib.Omega.{arith}
use mathlib.Core.Path.{◌≡◌, refl, sym, ap, ◌∙◌}
use mathlib.Core.Bool.{Bool}
use mathlib.Core.List.{List, [], ◌∷◌}
use mathlib.Core.Logic.{◌⊎◌, inl, inr}
use borrow.Author.Tests.{lt-ltb, le-ltb}
use lib.Dec.{ltb}
use lib.ListN.{length}
use Rattle.general.proofs.Numbers.{order}
use Rattle.records.specs.declared.Record.{Record}
use Rattle.layout.specs.declared.Layout.{Layout}
use Rattle.layout.specs.Walk.{walk, lead}
use Rattle.layout.specs.Classes.{ordered, before}
use Rattle.layout.proofs.Walks.{walk_pass, walk_stop}
use Rattle.layout.proofs.Order.{Sorted, sorted_of, tail_in, before-in, before_out, before-none, before-count}
use Rattle.read.specs.Work.{LaidOut}
use Rattle.parts.specs.Parts.{start_at, starts_in}

pub starts_are : (rs : List Record) {a b c d e n : ℕ}
    → a ≡ start_at 2 0 rs → b ≡ start_at 3 a rs → c ≡ start_at 4 b rs → d ≡ start_at 5 c rs → e ≡ start_at 6 d rs → n ≡ length rs
    → ◌≡◌ {A = Layout} (record { blocks = a; bodies = b; code = c; operands = d; arms = e; end = n }) (starts_in rs)
unfolding starts_in
starts_are rs a' b' c' d' e' n' = rw (n', e', d', c', b', a')

module _ (c : ℕ) where
  abbrev Before : Record → Bool
  Before r = ltb r.class c

  -- records in order of which the first is of class c or a later one have none before
  none_before : (p : ℕ) (r : Record) (rs : List Record) → Sorted p (r ∷ rs) → c ≤ r.class → before c (r ∷ rs) ≡ 0
  none_before p r rs s h = before_out c r rs h ∙ before-none c r.class rs h (tail_in p r rs s)

  lead-before : (p : ℕ) (rs : List Record) → Sorted p rs → lead Before rs ≡ before c rs
  unfolding before walk
  lead-before p [] s = refl
  lead-before p (r ∷ rs) s = by (order r.class c) (lead-before r.class rs (tail_in p r rs s))
    where
      by : (r.class < c) ⊎ (c ≤ r.class) → lead Before rs ≡ before c rs → lead Before (r ∷ rs) ≡ before c (r ∷ rs)
      by (inl i) e = walk_pass (λ s r. Before r) (λ s r. s) {r = r} rs (lt-ltb r.class c i) ∙ ap suc e ∙ sym (before-in c r rs i)
      by (inr i) e = walk_stop (λ s r. Before r) (λ s r. s) {r = r} rs (le-ltb r.class c i) ∙ sym (none_before p r rs s i)

  -- from a place that is no later, the class is found
  start-found : (p first : ℕ) (rs : List Record) → Sorted p rs → first ≤ before c rs → start_at c first rs ≡ before c rs
  unfolding before
  start-found p zero rs s h = zero-add (lead Before rs) ∙ lead-before p rs s
  start-found p (suc k) [] s h = absurd (omega arith)
  start-found p (suc k) (r ∷ rs) s h = by (order r.class c) (start-found r.class k rs (tail_in p r rs s))
    where
      by : (r.class < c) ⊎ (c ≤ r.class) → (k ≤ before c rs → start_at c k rs ≡ before c rs) → start_at c (suc k) (r ∷ rs) ≡ before c (r ∷ rs)
      by (inl i) more =
          let e = before-in c r rs i in
          let m = more (omega arith) in
          omega arith
      by (inr i) more = absurd (let z = none_before p r rs s i in omega arith)

module _ (rs : List Record) (o : ordered rs ≡ length rs) where
  next : (c : ℕ) {x y : ℕ} → x ≡ before c rs → y ≡ start_at (suc c) x rs → y ≡ before (suc c) rs
  next c e f = f ∙ start-found (suc c) 1 _ rs (sorted_of rs o) (let m = before-count c rs in omega arith)

  pub starts_laid : LaidOut rs (starts_in rs)
  unfolding starts_in
  starts_laid =
      let blocks = start-found 2 1 0 rs (sorted_of rs o) (omega arith) in
      let bodies = next 2 blocks refl in
      let code = next 3 bodies refl in
      let operands = next 4 code refl in
      record {
        sorted = o;
        blocks = blocks;
        bodies = bodies;
        code = code;
        operands = operands;
        arms = next 5 operands refl;
        end = refl;
      }
