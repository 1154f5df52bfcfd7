-- The layout, from where the spans of the classes end.
use Prim.Native.Nat.{ℕ, suc, ◌+◌}
use mathlib.Core.Path.{◌≡◌, refl, sym, ap, ◌∙◌}
use mathlib.Core.List.{List}
use borrow.Author.Tests.{eq-eqb, ne_eqb}
use lib.ListN.{length, drop}
use Rattle.records.specs.declared.Record.{Record}
use Rattle.layout.specs.declared.Layout.{Layout}
use Rattle.layout.specs.Walk.{lead}
use Rattle.layout.specs.Classes.{ordered, before, layout_of}
use Rattle.layout.specs.Work.{right_of}
use Rattle.layout.proofs.Order.{end_of, ordered_end, before-end, sorted_of}

start_is : (rs : List Record) → 0 ≡ end_of 0 rs
unfolding end_of
start_is rs = refl

span_next : (c : ℕ) (rs : List Record) {x y : ℕ} → x ≡ end_of c rs → y ≡ x + lead (right_of (suc c)) (drop x rs) → y ≡ end_of (suc c) rs
unfolding end_of
span_next c rs e i = i ∙ ap (λ (n : ℕ). n + lead (right_of (suc c)) (drop n rs)) e

-- each span starts where the one before it ends
module _ (rs : List Record) {a b c d e f : ℕ}
    (registers : a ≡ 0 + lead (right_of 1) (drop 0 rs)) (blocks : b ≡ a + lead (right_of 2) (drop a rs)) (bodies : c ≡ b + lead (right_of 3) (drop b rs))
    (code : d ≡ c + lead (right_of 4) (drop c rs)) (operands : e ≡ d + lead (right_of 5) (drop d rs)) (arms : f ≡ e + lead (right_of 6) (drop e rs)) where
  a' : a ≡ end_of 1 rs
  a' = span_next 0 rs (start_is rs) registers

  b' : b ≡ end_of 2 rs
  b' = span_next 1 rs a' blocks

  c' : c ≡ end_of 3 rs
  c' = span_next 2 rs b' bodies

  d' : d ≡ end_of 4 rs
  d' = span_next 3 rs c' code

  e' : e ≡ end_of 5 rs
  e' = span_next 4 rs d' operands

  f' : f ≡ end_of 6 rs
  f' = span_next 5 rs e' arms

  laid :
      f ≡ length rs →
      ◌≡◌ {A = Layout} (record { blocks = a; bodies = b; code = c; operands = d; arms = e; end = f })
      (record { blocks = before 2 rs; bodies = before 3 rs; code = before 4 rs; operands = before 5 rs; arms = before 6 rs; end = length rs })
  laid h =
      let s = sorted_of rs (ordered_end rs ∙ sym f' ∙ h) in
      rw (before-end 1 rs s, before-end 2 rs s, before-end 3 rs s, before-end 4 rs s, before-end 5 rs s, ← a', ← b', ← c', ← d', ← e', ← h)

  pub laid_out : f ≡ length rs → ◌≡◌ {A = Layout} (record { blocks = a; bodies = b; code = c; operands = d; arms = e; end = f }) (layout_of rs)
  laid_out h = laid h ∙ sym (rw (eq-eqb (ordered rs) (length rs) (ordered_end rs ∙ sym f' ∙ h)))

  pub not_laid : (f ≡ length rs → ⊥) → ◌≡◌ {A = Layout} (record { blocks = 0; bodies = 0; code = 0; operands = 0; arms = 0; end = f }) (layout_of rs)
  not_laid h = sym (rw (ne_eqb (ordered rs) (length rs) (λ i. h (f' ∙ sym (ordered_end rs) ∙ i)), ordered_end rs, ← f'))
