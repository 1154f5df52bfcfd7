-- Laws of the tests before a copy.
use Prim.Native.Nat.{ℕ, ◌≤◌, ◌<◌}
use mathlib.Core.Path.{◌≡◌, refl, sym, ap, ◌∙◌}
use mathlib.Core.Bool.{Bool, true, false, ◌&&◌, ◌||◌, not}
use mathlib.Core.List.{List}
use Rattle.std.proofs.Common.{Option}
use borrow.Author.Tests.{lt-ltb, le-ltb}
use lib.Dec.{eqb}
use Rattle.inst.specs.declared.Code.{Code}
use Rattle.procedure.specs.Lists.{present, holds}
use Rattle.procedure.specs.Procedure.{codes_of}
use Rattle.blocks.specs.Blocks.{blocks_of, block_bytes}
use Rattle.blocks.proofs.Parts.{block_codes}
use Rattle.steps.specs.Small.{reads_konst}
use Rattle.steps.specs.Facts.{Facts}
use Rattle.steps.specs.Gate.{copied}
use Rattle.steps.specs.Thread.{Work, block_at, stops}
use Rattle.facts.specs.Storage.{konst_at, facts_in}
use Rattle.hop_br.specs.Storage.{grown_to}

-- the tests before a copy, in their order
tests : {s s' b b' k k' g g' n n' : Bool} → s' ≡ s → b' ≡ b → k' ≡ k → g' ≡ g → n ≡ n' → (s || b || k || g || n) ≡ (s' || b' || k' || g' || n')
tests e₁ e₂ e₃ e₄ e₅ = rw (e₁, e₂, e₃, e₄, ← e₅)

module _ (facts : List ℕ) (body : Option ℕ) (budget : ℕ) (code table : List ℕ) (grown a l : ℕ) where
  abbrev f : Facts
  f = facts_in facts body budget

  abbrev w : Work
  w = grown_to (blocks_of code table) grown

  pub stop_self : true ≡ eqb l a → true ≡ stops f w a l
  unfolding stops
  stop_self e = tests (sym e) refl refl refl refl

  module _ (self : false ≡ eqb l a) {p : Bool} (paused : p ≡ holds body l) where
    pub stop_body : p ≡ true → true ≡ stops f w a l
    unfolding stops
    stop_body i = tests (sym self) (sym paused ∙ i) refl refl refl

    -- block l is told by its bytes
    module _
        (isnt : p ≡ false)
        {wide z : Bool}
        {c t b : List ℕ}
        (wide-is : wide ≡ present body)
        (code-is : c ≡ code)
        (table-is : t ≡ table)
        (block : b ≡ block_bytes c t l)
        (binds : z ≡ (wide && reads_konst (konst_at facts) (codes_of b)))
      where
        konst : (v : Bool) → z ≡ v → (present body && reads_konst (konst_at facts) (block_at w l)) ≡ v
        konst v i =
            ap (λ (c : List Code). present body && reads_konst (konst_at facts) c) (sym (block_codes code table l))
            ∙ ap (λ (x : List ℕ). present body && reads_konst (konst_at facts) (codes_of x)) (sym (rw (code-is, table-is) at block))
            ∙ ap (λ (t : Bool). t && reads_konst (konst_at facts) (codes_of b)) (sym wide-is)
            ∙ sym binds
            ∙ i

        pub stop_konst : z ≡ true → true ≡ stops f w a l
        unfolding stops
        stop_konst i = tests (sym self) (sym paused ∙ isnt) (konst true i) refl refl

        module _ (free : z ≡ false) {m : ℕ} (m-is : m ≡ budget) where
          pub stop_grown : m < grown → true ≡ stops f w a l
          unfolding stops
          stop_grown h = tests (sym self) (sym paused ∙ isnt) (konst false free) (lt-ltb budget grown (rw m-is at h)) refl

          pub stop_last : grown ≤ m → {y : Bool} {P : List (List Code)} → P ≡ blocks_of code table → y ≡ copied wide P l → not y ≡ stops f w a l
          unfolding stops
          stop_last h {y = y} i j =
              let n = ap not (rw (wide-is, i) at j) in
              tests (sym self) (sym paused ∙ isnt) (konst false free) (le-ltb budget grown (rw m-is at h)) n
