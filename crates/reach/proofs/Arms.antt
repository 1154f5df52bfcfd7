-- Laws of the targets of a table: one arm more.
use Prim.Native.Nat.{ℕ, ◌+◌, ◌/◌, ◌≤◌, ◌<◌}
use native.Mathlib.Numerals.{add-one}
use mathlib.Core.Path.{◌≡◌, sym, ap, ◌∙◌}
use mathlib.Core.List.{List, ◌∷◌}
use borrow.Author.Tests.{eq-eqb, ne_eqb}
use mathlib.Core.Bool.{true, false}
use lib.Dec.{eqb}
use lib.ListN.{length, get_or, drop, drop_of_length-le}
use lib.Seq.{drop-cons}
use Rattle.records.specs.declared.Record.{Record}
use Rattle.records.specs.Record.{blank, records_of}
use Rattle.records.proofs.Laws.{length_records}
use Rattle.inst.specs.declared.ArmEntry.{ArmEntry}
use Rattle.items.specs.Items.{arm_of}
use Rattle.reach.specs.Reached.{targets_in}
use Rattle.search.specs.Search.{State, pushed_all, with_block, with_blocks}

module _ (n : ℕ) (arms : List ℕ) where
  abbrev rs : List Record
  rs = records_of arms

  -- what the arms from arm k on push
  abbrev pub all_from : State → ℕ → State
  all_from s j = with_blocks s (targets_in n (drop j rs))

  module _ {x : ArmEntry} {k : ℕ} (h : k < length arms / 32) (here : x ≡ arm_of (get_or rs k blank)) (s : State) where
    abbrev own : Record
    own = get_or rs k blank

    at-arm : drop k rs ≡ own ∷ drop (k + 1) rs
    at-arm = drop-cons rs k blank (rw (length_records arms) h) ∙ rw (add-one k)

    its_table : own.p1 ≡ x.table
    its_table = sym (ap (λ (y : ArmEntry). y.table) here)

    is-default : eqb own.kind 1 ≡ x.default
    is-default = sym (ap (λ (y : ArmEntry). y.default) here)

    its_target : with_block s x.to.0 ≡ with_block s own.p6
    its_target = ap (λ (y : ArmEntry). with_block s y.to.0) here

    pub other_arm : (x.table ≡ n → ⊥) → all_from s (k + 1) ≡ all_from s k
    unfolding targets_in
    other_arm e = sym (ap (λ (l : List Record). with_blocks s (targets_in n l)) at-arm ∙ rw (ne_eqb own.p1 n (λ i. e (sym its_table ∙ i))))

    pub case_arm : x.table ≡ n → x.default ≡ false → all_from (with_block s x.to.0) (k + 1) ≡ all_from s k
    unfolding targets_in pushed_all
    case_arm e d =
        ap (λ (t : State). all_from t (k + 1)) its_target
        ∙ sym (ap (λ (l : List Record). with_blocks s (targets_in n l)) at-arm ∙ rw (eq-eqb own.p1 n (its_table ∙ e), is-default ∙ d))

    pub default_arm : x.table ≡ n → x.default ≡ true → with_block s x.to.0 ≡ all_from s k
    unfolding targets_in pushed_all
    default_arm e d =
        its_target
        ∙ sym (ap (λ (l : List Record). with_blocks s (targets_in n l)) at-arm ∙ rw (eq-eqb own.p1 n (its_table ∙ e), is-default ∙ d))

  pub no_arm : (k : ℕ) → length arms / 32 ≤ k → (s : State) → s ≡ all_from s k
  unfolding targets_in pushed_all
  no_arm k h s = sym (ap (λ (l : List Record). with_blocks s (targets_in n l)) (drop_of_length-le rs (rw (length_records arms) h)))
