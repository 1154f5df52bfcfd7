-- Accounts that are kept in two places, or for later.
use Rattle.std.proofs.Common.{◌≡◌, ℕ, ◌+◌, ◌≤◌, List, [], ◌∷◌, length, refl, sym, ap, subst, ◌∙◌, arith, zero-add}
use Rattle.std.proofs.lemmas.Bool.{leb-true}
use Rattle.std.proofs.lemmas.List.{set-get_or, set-set, length-set}
use Rattle.steps.specs.Shorten.{refusal, shorten}
use Rattle.billing.specs.Billing.{ceiling}
use Rattle.accounts.specs.Accounts.{tally_in, with_tally, made, made_with, joined_if}
use Rattle.accounts.specs.History.{Call, Reply, Served, serve, after, replies}
use Rattle.accounts.proofs.Saving.{load_of_save}
use Rattle.histories.specs.Tally.{cost}
use Rattle.histories.specs.Calls.{ten}
use Rattle.histories.specs.Parts.{Joined, Kept}
use Rattle.histories.proofs.Served.{unpriced, charged, Coming, refuses, passes, charges, coming, refused_is}
use Rattle.histories.proofs.Calls.{charged_is, ten_there}
use Rattle.histories.proofs.Tallied.{with-tally, tallied_from, tallied}

-- accounts w that are ahead of a part p by a tally t
abbrev Ahead : ℕ → List ℕ → List ℕ → List Call → Type 0
Ahead t w p h =
    tally_in w ≡ t + tally_in p → t + tally_in (after p h) ≤ ceiling
    → (after w h ≡ with_tally w (t + tally_in (after p h))) × (replies w h ≡ replies p h)

-- from what a call leaves of each, the rest of a history
abbrev Rest : ℕ → List ℕ → List Call → Served → Served → Type 0
Rest t w h s r =
    t + tally_in (after r.accounts h) ≤ ceiling
    → (after s.accounts h ≡ with_tally w (t + tally_in (after r.accounts h))) × (s.reply ∷ replies s.accounts h ≡ r.reply ∷ replies r.accounts h)

module _ (t : ℕ) (w p : List ℕ) (c : Call) (h : List Call) (k : length w ≡ 128) (l : length p ≡ 128)
    (on : (v q : List ℕ) → length v ≡ 128 → length q ≡ 128 → Ahead t v q h) (a : tally_in w ≡ t + tally_in p) where
  both : (s r : Served) → serve w c ≡ s → serve p c ≡ r → Rest t w h s r → Rest t w h (serve w c) (serve p c)
  both s r e f x = subst (λ y. Rest t w h y (serve p c)) (sym e) (subst (Rest t w h s) (sym f) x)

  unchanged : (r : Reply) → Rest t w h (record { reply = r; accounts = w }) (record { reply = r; accounts = p })
  unchanged r m = let x = on w p k l a m in (x.0, ap (λ rs. r ∷ rs) x.1)

  one_charged : tally_in p + cost c.bytes ≤ ceiling → t + tally_in (after (charged p c).accounts h) ≤ ceiling →
      (tally_in w + cost c.bytes ≤ ceiling) × Rest t w h (charged w c) (charged p c)
  one_charged le m =
      let q = with_tally p (tally_in p + cost c.bytes) in
      let j : length q ≡ 128 = length-set p 0 (tally_in p + cost c.bytes) ∙ l in
      let v = with_tally w (tally_in w + cost c.bytes) in
      let i : length v ≡ 128 = length-set w 0 (tally_in w + cost c.bytes) ∙ k in
      let grown = (tallied_from q h j).0 in
      let part = with-tally p (tally_in p + cost c.bytes) l in
      let all = with-tally w (tally_in w + cost c.bytes) k in
      let x = t + tally_in (after q h) in (
        omega arith,
        λ n.
            let r = on v q i j (omega arith) n in (
              r.0 ∙ set-set w 0 (tally_in w + cost c.bytes) x,
              ap (λ rs. record { outcome = shorten c.bytes c.out; price = cost c.bytes } ∷ rs) r.1,
            ),
      )

  step : Coming p c → Rest t w h (serve w c) (serve p c)
  step (refuses number place ne few q e) m =
      let o = refusal number place c.out in
      both (unpriced w o) (unpriced p o) (refused_is w c number place ne q) e (unchanged (record { outcome = o; price = 0 })) m
  step (passes x e) m =
      let lt = x.1 in
      both (ten w c) (ten p c) ((ten_there w c).0 (x.0, omega arith)) e (unchanged (ten w c).reply) m
  step (charges z le e) m =
      let one = one_charged le (subst (λ r. t + tally_in (after r.accounts h) ≤ ceiling) e m) in
      both (charged w c) (charged p c) (charged_is w c z one.0) e one.1 m

together : (t : ℕ) (h : List Call) (w p : List ℕ) → length w ≡ 128 → length p ≡ 128 → Ahead t w p h
unfolding after replies
together t [] w p k l a m = (sym (set-get_or w 0 0) ∙ ap (with_tally w) a, refl)
together t (c ∷ h) w p k l a m = step t w p c h k l (λ v q i j. together t h v q i j) a (coming p c) m

pub join_later : Joined
join_later w h k j =
    let le = leb-true (tally_in w + tally_in (after made h)) ceiling j in
    let r = together (tally_in w) h w made k refl (omega arith) le in
    (r.0 ∙ sym (ap (λ t. joined_if t w (after made h)) j), r.1)

-- only the tally changes
pub left_by : (h : List Call) → after made h ≡ made_with (tally_in (after made h))
left_by h =
    let t = tallied h in
    let r = together 0 h made made refl refl (omega arith) (omega arith) in
    r.0 ∙ ap made_with (zero-add (tally_in (after made h)))

pub kept : Kept
kept h before loaded answer l =
    let t = tallied h in
    let r = load_of_save (tally_in (after made h)) before loaded answer t.1 l in
    (r.0, r.1 ∙ sym (left_by h))
