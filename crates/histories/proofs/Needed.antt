-- Each condition of the laws is needed: without it they are refuted.
use Rattle.std.proofs.Common.{◌≡◌, ◌≢◌, ℕ, zero, suc, ◌+◌, ◌*◌, ◌≤◌, List, [], ◌∷◌, true, false, cond, leb, length, get_or, map, replicate, refl, sym, ap, subst, ◌∙◌, arith}
use Rattle.std.proofs.lemmas.Bool.{eqb-true, eq-eqb, le-leb}
use Rattle.steps.specs.Shorten.{shorten}
use Rattle.billing.specs.Billing.{ceiling}
use Rattle.accounts.specs.Accounts.{tally_in, made, made_with, joins, joined, joined_if}
use Rattle.accounts.specs.History.{Call, Reply, serve, after, replies}
use Rattle.histories.specs.Tally.{cost, successful, earned}
use Rattle.histories.proofs.Served.{charged}
use Rattle.histories.proofs.Calls.{charged_is}
use Rattle.histories.proofs.Tallied.{tallied}
use Rattle.histories.proofs.Worked.{dear, free, call, three, one, told, computed}

-- the number of reply k
abbrev number_at : ℕ → List (List ℕ) → ℕ
number_at k rs = get_or (get_or rs k []) 0 0

-- TalliedFrom: accounts of no words keep no tally
pub needs_words : ((w : List ℕ) (h : List Call) → tally_in (after w h) ≡ tally_in w + earned w h) → ⊥
needs_words law =
    let sum = law [] one in
    let a = computed.summed_wordless in
    let b = computed.came_wordless in
    omega arith

-- TalliedFrom: a tally past the ceiling stays there
pub needs_within : ((w : List ℕ) (h : List Call) → length w ≡ 128 → tally_in (after w h) ≤ ceiling) → ⊥
unfolding after
needs_within law = let le = law (made_with 10000000) [] refl in omega arith

-- Passes: the second of two files may be too much
pub needs_room : ((w : List ℕ) (c : Call) → (shorten c.bytes c.out).answer.number ≡ 0 → successful (serve w c).reply ≡ true) → ⊥
unfolding replies
needs_room law =
    let w = (serve (made_with 9999995) (call dear 416)).accounts in
    let ten : (serve w (call dear 416)).reply.outcome.answer.number ≡ 10 = ap (number_at 1) computed.answered_there in
    let zero = eqb-true (serve w (call dear 416)).reply.outcome.answer.number 0 (law w (call dear 416) computed.number_dear) in
    omega arith

-- FreePasses: past the ceiling a file of 0 cents is refused too
pub needs_tally : ((w : List ℕ) (c : Call) → cost c.bytes ≡ 0 → (serve w c).reply.outcome.answer.number ≢ 10) → ⊥
unfolding replies
needs_tally law = law (made_with 10000000) (call free 96) computed.cost_free (ap (number_at 0) computed.answered_past)

-- Joined: a part whose tally doesn't go in
pub needs_join : ((w : List ℕ) (h : List Call) → length w ≡ 128 → after w h ≡ joined w (after made h)) → ⊥
needs_join law =
    let w = made_with 9999995 in
    let part = after made three in
    let refused : joins w part ≡ false = ap (λ n. leb (tally_in w + n) ceiling) computed.came_part in
    let stays : tally_in (joined w part) ≡ 9999995 = ap (λ t. tally_in (joined_if t w part)) refused in
    let e : tally_in (after w three) ≡ tally_in (joined w part) = ap tally_in (law w three refl) in
    let f = computed.came_there in
    omega arith

pub needs_join_for_replies : ((w : List ℕ) (h : List Call) → length w ≡ 128 → replies w h ≡ replies made h) → ⊥
needs_join_for_replies law =
    let e = ap (λ rs. number_at 1 (map told rs)) (law (made_with 9999995) three refl) in
    let a = ap (number_at 1) computed.answered_there in
    let b = ap (number_at 1) computed.answered_part in
    omega arith

-- Joined: accounts of no words never come to the ceiling, and a part does
abbrev Good : List Reply → Type 0
Good [] = Unit {0}
Good (r ∷ rs) = (successful r ≡ true) × Good rs

-- a number of the same calls
abbrev many : ℕ → List Call
many n = replicate n (call dear 416)

first : serve [] (call dear 416) ≡ charged [] (call dear 416)
first = let c = computed.cost_dear in charged_is [] (call dear 416) computed.number_dear (omega arith)

good_wordless : (n : ℕ) → Good (replies [] (many n))
unfolding replies
good_wordless zero = tt
good_wordless (suc n) =
    let a : (serve [] (call dear 416)).accounts ≡ [] = ap (λ s. s.accounts) first in (
      ap (λ s. successful s.reply) first ∙ eq-eqb _ 0 computed.number_dear,
      subst (λ w. Good (replies w (many n))) (sym a) (good_wordless n),
    )

earned_all : (w : List ℕ) (n : ℕ) → Good (replies w (many n)) → earned w (many n) ≡ 4 * n
unfolding replies earned
earned_all w zero g = refl
earned_all w (suc n) g =
    let s = serve w (call dear 416) in
    let one : cond (successful s.reply) (cost dear) 0 ≡ cost dear = ap (λ t. cond t (cost dear) 0) g.0 in
    let rest = earned_all s.accounts n g.1 in
    let c = computed.cost_dear in
    omega arith

pub needs_words_to_join : ((w : List ℕ) (h : List Call) → joins w (after made h) ≡ true → replies w h ≡ replies made h) → ⊥
needs_words_to_join law = let i = within 2500000 in omega arith
  where
    within : (n : ℕ) → 4 * n ≤ ceiling
    within n =
        let t = tallied (many n) in
        let is = t.0 in
        let le = t.1 in
        let same = law [] (many n) (le-leb (0 + tally_in (after made (many n))) ceiling (omega arith)) in
        let all = earned_all made n (subst Good same (good_wordless n)) in
        omega arith
