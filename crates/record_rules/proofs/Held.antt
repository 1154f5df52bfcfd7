-- Laws of what the places of an instruction may hold.
use Prim.Native.Nat.{ℕ, zero, suc, ◌+◌, ◌/◌, ◌%◌, ◌≤◌, ◌<◌, min}
use native.Mathlib.Omega.{arith}
use mathlib.Core.Path.{◌≡◌, refl, sym, ◌∙◌}
use mathlib.Core.Bool.{Bool, true, false, ◌&&◌, cond}
use mathlib.Core.List.{[]}
use lib.Dec.{leb, ltb, eqb, leb-suc-suc, leb-suc-zero, eqb-suc-zero}
use lib.ListN.{get_or}
use borrow.Author.Tests.{le-leb}
use Rattle.general.proofs.Numbers.{Below, below as each}
use Rattle.records.specs.declared.Record.{Record}
use Rattle.records.specs.Kinds.{fields, instruction_places, all_fit}
use Rattle.record_rules.specs.Work.{row_of, holds}
use Rattle.record_rules.specs.declared.fit.TheConstants.{ALL, MOST, FIRST, LAST}
use Rattle.record_rules.proofs.Laws.{agree, each_place, together}

abbrev pub most : ℕ → ℕ → ℕ
most row place = get_or (get_or MOST row []) place 0

pub row_within : (k op : ℕ) → k < 24 → row_of k op < 31
row_within k op h =
    let e : min (get_or FIRST k 0 + get_or LAST k 0) 30 ≡ get_or FIRST k 0 + get_or LAST k 0 =
    agree (λ (i : ℕ). min (get_or FIRST i 0 + get_or LAST i 0) 30) (λ (i : ℕ). get_or FIRST i 0 + get_or LAST i 0) 24 k h refl
    in
    omega (arith, e)

-- one of three numbers is the most that a place may hold
abbrev three : ℕ → ℕ
three m = cond (eqb m 0) 0 (cond (eqb m 255) 255 ALL)

one_of : (k i : ℕ) → k < 31 → i < 6 → three (most k i) ≡ most k i
one_of =
    each_place (λ k i. three (most k i) ≡ most k i) 31
    (λ j h. agree (λ (i : ℕ). three (most (i / 6) (i % 6))) (λ (i : ℕ). most (i / 6) (i % 6)) 186 j h refl)

at_most_zero : (p : ℕ) → leb p 0 ≡ eqb p 0
at_most_zero zero = refl
at_most_zero (suc p) = leb-suc-zero p ∙ sym (eqb-suc-zero p)

at_most : (m p : ℕ) → p ≤ ALL → three m ≡ m → leb p m ≡ holds m p
at_most m p h e = go (eqb m 0) (eqb m 255) e
  where
    go : (x y : Bool) → cond x 0 (cond y 255 ALL) ≡ m → leb p m ≡ cond x (eqb p 0) (cond y (ltb p 256) true)
    go true y f = rw (← f) (at_most_zero p)
    go false true f = rw (← f) (sym (leb-suc-suc p 255))
    go false false f = rw (← f) (le-leb p ALL h)

module _ (r : Record) where
  abbrev may : ℕ → ℕ → ℕ → ℕ → Bool
  may op k place p = holds (most (row_of k op) place) p

  abbrev Held : ℕ → ℕ → Type 0
  Held op k =
      (may op k 0 r.p1 && (may op k 1 r.p2 && (may op k 2 r.p3 && (may op k 3 r.p4 && (may op k 4 r.p5 && (may op k 5 r.p6 && true))))))
      ≡ all_fit (get_or (instruction_places op) k []) (fields r)

  address : (op : ℕ) → Held op 3
  address zero = refl
  address (suc zero) = refl
  address (suc (suc zero)) = refl
  address (suc (suc (suc zero))) = refl
  address (suc (suc (suc (suc zero)))) = refl
  address (suc (suc (suc (suc (suc op))))) =
      let e : min (suc (suc (suc (suc (suc op))))) 5 ≡ 5 = omega arith in
      rw e

  call : (op : ℕ) → Held op 17
  call zero = refl
  call (suc op) = let e : min (suc op) 1 ≡ 1 = omega arith in rw e

  ret : (op : ℕ) → Held op 21
  ret zero = refl
  ret (suc op) = let e : min (suc op) 1 ≡ 1 = omega arith in rw e

  held : (op k : ℕ) → k < 24 → Held op k
  held op = each (Held op) 24 held_24
    where
      e : min op 0 ≡ 0
      e = omega arith

      held_12 : Below (Held op) 12
      held_12 = ((((((((((((tt, rw e), rw e), rw e), address op), rw e), rw e), rw e), rw e), rw e), rw e), rw e), rw e)

      held_24 : Below (Held op) 24
      held_24 = ((((((((((((held_12, rw e), rw e), rw e), rw e), rw e), call op), rw e), rw e), rw e), ret op), rw e), rw e)

  abbrev within : ℕ → ℕ → ℕ → ℕ → Bool
  within op k place p = leb p (most (row_of k op) place)

  pub held_all :
      (op k : ℕ) → k < 24 → r.p1 ≤ ALL → r.p2 ≤ ALL → r.p3 ≤ ALL → r.p4 ≤ ALL → r.p5 ≤ ALL → r.p6 ≤ ALL →
      (((((within op k 0 r.p1 && within op k 1 r.p2) && within op k 2 r.p3) && within op k 3 r.p4) && within op k 4 r.p5) && within op k 5 r.p6)
      ≡ all_fit (get_or (instruction_places op) k []) (fields r)
  held_all op k h a b c d e f =
      let at : (i p : ℕ) → i < 6 → p ≤ ALL → within op k i p ≡ may op k i p =
      λ i p s l. at_most (most (row_of k op) i) p l (one_of (row_of k op) i (row_within k op h) s)
      in
      rw (
        at 0 r.p1 (omega arith) a,
        at 1 r.p2 (omega arith) b,
        at 2 r.p3 (omega arith) c,
        at 3 r.p4 (omega arith) d,
        at 4 r.p5 (omega arith) e,
        at 5 r.p6 (omega arith) f,
      )
      (together (may op k 0 r.p1) (may op k 1 r.p2) (may op k 2 r.p3) (may op k 3 r.p4) (may op k 4 r.p5) (may op k 5 r.p6) ∙ held op k h)
