-- Laws of what an instruction asks of its places.
use Prim.Native.Nat.{ℕ, zero, suc, ◌+◌, ◌/◌, ◌%◌, ◌<◌, min}
use native.Mathlib.Omega.{arith}
use mathlib.Core.Path.{◌≡◌, refl, ap, ◌∙◌}
use mathlib.Core.Bool.{Bool, true, false, ◌&&◌, ◌||◌, and-true, and_comm}
use mathlib.Core.List.{[]}
use lib.Dec.{leb, ltb, eqb, leb-suc-suc, eqb-suc-zero}
use lib.ListN.{get_or}
use borrow.Author.Tests.{lt-ltb}
use Rattle.general.proofs.Numbers.{Below, below as each}
use Rattle.records.specs.declared.Record.{Record}
use Rattle.records.specs.Kinds.{fields, instruction_places, optional}
use Rattle.record_rules.specs.Work.{limits_at, limits_of, asked, asked_exists}
use Rattle.record_rules.specs.declared.exist.Counts.{Counts}
use Rattle.record_rules.specs.declared.exist.TheConstants.{ANY}
use Rattle.record_rules.specs.Exist.{exist, all_exist}
use Rattle.record_rules.proofs.Laws.{agree, each_place, together, space_exists}

-- each kind asks for one of the six limits
pub asked_in : (k i : ℕ) → k < 24 → i < 6 → asked k i < 6
asked_in = each_place (λ k i. asked k i < 6) 24 small
  where
    small : (j : ℕ) → j < 144 → asked (j / 6) (j % 6) < 6
    small j h =
        let e : min (asked (j / 6) (j % 6)) 5 ≡ asked (j / 6) (j % 6) =
        agree (λ (i : ℕ). min (asked (i / 6) (i % 6)) 5) (λ (i : ℕ). asked (i / 6) (i % 6)) 144 j h refl
        in
        omega (arith, e)

pub kept :
    (n : Counts) (unnamed : Bool) (s p : ℕ) → s < 6 → p < ANY →
    ltb p (get_or (get_or (limits_of n) (mir.Val.bool_byte unnamed) []) s 0) ≡ asked_exists n unnamed s p
kept n unnamed s p h l = go unnamed
  where
    go : (b : Bool) → ltb p (get_or (get_or (limits_of n) (mir.Val.bool_byte b) []) s 0) ≡ asked_exists n b s p
    go true = each (λ s. ltb p (get_or (limits_at n ANY) s 0) ≡ asked_exists n true s p) 6 ((((((tt, lt-ltb p ANY l), refl), refl), refl), lt-ltb p ANY l), leb-suc-suc p n.operands) s h
    go false = each (λ s. ltb p (get_or (limits_at n n.registers) s 0) ≡ asked_exists n false s p) 6 ((((((tt, lt-ltb p ANY l), refl), refl), refl), refl), leb-suc-suc p n.operands) s h

optional_exists : (n : Counts) (op p q : ℕ) → (eqb op 0 || ltb p n.registers) ≡ exist n (optional op) p q
optional_exists n zero p q = refl
optional_exists n (suc op) p q = rw (eqb-suc-zero op)

module _ (n : Counts) (r : Record) where
  abbrev asks : ℕ → ℕ → ℕ → Bool
  asks k place p = asked_exists n (eqb r.op 0) (asked k place) p

  abbrev Named : ℕ → Type 0
  Named k =
      (asks k 0 r.p1 && (asks k 1 r.p2 && (asks k 2 r.p3 && (asks k 3 r.p4 && (asks k 4 r.p5 && (asks k 5 (r.p2 + r.p3) && true))))))
      ≡ all_exist n (get_or (instruction_places r.op) k []) (fields r)

  address : Named 3
  address = rw (space_exists n r.op r.p2 r.p3)

  call : Named 17
  call = simp (optional_exists n r.op r.p4 r.p5, and-true) (and_comm (exist n (optional r.op) r.p4 r.p5) (leb (r.p2 + r.p3) n.operands))

  ret : Named 21
  ret = ap (λ (b : Bool). b && true) (optional_exists n r.op r.p1 r.p2)

  named_12 : Below Named 12
  named_12 = ((((((((((((tt, refl), refl), refl), address), refl), refl), refl), refl), refl), refl), refl), refl)

  named_24 : (k : ℕ) → k < 24 → Named k
  named_24 = each Named 24 ((((((((((((named_12, refl), refl), refl), refl), refl), call), refl), refl), refl), ret), refl), refl)

  pub named :
      (k : ℕ) → k < 24 →
      (((((asks k 0 r.p1 && asks k 1 r.p2) && asks k 2 r.p3) && asks k 3 r.p4) && asks k 4 r.p5) && asks k 5 (r.p2 + r.p3))
      ≡ all_exist n (get_or (instruction_places r.op) k []) (fields r)
  named k h = together (asks k 0 r.p1) (asks k 1 r.p2) (asks k 2 r.p3) (asks k 3 r.p4) (asks k 4 r.p5) (asks k 5 (r.p2 + r.p3)) ∙ named_24 k h
