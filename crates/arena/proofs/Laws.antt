-- Laws of the arena's tests.
use Prim.Native.Nat.{ℕ, ◌+◌, ◌-◌, ◌/◌, ◌≤◌, ◌<◌, min}
use native.Mathlib.Omega.{arith}
use native.Mathlib.Numerals.{add-one}
use mathlib.Core.Path.{◌≡◌, sym, ap, ◌∙◌}
use mathlib.Core.Bool.{Bool, true, ◌&&◌, not}
use mathlib.Core.List.{List}
use borrow.Author.Tests.{leb-true}
use lib.Dec.{leb}
use lib.ListN.{length, drop_of_length-le, get_or, drop}
use lib.Seq.{drop-cons}
use Rattle.general.proofs.Booleans.{and_first, and_second}
use Rattle.records.specs.declared.Record.{Record}
use Rattle.records.specs.Record.{record_at}
use Rattle.inst.specs.declared.Code.{Code}
use Rattle.arena.specs.Arena.{Arena, Topped, size_of, is_last, room, moves, move_if, to_end, popped, pop_if, pop, grows, push_if, push, push_all}

-- what the tests tell
pub record Moving (work : List ℕ) (r : Record) (top : ℕ) : Type 0 where
  pub below : r.p1 + (r.p2 - r.p1) ≤ top
  pub fits : top + (r.p2 - r.p1) ≤ length work / 32
  pub word : top + (r.p2 - r.p1) < 4294967296

pub moving : (work : List ℕ) (r : Record) (top : ℕ) → moves work r top ≡ true → Moving work r top
moving work r top e =
    let f = and_second (not (is_last r top)) _ e in
    let below = leb-true (r.p1 + (r.p2 - r.p1)) top (and_first (leb (r.p1 + (r.p2 - r.p1)) top) _ f) in
    let h = leb-true (top + (r.p2 - r.p1)) (min (length work / 32) 4294967295) (and_second (leb (r.p1 + (r.p2 - r.p1)) top) _ f) in
    record { below = below; fits = omega arith; word = omega arith }

-- the test, by its parts
pub moves_by : (work : List ℕ) (r : Record) (top : ℕ) {l : Bool} {n : ℕ} → l ≡ is_last r top → n ≡ size_of r
    → (not l && (leb (r.p1 + n) top && room work top n)) ≡ moves work r top
moves_by work r top {l} {n} e f =
    ap (λ (b : Bool). not b && (leb (r.p1 + n) top && room work top n)) e
    ∙ ap (λ (m : ℕ). not (is_last r top) && (leb (r.p1 + m) top && room work top m)) f

-- block k, by its record and its test
pub by_moves : (k : ℕ) (s : Arena) {r : Record} {b : Bool} → r ≡ record_at s.table k → b ≡ moves s.work r s.top → move_if b k r s ≡ to_end k s
unfolding to_end
by_moves k s {r} e f = ap (λ (b : Bool). move_if b k r s) f ∙ ap (λ (q : Record). move_if (moves s.work q s.top) k q s) e

pub by_popped : (k : ℕ) (s : Topped) {r : Record} {b : Bool} → r ≡ record_at s.table k → b ≡ popped r s.top → pop_if b k r s ≡ pop k s
unfolding pop
by_popped k s {r} e f = ap (λ (b : Bool). pop_if b k r s) f ∙ ap (λ (q : Record). pop_if (popped q s.top) k q s) e

pub by_grows : (k : ℕ) (c : Code) (s : Arena) {r : Record} {b : Bool} → r ≡ record_at s.table k → b ≡ grows s.work r s.top
    → push_if b k r c s ≡ push k c s
unfolding push
by_grows k c s {r} e f = ap (λ (b : Bool). push_if b k r c s) f ∙ ap (λ (q : Record). push_if (grows s.work q s.top) k q c s) e

-- one instruction more of some
pub push_step : (k : ℕ) (cs : List Code) (i : ℕ) (d : Code) (s : Arena) → i < length cs
    → push_all k (drop i cs) s ≡ push_all k (drop (i + 1) cs) (push k (get_or cs i d) s)
unfolding push_all
push_step k cs i d s l =
    ap (λ (c : List Code). push_all k c s) (drop-cons cs i d l)
    ∙ ap (λ (j : ℕ). push_all k (drop j cs) (push k (get_or cs i d) s)) (sym (add-one i))

pub push-end : (k : ℕ) (cs : List Code) (i : ℕ) (s : Arena) → length cs ≤ i → s ≡ push_all k (drop i cs) s
unfolding push_all
push-end k cs i s h = sym (ap (λ (c : List Code). push_all k c s) (drop_of_length-le cs {i = i} h))
