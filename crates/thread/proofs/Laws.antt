-- What the code of the hops is told, in the words of the definition over the storage.
use Prim.Native.Nat.{ℕ, suc, ◌+◌, ◌-◌, ◌/◌, ◌≤◌, ◌<◌}
use native.Mathlib.Numerals.{add-one}
use native.Mathlib.Omega.{arith}
use mathlib.Core.Path.{◌≡◌, refl, sym, ap, ◌∙◌}
use mathlib.Core.Bool.{Bool, true, false, ◌&&◌, ◌||◌, not, false≢true, true≢false}
use mathlib.Core.List.{List, [], ◌∷◌, ◌++◌}
use mathlib.Core.Logic.{◌⊎◌, inl, inr}
use Rattle.std.proofs.Common.{Option}
use borrow.Author.Tests.{ltb-false}
use lib.Dec.{eqb, ltb, leb}
use lib.ListN.{length, get_or, length-take}
use Rattle.general.proofs.Booleans.{or_first, or_second}
use Rattle.inst.specs.declared.Code.{Code}
use Rattle.inst.specs.declared.Reg.{Reg}
use Rattle.inst.specs.declared.BlockId.{BlockId}
use Rattle.procedure.specs.Lists.{present, holds}
use Rattle.procedure.specs.Procedure.{codes_of}
use Rattle.ends.specs.declared.End.{End}
use Rattle.ends.specs.declared.End.TheVariants as e
use Rattle.ends.specs.Ends.{end_of}
use Rattle.blocks.specs.Blocks.{blocks_of, block_bytes}
use Rattle.steps.specs.Small.{reads_konst}
use Rattle.steps.specs.Gate.{copied}
use Rattle.steps.specs.Facts.{Facts}
use Rattle.steps.specs.Copy.{How, left_out, renumbered, kept, how_of, own_uses, place, copy_from}
use Rattle.steps.specs.Thread.{Work, block_at, stops}
use Rattle.facts.specs.Storage.{facts_in}
use Rattle.hop_cond_br.specs.declared.Turn.{Turn}
use Rattle.hop_cond_br.specs.Storage.{turned, before, turned_in}
use Rattle.arena.specs.Arena.{Arena, arena}
use Rattle.hop_br.specs.Storage.{left, grown_to, next_in, target_in, join_of}
use Rattle.thread.specs.declared.Threaded.{Threaded}
use Rattle.arena.specs.declared.Space.{Space}
use Rattle.hop_br.specs.declared.Added.{Added}
use Rattle.hop_cond_br.specs.declared.Room.{Room}
use Rattle.hop_cond_br.specs.Kept.{SameRoom}
use Rattle.thread.specs.Threading.{goes_on, at_in, store_in, hopping_to, Edited}
use Rattle.std.specs.declared.ops.ControlFlow.{ControlFlow}
use Rattle.std.specs.declared.ops.ControlFlow.TheVariants.{Continue, Break}
use Rattle.std.specs.ControlFlow.{break_value}
use Rattle.std.specs.Prelude.{is_some}
use Rattle.thread.specs.Storage.{Store, store, Hopped, Hopping, hopped, hopping, stay_in, turn_at, turned_at, joined_at, append_in}
use Rattle.thread.specs.Storage.{hop_br_in, hop_cond_br_in, hop_at_in, hop_in, onward_in, hops_in, thread_from_in}

place_short : (w : How) (x : Code) (local : List (ℕ × ℕ)) (m n : ℕ) (rest : List (ℕ × ℕ) → ℕ → List Code)
    → ((l : List (ℕ × ℕ)) (k : ℕ) → length (rest l k) ≤ n) → length (place w x local m rest) ≤ suc n
place_short left_out x local m n rest h = let g = h local m in omega arith
place_short (renumbered d) x local m n rest h = let g = h (local ++ ((d, m) ∷ [])) (suc m) in omega arith
place_short kept x local m n rest h = let g = h local m in omega arith

-- a copy has no more instructions than its target
pub copy-short : (f : Facts) (own : ℕ → ℕ) (c : List Code) (local : List (ℕ × ℕ)) (m : ℕ) → length (copy_from f own c local m) ≤ length c
unfolding copy_from
copy-short f own [] local m = omega arith
copy-short f own (x ∷ c) local m = place_short (how_of f own x.inst) x local m (length c) (copy_from f own c) (copy-short f own c)

-- a join appends four instructions at most
pub join_few : (facts : List ℕ) (body : Option ℕ) (budget a l fresh : ℕ) (s : Arena) (kinds : List ℕ) {n : ℕ}
    → n ≡ (join_of facts body budget a l fresh s kinds).n → n ≤ 4
join_few facts body budget a l fresh s kinds e =
    let c = target_in s l in
    let g = copy-short (facts_in facts body budget) (own_uses c) c [] (next_in facts fresh) in
    let k = length-take 4 (codes_of (block_bytes s.work s.table l)) in
    omega (arith, e, g, k)

-- where a Br is replaced, no more than the budget was copied before
pub grown_le : (f : Facts) (w : Work) (a l : ℕ) → stops f w a l ≡ false → w.grown ≤ f.budget
unfolding stops
grown_le f w a l e =
    let wide = present f.body in
    let first = eqb l a || holds f.body l || wide && reads_konst f.konst (block_at w l) in
    let over = ltb f.budget w.grown in
    ltb-false f.budget w.grown (or_second first over (or_first (first || over) (not (copied wide w.blocks l)) e))

module _ (facts : List ℕ) (body : Option ℕ) (budget known copy : ℕ) (work table kinds : List ℕ) (at : Threaded) (a : ℕ) where
  abbrev s : Store
  s = store work table kinds at

  pub br_stays : (l : ℕ) → stops (facts_in facts body budget) (grown_to (blocks_of work table) at.grown) a l ≡ true
      → hopping work table kinds (hopped at false) ≡ hop_br_in facts body budget known copy s a l
  unfolding hop_br_in
  br_stays l e = ap (λ (b : Bool). append_in facts body budget known copy b s a l) (sym e)

  pub br_joins : (l : ℕ) {work' table' kinds' : List ℕ} {top n fresh : ℕ}
      → stops (facts_in facts body budget) (grown_to (blocks_of work table) at.grown) a l ≡ false
      → left (arena work' table' top) kinds' n fresh ≡ join_of facts body budget a l at.fresh (arena work table at.top) kinds
      → hopping work' table' kinds' (hopped (record { top = top; grown = at.grown + n; fresh = fresh; edited = true }) true)
      ≡ hop_br_in facts body budget known copy s a l
  unfolding hop_br_in
  br_joins l e g =
      ap (joined_at at) g
      ∙ ap (λ (b : Bool). append_in facts body budget known copy b s a l) (sym e)

  pub cond_br_turns : (c t f : ℕ) {table' code : List ℕ} {top : ℕ} {n : Turn} → table' ≡ table → top ≡ at.top
      → turned code n
      ≡ turned_in table a facts body work c t f
      (leb (length (before table a work)) (known / 2) && leb (length (before table a work)) (copy / 2))
      → hopping code table' kinds (turn_at n (record at { top = top })) ≡ hop_cond_br_in facts body budget known copy s a c t f
  unfolding hop_cond_br_in
  cond_br_turns c t f e i g = rw (e, i) (ap (turned_at s) g)

  -- the hop, by how the block ends
  module _ (x : End) (ends : x ≡ end_of (get_or (blocks_of work table) a [])) where
    hop_by : {y : End} → x ≡ y → hop_at_in facts body budget known copy s a y ≡ hop_in facts body budget known copy s a
    unfolding hop_in
    hop_by e = ap (hop_at_in facts body budget known copy s a) (sym e ∙ ends)

    pub hop_br_lem : {l : BlockId} {z : Hopping} → x ≡ e.Br l → z ≡ hop_br_in facts body budget known copy s a l.0
        → z ≡ hop_in facts body budget known copy s a
    hop_br_lem e h = h ∙ hop_by e

    pub hop_cond_br_lem : {c : Reg} {t f : BlockId} {z : Hopping}
        → x ≡ e.CondBr c t f → z ≡ hop_cond_br_in facts body budget known copy s a c.0 t.0 f.0
        → z ≡ hop_in facts body budget known copy s a
    hop_cond_br_lem e h = h ∙ hop_by e

    pub hop_stay : ((n : ℕ) × x ≡ e.Case n) ⊎ (x ≡ e.Other) → stay_in s ≡ hop_in facts body budget known copy s a
    hop_stay (inl h) = hop_by h.1
    hop_stay (inr e) = hop_by e

six : (h : ℕ) → h < 6 → 6 - h ≡ suc (6 - (h + 1))
six h l = omega arith

module _ (facts : List ℕ) (body : Option ℕ) (budget known copy : ℕ) (a : ℕ) where
  pub hops-end : (n : ℕ) (s : Store) → n ≡ 0 → s ≡ hops_in facts body budget known copy n a s
  unfolding hops_in
  hops-end n s e = rw e refl

  module _ (h : ℕ) (l : h < 6) (s : Store) where
    hops-step : (z : Hopping) → z ≡ hop_in facts body budget known copy s a
        → onward_in facts body budget known copy z.more z.to (hops_in facts body budget known copy (6 - (h + 1)) a)
        ≡ hops_in facts body budget known copy (6 - h) a s
    unfolding hops_in
    hops-step z e = rw (six h l, e) refl

    pub hops_stop : {z : Hopping} → z ≡ hop_in facts body budget known copy s a → z.more ≡ false → z.to ≡ hops_in facts body budget known copy (6 - h) a s
    hops_stop {z = z} e m =
        ap (λ (b : Bool). onward_in facts body budget known copy b z.to (hops_in facts body budget known copy (6 - (h + 1)) a)) (sym m) ∙ hops-step z e

    pub hops_go : {z : Hopping} → z ≡ hop_in facts body budget known copy s a → z.more ≡ true
        → hops_in facts body budget known copy (6 - (h + 1)) a z.to ≡ hops_in facts body budget known copy (6 - h) a s
    hops_go {z = z} e m =
        ap (λ (b : Bool). onward_in facts body budget known copy b z.to (hops_in facts body budget known copy (6 - (h + 1)) a)) (sym m) ∙ hops-step z e

module _ (facts : List ℕ) (body : Option ℕ) (budget known copy : ℕ) where
  pub thread-end : (n a : ℕ) (s : Store) → n ≡ 0 → s ≡ thread_from_in facts body budget known copy n a s
  unfolding thread_from_in
  thread-end n a s e = rw e refl

  pub thread_go : (n a : ℕ) (s : Store) {s' : Store} {known' copy' : ℕ} → a < n → known' ≡ known → copy' ≡ copy
      → s' ≡ hops_in facts body budget known' copy' 6 a s
      → thread_from_in facts body budget known copy (n - (a + 1)) (a + 1) s' ≡ thread_from_in facts body budget known copy (n - a) a s
  unfolding thread_from_in
  thread_go n a s l i j h =
      let e : n - a ≡ suc (n - (a + 1)) = omega arith in
      let g = rw (i, j) at h in
      rw (e, g, add-one a) refl

-- whether the next hop follows
pub over : {B T : Type 0} (z : ControlFlow B T) → is_some (break_value z) ≡ true → goes_on z ≡ false
over (Continue x) e = absurd (false≢true e)
over (Break b) e = refl

pub onward : {B T : Type 0} (z : ControlFlow B T) → is_some (break_value z) ≡ false → goes_on z ≡ true
onward (Continue x) e = refl
onward (Break b) e = absurd (true≢false e)

-- it is still the same room after one step more
pub same_then : {s t u : Room} → SameRoom s t → SameRoom t u → SameRoom s u
same_then p q = record {
  known = q.known ∙ p.known;
  copy = q.copy ∙ p.copy;
  known-length = q.known-length ∙ p.known-length;
  copy-length = q.copy-length ∙ p.copy-length;
}

-- what a turn leaves
pub edited : {x y : Added} {n : Turn} {B T : Type 0} {z : ControlFlow B T} → Edited x n y z → (s : Space)
    → hopping_to (store_in s y) z ≡ hopping s.work.now s.table.now x.kinds.now (turn_at n (at_in s x))
edited {x = x} {y = y} {n = n} e s =
    ap (λ (h : Hopped). hopping s.work.now s.table.now y.kinds.now h) (e.at s)
    ∙ ap (λ k. hopping s.work.now s.table.now k.now (turn_at n (at_in s x))) e.kinds
