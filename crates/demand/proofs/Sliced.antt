-- The sliced form runs as the threaded form does, where the lengths that its rewritten Cmps tested are exact: after each number of
-- instructions the two stand at the same place with the same registers and acts.
use Prim.Native.Nat.{ℕ, zero, suc, ◌<◌, ◌^◌}
use mathlib.Core.Path.{◌≡◌, refl, sym, ap, ◌∙◌}
use mathlib.Core.Logic.{inl}
use mathlib.Core.Bool.{Bool, true, false, ◌&&◌, cond}
use mathlib.Core.List.{List, [], ◌∷◌}
use native.Mathlib.Omega.{arith}
use native.Mathlib.Decide.{ℕ_discrete}
use borrow.Author.Clash.{clash}
use borrow.Author.Tests.{eqb-true}
use lib.ListN.{get_or, drop, get_or-map}
use Rattle.std.proofs.Common.{Option, None, Some}
use Rattle.std.proofs.lemmas.Bool.{and_parts}
use Rattle.inst.specs.declared.Reg.{Reg}
use Rattle.inst.specs.declared.CmpOp.{CmpOp}
use Rattle.inst.specs.declared.Code.{Code}
use Rattle.roles.specs.Roles.{defs_of}
use Rattle.procedure.specs.Procedure.{Procedure}
use Rattle.procedure.specs.Lists.{joined, holds}
use Rattle.procedure.specs.Counts.{singly}
use Rattle.word.specs.Word.{compares}
use Rattle.steps.specs.Facts.{const_in, const_of}
use Rattle.steps.specs.Slice.{measure_of, Bounds, Lengths, no_lengths, bounds_of, Test, is_turned, turned, test_if, first, second}
use Rattle.steps.specs.Slice.{rewritten_by, after, test_of, tests_from, sliced_from, tests_in, sliced_in, some_test}
use Rattle.steps.specs.Run.{Shortened, with_blocks, threaded_form, sliced_by, slice_if, slices, sliced_form}
use Rattle.steps.specs.Run.{run as run_of}
use Rattle.steps.proofs.Sliced.{Looked, cmp, plain, looked, untested_same}
use Rattle.machine.specs.Act.{Act}
use Rattle.machine.specs.Machine.{Regs, Address, Outside, End, ran_out, Effect, writes, goes, ends, asks, effect, upd, stores}
use Rattle.machine.specs.Machine.{State, at, done, effect_of, answered, step, run, shown}
use Rattle.machine.specs.Machine.{after as after_effect}
use Rattle.machine.specs.Single.{constant_of, constant_in, single_in}
use Rattle.machine.specs.Demand.{shows}
use Rattle.demand.specs.Setting.{In, Each, defs_at, Passes}
use Rattle.demand.specs.Place.{Place, onward, next_place, place_at}
use Rattle.demand.specs.Place.{after as after_place}
use Rattle.demand.specs.Lengths.{length_of, Exact, ExactAt, test_at, Measured, Demand3Where}
use Rattle.demand.specs.Claim.{Kept, Zeroed, KeptWhile}
use Rattle.demand.proofs.Basics.{clash_some, dec_in, upd_same, upd_other, stores-other}
use Rattle.demand.proofs.Effects.{Fixes, constant_fixes, passes_any}
use Rattle.demand.proofs.Codes.{each_map}
use Rattle.demand.proofs.Original.{singly-one, first_is, const-fine}
use Rattle.demand.proofs.Places.{rest}
use Rattle.demand.proofs.Spans.{length_is}
use Rattle.demand.proofs.Sums.{joined-each}

holds_is : (o : Option ℕ) (n : ℕ) → holds o n ≡ true → o ≡ Some n
holds_is None n q = clash _ q refl
holds_is (Some v) n q = ap Some (eqb-true v n q)

-- what a test says of its registers
record Tested (kc : ℕ → Option ℕ) (op : CmpOp) (a z : Reg) (t : Test) : Type 0 where
  tested : a.0 ≡ t.length
  zero_at : kc z.0 ≡ Some 0
  turns : is_turned op ≡ true

test_says : (kc : ℕ → Option ℕ) (op : CmpOp) (a z : Reg) (o : Option Bounds) (t : Test)
    → test_if (holds (kc z.0) 0 && is_turned op) a.0 o ≡ Some t → Tested kc op a z t
test_says kc op a z o t = by (holds (kc z.0) 0 && is_turned op) refl o
  where
    by : (b : Bool) → (holds (kc z.0) 0 && is_turned op) ≡ b → (o : Option Bounds) → test_if b a.0 o ≡ Some t → Tested kc op a z t
    by true e None q = let y : ◌≡◌ {A = ℕ} 0 1 = cc in absurd (omega arith)
    by true e (Some b) q =
        let s = and_parts (holds (kc z.0) 0) (is_turned op) e in
        let y : (record { length = a.0; bounds = b }) ≡ t = cc in
        record { tested = ap (λ (u : Test). u.length) y; zero_at = holds_is (kc z.0) 0 s.0; turns = s.1 }
    by false e o q = let y : ◌≡◌ {A = ℕ} 0 1 = cc in absurd (omega arith)

-- the new Cmp gives what the old one gave
value-is : (op : CmpOp) → is_turned op ≡ true → (k k' m m' : ℕ) (g : Regs) (a z : ℕ) (t : Test) → a ≡ t.length → Exact g t → g z ≡ 0
    → compares m m' (turned op) (g (first t.bounds)) (g (second t.bounds)) ≡ compares k k' op (g a) (g z)
value-is op turns k k' m m' g a z t e x q = rw (e, x.exact, q) (by t.bounds.down x.fits)
  where
    l : ℕ
    l = t.bounds.left

    r : ℕ
    r = t.bounds.right

    by : (d : Bool) → length_of d (g l) (g r) < 2 ^ 63
        → compares m m' (turned op) (g (cond d l r)) (g (cond d r l)) ≡ compares k k' op (length_of d (g l) (g r)) 0
    by true f = sym (length_is op turns k k' m m' true (g l) (g r) f)
    by false f = sym (length_is op turns k k' m m' false (g l) (g r) f)

module _ (kc : ℕ → Option ℕ) where
  -- the registers taken for 0 hold it
  abbrev Zero : Regs → Type 0
  Zero g = (r : ℕ) → kc r ≡ Some 0 → g r ≡ 0

  -- and nothing else is written there
  abbrev pub Writes : Address → Code → Type 0
  Writes address x = (r : ℕ) → kc r ≡ Some 0 → In r (defs_at x) → constant_of address x.inst ≡ Some 0

module _ (outside : Outside) (address : Address) (kc : ℕ → Option ℕ) (T : Procedure) (fine : Each (Writes kc address) (joined T.blocks)) where
  abbrev ops : List ℕ
  ops = T.operands

  abbrev tests : List (List (Option Test))
  tests = tests_in kc ops T.blocks

  abbrev S : Procedure
  S = with_blocks T (sliced_in kc ops T.blocks)

  -- an instruction and what stands for it
  abbrev Same : Code → Code → Regs → Type 0
  Same y x g = (effect_of outside address S y g ≡ effect_of outside address T x g) × (defs_of y.inst ≡ defs_of x.inst)

  same_effect : (k : Lengths) (x : Code) (c : List Code) (g : Regs) (h : List Act) → Zero kc g → ExactAt (test_of kc ops k x) (at c g h)
      → Same (rewritten_by (test_of kc ops k x) x) x g
  unfolding measure_of effect
  same_effect k x c g h z m = by (looked x.inst)
    where
      by : Looked x.inst → Same (rewritten_by (test_of kc ops k x) x) x g
      by (cmp op d a e f) = on (test_of kc ops k x) refl m
        where
          on : (o : Option Test) → test_of kc ops k x ≡ o → ExactAt o (at c g h) → Same (rewritten_by o x) x g
          on None q m = (refl, refl)
          on (Some t) q m =
              let s : Tested kc op a e t = test_says kc op a e (bounds_of a.0 k) t (rw f at q) in
              rw f (ap (λ v. writes (v ∷ [])) (value-is op s.turns _ _ _ _ g a.0 e.0 t s.tested m (z e.0 s.zero_at)), refl)
      by (plain f) = rw f (refl, refl)

  zero_stays : (x : Code) (g : Regs) → Writes kc address x → Zero kc g → Passes (effect_of outside address T x g) (defs_at x) (Zero kc) g
  zero_stays x g f z = by (constant_of address x.inst) refl
    where
      by : (o : Option ℕ) → constant_of address x.inst ≡ o → Passes (effect_of outside address T x g) (defs_at x) (Zero kc) g
      by None c = passes_any (Zero kc) (effect_of outside address T x g) (defs_at x) g (λ vs r q. other vs r q (dec_in r (defs_at x)))
        where
          other : (vs : List ℕ) (r : ℕ) → kc r ≡ Some 0 → Dec (In r (defs_at x)) → stores (defs_at x) vs g r ≡ 0
          other vs r q (yes m) = clash_some (f r q m) c
          other vs r q (no n) = stores-other (defs_at x) vs g r n ∙ z r q
      by (Some v) c = rw (w.always T.tables x.stmt.0 _ _, w.one) (λ r q. at_one r q (ℕ_discrete r w.d))
        where
          w : Fixes address x.inst v
          w = constant_fixes address x.inst v c

          at_one : (r : ℕ) → kc r ≡ Some 0 → Dec (r ≡ w.d) → upd w.d v g r ≡ 0
          at_one r q (yes e) =
              let m : In r (defs_at x) = rw w.one (inl e) in
              upd_same w.d v g r e ∙ cc (f r q m)
          at_one r q (no n) = upd_other w.d v g r n ∙ z r q

  -- two states at one place: what the sliced form has left of its block is what the step makes of the threaded form's
  data Twin : State → State → Place → Type 0 where
    on : (k : Lengths) (c : List Code) (g : Regs) (h : List Act) (w : Place) → tests_from kc ops k c ≡ drop w.place (get_or tests w.block [])
        → Zero kc g → Each (Writes kc address) c → Twin (at (sliced_from kc ops k c) g h) (at c g h) w
    over : (h : List Act) (e : End) (w : Place) → Twin (done h e) (done h e) w

  answer_twin : (o : Option (List ℕ)) (a : Act) (rs : List ℕ) (k : Lengths) (c : List Code) (g : Regs) (h : List Act) (w : Place)
      → tests_from kc ops k c ≡ drop w.place (get_or tests w.block []) → ((vs : List ℕ) → Zero kc (stores rs vs g)) → Each (Writes kc address) c
      → Twin (answered outside address S o a rs (sliced_from kc ops k c) g h) (answered outside address T o a rs c g h) w
  answer_twin None a rs k c g h w q z f = over _ _ w
  answer_twin (Some vs) a rs k c g h w q z f = on k c _ _ w q (z vs) f

  -- a run enters a block
  enter-twin : (b : ℕ) (g : Regs) (h : List Act) → Zero kc g
      → Twin (at (get_or S.blocks b []) g h) (at (get_or T.blocks b []) g h) (record { block = b; place = 0 })
  unfolding tests_from sliced_from
  enter-twin b g h z =
      rw (get_or-map (sliced_from kc ops no_lengths) T.blocks b [])
      (on no_lengths (get_or T.blocks b []) g h _ (sym (get_or-map (tests_from kc ops no_lengths) T.blocks b [])) z (joined-each _ T.blocks fine b))

  after_twin : (e : Effect) (rs : List ℕ) (k : Lengths) (c : List Code) (g : Regs) (h : List Act) (w : Place)
      → tests_from kc ops k c ≡ drop (suc w.place) (get_or tests w.block []) → Zero kc g → Passes e rs (Zero kc) g → Each (Writes kc address) c
      → Twin (after_effect outside address S e rs (sliced_from kc ops k c) g h) (after_effect outside address T e rs c g h) (after_place outside address S e w)
  after_twin (writes vs) rs k c g h w q z p f = on k c _ h (onward w) q p f
  after_twin (goes b) rs k c g h w q z p f = enter-twin b g h z
  after_twin (ends e) rs k c g h w q z p f = over h e w
  after_twin (asks a) rs k c g h w q z p f = answer_twin (outside h a) a rs k c g h (onward w) q p f

  first-at : {A : Type 0} (k : ℕ) (b : List A) (x d : A) (c : List A) → x ∷ c ≡ drop k b → get_or b k d ≡ x
  first-at zero [] x d c q = let y : ◌≡◌ {A = ℕ} 0 1 = cc in absurd (omega arith)
  first-at zero (y ∷ b) x d c q = cc
  first-at (suc k) [] x d c q = let y : ◌≡◌ {A = ℕ} 0 1 = cc in absurd (omega arith)
  first-at (suc k) (y ∷ b) x d c q = first-at k b x d c q

  step_twin : {s s' : State} {w : Place} → Twin s s' w → ExactAt (test_at tests w) s
      → Twin (step outside address S s) (step outside address T s') (next_place outside address S s w)
  unfolding tests_from sliced_from
  step_twin (on k [] g h w q z f) x = over h ran_out w
  step_twin (on k (y ∷ c) g h w q z f) x =
      let here : test_at tests w ≡ test_of kc ops k y = first-at w.place (get_or tests w.block []) _ None _ q in
      let t = same_effect k y (sliced_from kc ops k (y ∷ c)) g h z (rw here at x) in
      rw (t.0, t.1) (after_twin (effect_of outside address T y g) (defs_at y) (after kc ops k y.inst) c g h w
      (rest w.place (get_or tests w.block []) _ _ q) z (zero_stays y g f.0 z) f.1)
  step_twin (over h e w) x = over h e w

  run_twin : (n : ℕ) {s s' : State} {w : Place} → Twin s s' w
      → ((i : ℕ) → i < n → ExactAt (test_at tests (place_at outside address S i s w)) (run outside address S i s))
      → Twin (run outside address S n s) (run outside address T n s') (place_at outside address S n s w)
  run_twin zero t m = t
  run_twin (suc n) t m = run_twin n (step_twin t (m 0 (omega arith))) (λ i l. m (suc i) (omega arith))

  shown_twin : {s s' : State} {w : Place} → Twin s s' w → shown s ≡ shown s'
  shown_twin (on k c g h w q z f) = refl
  shown_twin (over h e w) = refl

-- a register taken for a constant is written once, by that constant
module _ (address : Address) (cs : List Code) (r v : ℕ) where
  taken_once : const_of cs r ≡ Some v → (singly cs r ≡ true) × (constant_in address cs r ≡ Some v)
  unfolding const_of
  taken_once = by (singly cs r) refl
    where
      by : (b : Bool) → singly cs r ≡ b → cond b (const_in cs r) None ≡ Some v → (b ≡ true) × (constant_in address cs r ≡ Some v)
      by true z q =
          let w = singly-one cs r z in
          let f = first_is address cs r (omega arith) in
          let u = const-fine address (λ x. In r (defs_at x) → constant_in address cs r ≡ constant_of address x.inst) cs r v f q in
          (refl, u.1 u.2 ∙ u.3)
      by false z q = clash_some q refl

  taken_writes : const_of cs r ≡ Some v → Each (λ x. In r (defs_at x) → constant_of address x.inst ≡ Some v) cs
  taken_writes q =
      let t = taken_once q in
      let w = singly-one cs r t.0 in
      each_map _ _ (λ x h m. sym (h m) ∙ t.1) cs (first_is address cs r (omega arith))

  -- so it is a single constant of that code
  pub taken-single : const_of cs r ≡ Some v → single_in address cs r ≡ Some v
  unfolding single_in
  taken-single q = let t = taken_once q in rw t.0 t.1

zero_writes : (address : Address) (cs : List Code) → Each (Writes (const_of cs) address) cs
zero_writes address cs = gather cs (λ r q. taken_writes address cs r 0 q)
  where
    gather : (c : List Code) → ((r : ℕ) → const_of cs r ≡ Some 0 → Each (λ x. In r (defs_at x) → constant_of address x.inst ≡ Some 0) c)
        → Each (Writes (const_of cs) address) c
    gather [] f = tt
    gather (x ∷ c) f = (λ r q. (f r q).0, gather c (λ r q. (f r q).1))

-- behind a form that runs as the original does
module _ (p : Procedure) (s : Shortened) (kept : Kept p s) where
  abbrev T : Procedure
  T = s.procedure

  abbrev kc : ℕ → Option ℕ
  kc = const_of (joined T.blocks)

  same-shown : (outside : Outside) (address : Address) (b : ℕ) (g : Regs) → Zeroed (sliced_by kc s) g
      → (n : ℕ) → ((i : ℕ) → i < n → Measured outside address (sliced_by kc s) b g i)
      → shows outside address (sliced_by kc s).form.procedure b g n ≡ shows outside address T b g n
  same-shown outside address b g z n m =
      let f = zero_writes address (joined T.blocks) in
      shown_twin outside address kc T f (run_twin outside address kc T f n (enter-twin outside address kc T f b g [] z) m)

  sliced-by : (t : Bool) → KeptWhile p s (slice_if t s)
  sliced-by true b r outside address g g' st z =
      let a = kept b r outside address g g' st in
      record {
        there = λ N m. let t = a.there N in (t.0, t.1, same-shown outside address b g' z t.0 (λ i l. m i (omega (arith, t.1))) ∙ t.2);
        back = λ M m. let t = a.back M in (t.0, same-shown outside address b g' z M m ∙ t.1);
      }
  sliced-by false b r outside address g g' st z =
      let a = kept b r outside address g g' st in
      record { there = λ N m. a.there N; back = λ M m. a.back M }

  unsliced-by : (t : Bool) → some_test (slice_if t s).tests ≡ false → Kept p (slice_if t s).form
  unsliced-by true q = rw (untested_same kc T.operands T.blocks q) kept
  unsliced-by false q = kept

module _ (p : Procedure) (kept : Kept p (threaded_form p)) where
  pub sliced-kept : KeptWhile p (threaded_form p) (sliced_form p)
  unfolding sliced_form
  sliced-kept = sliced-by p (threaded_form p) kept (slices p)

  -- "Demand 3 then speaks of this result"
  pub demand3-where : Demand3Where p (sliced_form p) (run_of p).procedure (run_of p).rescued
  demand3-where outside address g g' s t t' m =
      let a = sliced-kept 0 ([], refl) outside address g g' s (λ r q. t' r 0 q) in
      record { there = λ N. a.there N (λ i l. m i); back = λ M. a.back M (λ i l. m i) }

  -- where no Cmp is rewritten
  pub untested-kept : some_test (sliced_form p).tests ≡ false → Kept p (run_of p)
  unfolding sliced_form
  untested-kept = unsliced-by p (threaded_form p) kept (slices p)
