-- Laws of the search: a block pushed, a block popped, and the end.
use Prim.Native.Nat.{ℕ, zero, suc, ◌+◌, ◌-◌, ◌*◌, ◌≤◌, ◌<◌, min}
use native.Mathlib.Omega.{arith}
use native.Mathlib.Numerals.{add-one}
use mathlib.Core.Path.{◌≡◌, refl, sym, ap, subst, ◌∙◌}
use mathlib.Core.Bool.{Bool, true, false}
use mathlib.Core.List.{List, [], ◌∷◌, ◌++◌}
use mathlib.Core.Logic.{◌⊎◌, inl, inr, ⊎_elim}
use borrow.Author.Tests.{lt-ltb, le-ltb}
use lib.ListN.{length, get_or, set, take, replicate, length-set, length-take, length-append, length-replicate, get_or-replicate, get_or-append}
use lib.Seq.{get_or-set_same, ext_get_or, take-suc-set}
use borrow.Author.Clash.{clash}
use Rattle.general.proofs.Booleans.{cases}
use Rattle.general.proofs.Numbers.{order}
use Rattle.paths.specs.Paths.{is_in, Leads, reached_from}
use Rattle.paths.proofs.Paths.{in-cons, in_here, in_left, in_right, in-append, marked_inside, set_keeps, set_marked}
use Rattle.paths.proofs.Paths.{leads_on, leads-inside, closed_leads, length-reached, reached-is}
use Rattle.search.specs.Search.{clear, unmarked, Found, search_of, pushed, pushed_all, State, started, with_block, with_blocks, on_top, Sized, Slotted}

clear-length : length clear ≡ 160
unfolding clear
clear-length = length-replicate 160 false

pub clear_none : {A : Type 0} (x : ℕ) → get_or clear x false ≡ true → A
unfolding clear
clear_none x e =
    let h = marked_inside (replicate 160 false) x e in
    let l = length-replicate {A = Bool} 160 false in
    clash _ e (get_or-replicate 160 x false false (omega arith))

unmarked-set : (m : List Bool) (a : ℕ) → a < length m → get_or m a false ≡ false → unmarked (set m a true) + 1 ≡ unmarked m
unfolding unmarked
unmarked-set [] a h e = absurd (omega arith)
unmarked-set (b ∷ m) zero h e = rw e (omega arith)
unmarked-set (b ∷ m) (suc a) h e = let i = unmarked-set m a (omega arith) e in omega arith

unmarked_le : (m : List Bool) → unmarked m ≤ length m
unfolding unmarked
unmarked_le [] = omega arith
unmarked_le (true ∷ m) = let i = unmarked_le m in omega arith
unmarked_le (false ∷ m) = let i = unmarked_le m in omega arith

-- the one block of a list
pub in_one : (s x : ℕ) → is_in s (x ∷ []) ≡ true → x ≡ s
in_one s x e = ⊎_elim (λ (i : x ≡ s). i) (λ (i : is_in s [] ≡ true). absurd (mathlib.Core.Bool.false≢true i)) (in-cons s x [] e)

-- one block, by the tests in their order
module _ (n : ℕ) (s : Found) (b : ℕ) where
  pub pushed-past : n ≤ b → s ≡ pushed n s b
  unfolding pushed
  pushed-past h = rw (le-ltb b n h)

  pub pushed-old : b < n → get_or s.seen b false ≡ true → s ≡ pushed n s b
  unfolding pushed
  pushed-old h e = rw (lt-ltb b n h, e)

  pub pushed-new : b < n → get_or s.seen b false ≡ false
      → record { seen = set s.seen b true; stack = s.stack ++ (b ∷ []) } ≡ pushed n s b
  unfolding pushed
  pushed-new h e = rw (lt-ltb b n h, e)

  -- what holds in all three cases
  pub by_cases : (P : Found → Type 0)
      → (n ≤ b → P s)
      → (b < n → get_or s.seen b false ≡ true → P s)
      → (b < n → get_or s.seen b false ≡ false → P (record { seen = set s.seen b true; stack = s.stack ++ (b ∷ []) }))
      → P (pushed n s b)
  by_cases P past old new = ⊎_elim (λ (h : b < n). within h (cases (get_or s.seen b false)))
      (λ (h : n ≤ b). subst P (pushed-past h) (past h)) (order b n)
    where
      within : b < n → (get_or s.seen b false ≡ true) ⊎ (get_or s.seen b false ≡ false) → P (pushed n s b)
      within h (inl e) = subst P (pushed-old h e) (old h e)
      within h (inr e) = subst P (pushed-new h e) (new h e)

-- the measure: a block is popped once
abbrev pub weight : Found → ℕ
weight s = length s.stack + 2 * unmarked s.seen

module _ (n : ℕ) (few : n ≤ 160) where
  record Less (s t : Found) : Type 0 where
    size : length t.seen ≡ 160
    less : weight t ≤ weight s

  less_pushed : (s : Found) (b : ℕ) → length s.seen ≡ 160 → Less s (pushed n s b)
  less_pushed s b z = by_cases n s b (Less s) (λ h. same) (λ h e. same) (λ h e. record {
    size = length-set s.seen b true ∙ z;
    less = let u = unmarked-set s.seen b (omega arith) e in let l = length-append s.stack (b ∷ []) in omega arith;
  })
    where
      same : Less s s
      same = record { size = z; less = omega arith }

  pub weight_all : (bs : List ℕ) (s : Found) → length s.seen ≡ 160 → weight (pushed_all n s bs) ≤ weight s
  unfolding pushed_all
  weight_all [] s z = omega arith
  weight_all (b ∷ bs) s z =
      let p = less_pushed s b z in
      let i = weight_all bs (pushed n s b) p.size in
      let j = p.less in
      omega arith

-- one place is enough where there are no more marks
module _ {n : ℕ} {m : List Bool} {l : List ℕ} (z : Sized n m l) {b : ℕ} (low : b < n) (new : get_or m b false ≡ false) where
  fewer : unmarked (set m b true) + 1 ≡ unmarked m
  fewer = let i = z.few in let j = z.marks in unmarked-set m b (omega arith) new

  pub has_room : length l < 160
  has_room = let i = fewer in let r = z.room in omega arith

  pub sized_new : Sized n (set m b true) (l ++ (b ∷ []))
  sized_new = record {
    few = z.few;
    marks = length-set m b true ∙ z.marks;
    room = let i = fewer in let r = z.room in let e = length-append l (b ∷ []) in omega arith;
  }

-- the same in an array
module _ {n : ℕ} {m : List Bool} {l : List ℕ} {top : ℕ} (z : Slotted n m l top) where
  stacked : Sized n m (take top l)
  stacked = let e = length-take top l in let r = z.room in record { few = z.few; marks = z.marks; room = omega arith }

  module _ {b : ℕ} (low : b < n) (new : get_or m b false ≡ false) where
    pub slot_free : top < 160
    slot_free = let i = fewer stacked low new in let r = z.room in omega arith

    pub slotted_new : Slotted n (set m b true) (set l top b) (top + 1)
    slotted_new = record {
      few = z.few;
      marks = length-set m b true ∙ z.marks;
      slots = length-set l top b ∙ z.slots;
      room = let i = fewer stacked low new in let r = z.room in omega arith;
    }

    pub pushed_slot : search_of (set m b true) (set l top b) (top + 1) ≡ pushed n (search_of m l top) b
    pushed_slot =
        let h = slot_free in
        let k = z.slots in
        ap (λ (s : List ℕ). record { seen = set m b true; stack = s }) (ap (λ (k : ℕ). take k (set l top b)) (add-one top) ∙ take-suc-set l top b (omega arith))
        ∙ pushed-new n (search_of m l top) b low new

pub sized_start : (n : ℕ) → Sized (min n 160) clear []
sized_start n = let e = clear-length in let u = unmarked_le clear in record { few = omega arith; marks = e; room = omega arith }

-- places past some marks that are clear
pub clear-past : (xs : List Bool) (k x : ℕ) → length xs ≤ x → get_or (xs ++ replicate k false) x false ≡ false
clear-past [] zero x h = refl
clear-past [] (suc k) zero h = refl
clear-past [] (suc k) (suc x) h = clear-past [] k x (omega arith)
clear-past (b ∷ xs) k zero h = absurd (omega arith)
clear-past (b ∷ xs) k (suc x) h = clear-past xs k x (omega arith)

-- on the way from block a, at block b: what is marked is led to, and each target of a marked block is marked, or that block
-- is on the stack, or it is b and its target is still to be pushed
module _ (es : List (List ℕ)) (a : ℕ) where
  abbrev Ready : ℕ → List ℕ → Found → ℕ → ℕ → Type 0
  Ready b pending s x t = (get_or s.seen t false ≡ true) ⊎ ((is_in x s.stack ≡ true) ⊎ ((x ≡ b) × (is_in t pending ≡ true)))

  pub record Walk (b : ℕ) (pending : List ℕ) (s : Found) : Type 0 where
    pub size : length s.seen ≡ 160
    pub start : a < length es → (get_or s.seen a false ≡ true) ⊎ (is_in a pending ≡ true)
    pub inside : (x : ℕ) → get_or s.seen x false ≡ true → x < length es
    pub sound : (x : ℕ) → get_or s.seen x false ≡ true → Leads es a x
    pub listed : (x : ℕ) → is_in x s.stack ≡ true → get_or s.seen x false ≡ true
    pub from : (t : ℕ) → is_in t pending ≡ true → Leads es a t
    pub ready : (x t : ℕ) → get_or s.seen x false ≡ true → is_in t (get_or es x []) ≡ true → t < length es → Ready b pending s x t

  module _ {b x : ℕ} {rest : List ℕ} {s : Found} (w : Walk b (x ∷ rest) s) where
    skip : (x < length es → get_or s.seen x false ≡ true) → Walk b rest s
    skip h = record {
      size = w.size;
      start = λ k. ⊎_elim (λ e. inl e) (left a k) (w.start k);
      inside = w.inside;
      sound = w.sound;
      listed = w.listed;
      from = λ t i. w.from t (in_right t (x ∷ []) rest i);
      ready = λ y t e i k. still y t k (w.ready y t e i k);
    }
      where
        left : (t : ℕ) → t < length es → is_in t (x ∷ rest) ≡ true → (get_or s.seen t false ≡ true) ⊎ (is_in t rest ≡ true)
        left t k e = ⊎_elim (λ (i : x ≡ t). inl (rw (← i) (h (rw i k)))) (λ (i : is_in t rest ≡ true). inr i) (in-cons t x rest e)

        still : (y t : ℕ) → t < length es → Ready b (x ∷ rest) s y t → Ready b rest s y t
        still y t k (inl e) = inl e
        still y t k (inr (inl e)) = inr (inl e)
        still y t k (inr (inr e)) = ⊎_elim (λ i. inl i) (λ i. inr (inr (e.0, i))) (left t k e.1)

    mark : x < length es → length es ≤ 160 → Walk b rest (record { seen = set s.seen x true; stack = s.stack ++ (x ∷ []) })
    mark low few = record {
      size = length-set s.seen x true ∙ w.size;
      start = λ k. ⊎_elim (λ e. inl (set_keeps s.seen x a e)) (left a) (w.start k);
      inside = λ y e. ⊎_elim (λ (i : y ≡ x). rw i low) (λ (i : get_or s.seen y false ≡ true). w.inside y i) (set_marked s.seen x y e);
      sound = λ y e. ⊎_elim (λ (i : y ≡ x). rw i (w.from x (in_here x rest))) (λ (i : get_or s.seen y false ≡ true). w.sound y i)
          (set_marked s.seen x y e);
      listed = λ t e. ⊎_elim (λ (i : is_in t s.stack ≡ true). set_keeps s.seen x t (w.listed t i))
          (λ (i : is_in t (x ∷ []) ≡ true). rw (← in_one t x i) here) (in-append t s.stack (x ∷ []) e);
      from = λ t i. w.from t (in_right t (x ∷ []) rest i);
      ready = λ y t e i k. ⊎_elim (λ (j : y ≡ x). inr (inl (rw j (in_right x s.stack (x ∷ []) (in_here x [])))))
          (λ (j : get_or s.seen y false ≡ true). still y t (w.ready y t j i k)) (set_marked s.seen x y e);
    }
      where
        here : get_or (set s.seen x true) x false ≡ true
        here = get_or-set_same s.seen x true false (let i = w.size in omega arith)

        left : (t : ℕ) → is_in t (x ∷ rest) ≡ true → (get_or (set s.seen x true) t false ≡ true) ⊎ (is_in t rest ≡ true)
        left t e = ⊎_elim (λ (i : x ≡ t). inl (rw (← i) here)) (λ (i : is_in t rest ≡ true). inr i) (in-cons t x rest e)

        still : (y t : ℕ) → Ready b (x ∷ rest) s y t → Ready b rest (record { seen = set s.seen x true; stack = s.stack ++ (x ∷ []) }) y t
        still y t (inl e) = inl (set_keeps s.seen x t e)
        still y t (inr (inl e)) = inr (inl (in_left y s.stack (x ∷ []) e))
        still y t (inr (inr e)) = ⊎_elim (λ i. inl i) (λ i. inr (inr (e.0, i))) (left t e.1)

  walk-all : length es ≤ 160 → {b : ℕ} (bs : List ℕ) {s : Found} → Walk b bs s → Walk b [] (pushed_all (length es) s bs)
  unfolding pushed_all
  walk-all few [] w = w
  walk-all few {b} (x ∷ bs) {s} w = walk-all few bs (by_cases (length es) s x (Walk b bs)
      (λ h. skip w (λ i. absurd (omega (arith, h, i)))) (λ h e. skip w (λ i. e)) (λ h e. mark w h few))

  -- the last block of the stack
  walk-pop : {c : ℕ} (b : ℕ) {m : List Bool} {todo : List ℕ} → Walk c [] (record { seen = m; stack = todo ++ (b ∷ []) })
      → Walk b (get_or es b []) (record { seen = m; stack = todo })
  walk-pop {c} b {m} {todo} w = record {
    size = w.size;
    start = λ k. ⊎_elim (λ e. inl e) (λ e. absurd (mathlib.Core.Bool.false≢true e)) (w.start k);
    inside = w.inside;
    sound = w.sound;
    listed = λ t i. w.listed t (in_left t todo (b ∷ []) i);
    from = λ t i. leads_on es a b t (w.sound b (w.listed b (in_right b todo (b ∷ []) (in_here b [])))) i;
    ready = λ x t e i k. next x t i (w.ready x t e i k);
  }
    where
      next : (x t : ℕ) → is_in t (get_or es x []) ≡ true → Ready c [] (record { seen = m; stack = todo ++ (b ∷ []) }) x t
          → Ready b (get_or es b []) (record { seen = m; stack = todo }) x t
      next x t i (inl e) = inl e
      next x t i (inr (inl e)) = ⊎_elim (λ (j : is_in x todo ≡ true). inr (inl j)) (λ (j : is_in x (b ∷ []) ≡ true). let q = in_one x b j in inr (inr (sym q, rw q i)))
          (in-append x todo (b ∷ []) e)
      next x t i (inr (inr e)) = absurd (mathlib.Core.Bool.false≢true e.1)

  abbrev past : List Bool
  past = replicate (160 - length es) false

  -- nothing is left on the stack
  walk_end : {b : ℕ} {m : List Bool} → length es ≤ 160 → Walk b [] (record { seen = m; stack = [] }) → m ≡ reached_from es a ++ past
  walk_end {b} {m} few w = ext_get_or false m (reached ++ past) (w.size ∙ sym sizes) (λ x h. by x (order x (length es)))
    where
      reached : List Bool
      reached = reached_from es a

      sizes : length (reached ++ past) ≡ 160
      sizes =
          let i = length-append reached past in
          let j = length-reached es a in
          let k = length-replicate {A = Bool} (160 - length es) false in
          omega arith

      started : (get_or m a false ≡ true) ⊎ (is_in a [] ≡ true) → get_or m a false ≡ true
      started (inl e) = e
      started (inr e) = absurd (mathlib.Core.Bool.false≢true e)

      closed : (x t : ℕ) → Ready b [] (record { seen = m; stack = [] }) x t → get_or m t false ≡ true
      closed x t (inl e) = e
      closed x t (inr (inl e)) = absurd (mathlib.Core.Bool.false≢true e)
      closed x t (inr (inr e)) = absurd (mathlib.Core.Bool.false≢true e.1)

      there : (x : ℕ) → x < length es → get_or reached x false ≡ true → get_or m x false ≡ true
      there x h i =
          let p = (reached-is es a x h).0 i in
          let first = started (w.start (leads-inside es x h p.0 a p.1)) in
          closed_leads es m (λ y t e j k. closed y t (w.ready y t e j k)) x h p.0 a first p.1

      same : (x : ℕ) → x < length es → (get_or m x false ≡ true) ⊎ (get_or m x false ≡ false) → get_or m x false ≡ get_or reached x false
      same x h (inl i) = i ∙ sym ((reached-is es a x h).1 (w.sound x i))
      same x h (inr i) = i ∙ sym
          (⊎_elim (λ (j : get_or reached x false ≡ true). clash _ (there x h j) i) (λ (j : get_or reached x false ≡ false). j)
          (cases (get_or reached x false)))

      unset : (x : ℕ) → length es ≤ x → (get_or m x false ≡ true) ⊎ (get_or m x false ≡ false) → get_or m x false ≡ false
      unset x h (inl i) = absurd (let j = w.inside x i in omega arith)
      unset x h (inr i) = i

      by : (x : ℕ) → (x < length es) ⊎ (length es ≤ x) → get_or m x false ≡ get_or (reached ++ past) x false
      by x (inl h) = same x h (cases (get_or m x false)) ∙ sym (get_or-append reached past false x (rw (length-reached es a) h))
      by x (inr h) = unset x h (cases (get_or m x false)) ∙ sym (clear-past reached (160 - length es) x (rw (length-reached es a) h))

  -- block a is still to be pushed
  walk_start : Walk a (a ∷ []) (record { seen = clear; stack = [] })
  walk_start = record {
    size = clear-length;
    start = λ k. inr (in_here a []);
    inside = λ x e. clear_none x e;
    sound = λ x e. clear_none x e;
    listed = λ x e. absurd (mathlib.Core.Bool.false≢true e);
    from = λ t e. ([], in_one t a e);
    ready = λ x t e. clear_none x e;
  }

-- between two blocks of the stack
pub record Held (es : List (List ℕ)) (a : ℕ) (s : State) : Type 0 where
  pub count : length es ≡ s.n
  pub few : s.n ≤ 160
  pub block : ℕ
  pub walk : Walk es a block [] s.found

-- block a alone was pushed
pub held_start : (es : List (List ℕ)) (a n : ℕ) → length es ≡ min n 160 → Held es a (with_block (started n) a)
unfolding pushed_all
held_start es a n count = record {
  count = count;
  few = omega arith;
  block = a;
  walk = rw (← count) (walk-all es a (omega arith) (a ∷ []) (walk_start es a));
}

-- block b was popped
module _ {es : List (List ℕ)} {a : ℕ} {s : State} (h : Held es a s) (t : State) (b : ℕ) (p : s ≡ on_top t b) where
  before : Held es a (on_top t b)
  before = subst (Held es a) p h

  pub held-block : b < length es
  held-block = before.walk.inside b (before.walk.listed b (in_right b t.found.stack (b ∷ []) (in_here b [])))

  module _ {ts : List ℕ} (e : get_or es b [] ≡ ts) where
    -- after its targets
    pub held_more : Held es a (with_blocks t ts)
    held_more =
        let w = walk-pop es a b before.walk in
        let v = walk-all es a (rw before.count before.few) ts (subst (λ (r : List ℕ). Walk es a b r t.found) e w) in
        record { count = before.count; few = before.few; block = b; walk = rw (← before.count) v }

    pub held_less : weight (with_blocks t ts).found < weight s.found
    held_less =
        let i = weight_all t.n before.few ts t.found before.walk.size in
        let j = ap (λ (x : State). weight x.found) p in
        let k = length-append t.found.stack (b ∷ []) in
        omega arith

module _ {es : List (List ℕ)} {a : ℕ} {s : State} (h : Held es a s) where
  -- nothing was popped
  pub held-end : s.found.stack ≡ [] → s.found.seen ≡ reached_from es a ++ replicate (160 - length es) false
  held-end i = walk_end es a (rw h.count h.few) (subst (λ (l : List ℕ). Walk es a h.block [] (record { seen = s.found.seen; stack = l })) i h.walk)
