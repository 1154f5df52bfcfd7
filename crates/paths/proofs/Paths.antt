-- The marks of a walk are exactly the blocks that a path reaches.
use Prim.Native.Nat.{ℕ, zero, suc, ◌+◌, ◌≤◌, ◌<◌}
use native.Mathlib.Omega.{arith}
use mathlib.Core.Path.{◌≡◌, refl, sym, ap, ◌∙◌}
use mathlib.Core.Bool.{Bool, true, false, ◌||◌, cond, or-true}
use mathlib.Core.List.{List, [], ◌∷◌, ◌++◌}
use mathlib.Core.Logic.{◌⊎◌, inl, inr, ⊎_elim, ◌↔◌}
use borrow.Author.Tests.{eqb-true, eqb-false, eq-eqb, ltb-true, ltb-false}
use lib.Dec.{eqb, ltb}
use lib.ListN.{length, get_or, set, replicate, length-set, length-append, length-replicate, get_or-replicate, get_or-eq_default}
use lib.Seq.{get_or-set_same, get_or-set_other, ext_get_or}
use borrow.Author.Clash.{clash}
use Rattle.general.proofs.Booleans.{cases}
use Rattle.general.proofs.Lists.{get_d_any}
use Rattle.paths.specs.Paths.{is_in, Path, Leads, total, pushed, walk, reached_from}

-- membership
pub in-cons : (s x : ℕ) (xs : List ℕ) → is_in s (x ∷ xs) ≡ true → (x ≡ s) ⊎ (is_in s xs ≡ true)
in-cons s x xs e = by (cases (eqb x s))
  where
    by : (eqb x s ≡ true) ⊎ (eqb x s ≡ false) → (x ≡ s) ⊎ (is_in s xs ≡ true)
    by (inl i) = inl (eqb-true x s i)
    by (inr i) = inr (sym (ap (λ (b : Bool). b || is_in s xs) i) ∙ e)

pub in_here : (s : ℕ) (xs : List ℕ) → is_in s (s ∷ xs) ≡ true
in_here s xs = rw (eq-eqb s s refl)

pub in-more : (s x : ℕ) (xs : List ℕ) → is_in s xs ≡ true → is_in s (x ∷ xs) ≡ true
in-more s x xs e = rw e (or-true (eqb x s))

pub in_left : (s : ℕ) (xs ys : List ℕ) → is_in s xs ≡ true → is_in s (xs ++ ys) ≡ true
in_left s [] ys e = absurd (mathlib.Core.Bool.false≢true e)
in_left s (x ∷ xs) ys e = by (in_left s xs ys) (in-cons s x xs e)
  where
    by : (is_in s xs ≡ true → is_in s (xs ++ ys) ≡ true) → (x ≡ s) ⊎ (is_in s xs ≡ true) → is_in s (x ∷ (xs ++ ys)) ≡ true
    by more (inl i) = rw i (in_here s (xs ++ ys))
    by more (inr i) = in-more s x (xs ++ ys) (more i)

pub in_right : (s : ℕ) (xs ys : List ℕ) → is_in s ys ≡ true → is_in s (xs ++ ys) ≡ true
in_right s [] ys e = e
in_right s (x ∷ xs) ys e = in-more s x (xs ++ ys) (in_right s xs ys e)

pub in-append : (s : ℕ) (xs ys : List ℕ) → is_in s (xs ++ ys) ≡ true → (is_in s xs ≡ true) ⊎ (is_in s ys ≡ true)
in-append s [] ys e = inr e
in-append s (x ∷ xs) ys e = by (in-append s xs ys) (in-cons s x (xs ++ ys) e)
  where
    by :
        (is_in s (xs ++ ys) ≡ true → (is_in s xs ≡ true) ⊎ (is_in s ys ≡ true))
        → (x ≡ s) ⊎ (is_in s (xs ++ ys) ≡ true)
        → (is_in s (x ∷ xs) ≡ true) ⊎ (is_in s ys ≡ true)
    by more (inl i) = inl (rw i (in_here s xs))
    by more (inr i) = ⊎_elim (λ (j : is_in s xs ≡ true). inl (in-more s x xs j)) (λ (j : is_in s ys ≡ true). inr j) (more i)

-- a mark that is set is one of the marks
pub marked_inside : (m : List Bool) (x : ℕ) → get_or m x false ≡ true → x < length m
marked_inside m x e = by (cases (ltb x (length m)))
  where
    by : (ltb x (length m) ≡ true) ⊎ (ltb x (length m) ≡ false) → x < length m
    by (inl i) = ltb-true x (length m) i
    by (inr i) = clash _ e (get_or-eq_default m false {n = x} (ltb-false x (length m) i))

-- which marks are set after one more
pub set_keeps : (m : List Bool) (b x : ℕ) → get_or m x false ≡ true → get_or (set m b true) x false ≡ true
set_keeps m b x e = by (cases (eqb x b))
  where
    by : (eqb x b ≡ true) ⊎ (eqb x b ≡ false) → get_or (set m b true) x false ≡ true
    by (inl i) =
        let j = eqb-true x b i in
        rw j (get_or-set_same m b true false (rw (← j) (marked_inside m x e)))
    by (inr i) = get_or-set_other m b x true false (eqb-false x b i) ∙ e

pub set_marked : (m : List Bool) (b x : ℕ) → get_or (set m b true) x false ≡ true → (x ≡ b) ⊎ (get_or m x false ≡ true)
set_marked m b x e = by (cases (eqb x b))
  where
    by : (eqb x b ≡ true) ⊎ (eqb x b ≡ false) → (x ≡ b) ⊎ (get_or m x false ≡ true)
    by (inl i) = inl (eqb-true x b i)
    by (inr i) = inr (sym (get_or-set_other m b x true false (eqb-false x b i)) ∙ e)

-- edges of the blocks that are not marked
due : List Bool → List (List ℕ) → ℕ
due [] xs = 0
due (m ∷ ms) [] = 0
due (m ∷ ms) (x ∷ xs) = cond m 0 (length x) + due ms xs

due_none : (xs : List (List ℕ)) → due (replicate (length xs) false) xs ≡ total xs
unfolding due total
due_none [] = refl
due_none (x ∷ xs) = ap (λ (n : ℕ). length x + n) (due_none xs)

due_new : (m : List Bool) (xs : List (List ℕ)) (b : ℕ) → get_or m b true ≡ false → due (set m b true) xs + length (get_or xs b []) ≡ due m xs
unfolding due
due_new [] xs b e = absurd (mathlib.Core.Bool.true≢false e)
due_new (m ∷ ms) [] zero e = refl
due_new (m ∷ ms) [] (suc b) e = refl
due_new (m ∷ ms) (x ∷ xs) zero e = rw e (omega arith)
due_new (m ∷ ms) (x ∷ xs) (suc b) e = let i = due_new ms xs b e in omega arith

due_old : (m : List Bool) (xs : List (List ℕ)) (b : ℕ) → due (set m b true) xs ≤ due m xs
unfolding due
due_old [] xs b = omega arith
due_old (m ∷ ms) [] zero = omega arith
due_old (m ∷ ms) [] (suc b) = omega arith
due_old (m ∷ ms) (x ∷ xs) zero = omega arith
due_old (m ∷ ms) (x ∷ xs) (suc b) = let i = due_old ms xs b in omega arith

module _ (edges : List (List ℕ)) where
  -- one edge more
  pub leads_on : (a b s : ℕ) → Leads edges a b → is_in s (get_or edges b []) ≡ true → Leads edges a s
  leads_on a b s p e = by a p.0 p.1
    where
      by : (x : ℕ) (ss : List ℕ) → Path edges b x ss → Leads edges x s
      by x [] i = (s ∷ [], (rw i e, refl))
      by x (u ∷ us) i = let r = by u us i.1 in (u ∷ r.0, (i.0, r.1))

  -- a block that leads to one of the blocks is one of them
  pub leads-inside : (b : ℕ) → b < length edges → (ss : List ℕ) (a : ℕ) → Path edges b a ss → a < length edges
  leads-inside b h [] a p = rw p h
  leads-inside b h (s ∷ ss) a p = by (cases (ltb a (length edges)))
    where
      by : (ltb a (length edges) ≡ true) ⊎ (ltb a (length edges) ≡ false) → a < length edges
      by (inl i) = ltb-true a (length edges) i
      by (inr i) = clash _ p.0 (ap (is_in s) (get_or-eq_default edges [] {n = a} (ltb-false a (length edges) i)))

  -- marks that hold the targets of every marked block
  abbrev pub Closed : List Bool → Type 0
  Closed m = (x s : ℕ) → get_or m x false ≡ true → is_in s (get_or edges x []) ≡ true → s < length edges → get_or m s false ≡ true

  -- hold every block that a marked one leads to
  pub closed_leads :
      (m : List Bool) → Closed m → (b : ℕ) → b < length edges → (ss : List ℕ) (a : ℕ) → get_or m a false ≡ true → Path edges b a ss
      → get_or m b false ≡ true
  closed_leads m c b h [] a e p = rw (← p) e
  closed_leads m c b h (s ∷ ss) a e p = closed_leads m c b h ss s (c a s e p.0 (leads-inside b h ss s p.1)) p.1

  module _ (a : ℕ) where
    -- on the way: what is marked, or on the list, is led to, and the targets of marked blocks are marked or on the list
    record Going (stack : List ℕ) (m : List Bool) : Type 0 where
      size : length m ≡ length edges
      start : a < length edges → (get_or m a false ≡ true) ⊎ (is_in a stack ≡ true)
      sound : (x : ℕ) → get_or m x false ≡ true → Leads edges a x
      listed : (s : ℕ) → is_in s stack ≡ true → Leads edges a s
      ready : (x s : ℕ) → get_or m x false ≡ true → is_in s (get_or edges x []) ≡ true → s < length edges → (get_or m s false ≡ true) ⊎ (is_in s stack ≡ true)

    module _ (b : ℕ) (stack : List ℕ) (m : List Bool) (g : Going (b ∷ stack) m) where
      -- a block of the list that is marked now, or stays on the list
      moved :
          (more : List ℕ) (s : ℕ) → s < length edges → (get_or m s false ≡ true) ⊎ (is_in s (b ∷ stack) ≡ true)
          → (get_or (set m b true) s false ≡ true) ⊎ (is_in s (more ++ stack) ≡ true)
      moved more s h (inl e) = inl (set_keeps m b s e)
      moved more s h (inr e) = ⊎_elim (λ (i : b ≡ s). inl (rw i (get_or-set_same m s true false (let z = g.size in omega arith))))
          (λ (i : is_in s stack ≡ true). inr (in_right s more stack i)) (in-cons s b stack e)

      now_sound : (x : ℕ) → get_or (set m b true) x false ≡ true → Leads edges a x
      now_sound x e = ⊎_elim (λ (i : x ≡ b). rw i (g.listed b (in_here b stack))) (λ (i : get_or m x false ≡ true). g.sound x i) (set_marked m b x e)

      old : get_or m b true ≡ true → Going stack (set m b true)
      old e = record {
        size = length-set m b true ∙ g.size;
        start = λ h. moved [] a h (g.start h);
        sound = now_sound;
        listed = λ s i. g.listed s (in-more s b stack i);
        ready = λ x s i j h. moved [] s h (g.ready x s (was x i (set_marked m b x i)) j h);
      }
        where
          was : (x : ℕ) → get_or (set m b true) x false ≡ true → (x ≡ b) ⊎ (get_or m x false ≡ true) → get_or m x false ≡ true
          was x i (inl j) =
              let l : b < length m = rw (← j, ← length-set m b true) (marked_inside (set m b true) x i) in
              rw j (sym (get_d_any m b true false l) ∙ e)
          was x i (inr j) = j

      new : Going (get_or edges b [] ++ stack) (set m b true)
      new = record {
        size = length-set m b true ∙ g.size;
        start = λ h. moved (get_or edges b []) a h (g.start h);
        sound = now_sound;
        listed = λ s i. ⊎_elim (λ (j : is_in s (get_or edges b []) ≡ true). leads_on a b s (g.listed b (in_here b stack)) j)
            (λ (j : is_in s stack ≡ true). g.listed s (in-more s b stack j)) (in-append s (get_or edges b []) stack i);
        ready = λ x s i j h. from x s j h (set_marked m b x i);
      }
        where
          from :
              (x s : ℕ) → is_in s (get_or edges x []) ≡ true → s < length edges → (x ≡ b) ⊎ (get_or m x false ≡ true)
              → (get_or (set m b true) s false ≡ true) ⊎ (is_in s (get_or edges b [] ++ stack) ≡ true)
          from x s j h (inl i) = inr (in_left s (get_or edges b []) stack (rw (← i) j))
          from x s j h (inr i) = moved (get_or edges b []) s h (g.ready x s i j h)

    walked : (k : ℕ) (stack : List ℕ) (m : List Bool) → length stack + due m edges ≤ k → Going stack m → Going [] (walk k edges stack m)
    unfolding walk
    walked zero [] m h g = g
    walked zero (b ∷ stack) m h g = absurd (omega arith)
    walked (suc k) [] m h g = g
    walked (suc k) (b ∷ stack) m h g = by (cases (get_or m b true)) (walked k stack (set m b true)) (walked k (get_or edges b [] ++ stack) (set m b true))
      where
        by :
            (get_or m b true ≡ true) ⊎ (get_or m b true ≡ false)
            → (length stack + due (set m b true) edges ≤ k → Going stack (set m b true) → Going [] (walk k edges stack (set m b true)))
            → (length (get_or edges b [] ++ stack) + due (set m b true) edges ≤ k → Going (get_or edges b [] ++ stack) (set m b true)
            → Going [] (walk k edges (get_or edges b [] ++ stack) (set m b true)))
            → Going [] (walk k edges (pushed (get_or m b true) (get_or edges b []) stack) (set m b true))
        by (inl e) one two = rw e (one (let i = due_old m edges b in omega arith) (old b stack m g e))
        by (inr e) one two = rw e (two (let i = due_new m edges b e in let j = length-append (get_or edges b []) stack in omega arith) (new b stack m g))

    none : (x : ℕ) → get_or (replicate (length edges) false) x false ≡ true → ⊥
    none x e =
        let h : x < length edges = rw (← length-replicate {A = Bool} (length edges) false) (marked_inside (replicate (length edges) false) x e) in
        clash _ e (get_or-replicate (length edges) x false false h)

    ended : Going [] (reached_from edges a)
    unfolding reached_from
    ended = walked (suc (total edges)) (a ∷ []) (replicate (length edges) false) (let i = due_none edges in omega arith) (record {
      size = length-replicate (length edges) false;
      start = λ h. inr (in_here a []);
      sound = λ x e. absurd (none x e);
      listed = λ s e. ⊎_elim (λ (i : a ≡ s). ([], i)) (λ (i : is_in s [] ≡ true). absurd (mathlib.Core.Bool.false≢true i)) (in-cons s a [] e);
      ready = λ x s e. absurd (none x e);
    })

    pub length-reached : length (reached_from edges a) ≡ length edges
    length-reached = ended.size

    unlisted : (x : ℕ) (m : List Bool) → (get_or m x false ≡ true) ⊎ (is_in x [] ≡ true) → get_or m x false ≡ true
    unlisted x m (inl e) = e
    unlisted x m (inr e) = absurd (mathlib.Core.Bool.false≢true e)

    -- a block is marked where block a leads to it, over any number of blocks, and only there
    pub reached-is : (b : ℕ) → b < length edges → (get_or (reached_from edges a) b false ≡ true) ↔ Leads edges a b
    reached-is b h = (
      ended.sound b,
      λ p. closed_leads m shut b h p.0 a (unlisted a m (ended.start (leads-inside b h p.0 a p.1))) p.1,
    )
      where
        m : List Bool
        m = reached_from edges a

        shut : Closed m
        shut x s e i j = unlisted s m (ended.ready x s e i j)

    -- marks that a search leaves are those: with block a, closed, and none that it doesn't lead to
    pub search_is :
        (m : List Bool)
        → length m ≡ length edges
        → get_or m a false ≡ true
        → ((x : ℕ) → get_or m x false ≡ true → Leads edges a x)
        → Closed m
        → m ≡ reached_from edges a
    search_is m l e sound c = ext_get_or false m n (l ∙ sym length-reached) (λ x h. by x (let i = l in omega arith) (cases (get_or m x false)))
      where
        n : List Bool
        n = reached_from edges a

        there : (x : ℕ) → x < length edges → get_or n x false ≡ true → get_or m x false ≡ true
        there x h i = let p = (reached-is x h).0 i in closed_leads m c x h p.0 a e p.1

        by : (x : ℕ) → x < length edges → (get_or m x false ≡ true) ⊎ (get_or m x false ≡ false) → get_or m x false ≡ get_or n x false
        by x h (inl i) = i ∙ sym ((reached-is x h).1 (sound x i))
        by x h (inr i) = i ∙ sym
            (⊎_elim (λ (j : get_or n x false ≡ true). clash _ (there x h j) i) (λ (j : get_or n x false ≡ false). j) (cases (get_or n x false)))
