-- What a copy writes and reads of a register that one field writes.
use Prim.Native.Nat.{ℕ, suc, ◌≤◌, ◌<◌}
use mathlib.Core.Path.{◌≡◌, refl, sym, ap, subst, ◌∙◌}
use mathlib.Core.Logic.{◌⊎◌, inl, inr}
use mathlib.Core.List.{List, [], ◌∷◌, ◌++◌, map}
use Rattle.std.proofs.Common.{Option, None, Some}
use mathlib.Core.Bool.{Bool, true, false, ◌&&◌}
use native.Mathlib.Omega.{arith}
use native.Mathlib.Decide.{ℕ_discrete}
use lib.Dec.{ltb}
use lib.ListN.{length}
use borrow.Author.Clash.{clash}
use Rattle.inst.specs.declared.Code.{Code}
use Rattle.roles.specs.Roles.{list_of, no_list}
use Rattle.procedure.specs.Lists.{times, found, value_or}
use Rattle.procedure.specs.Counts.{writes_in}
use Rattle.ends.specs.Ends.{front}
use Rattle.steps.specs.Facts.{Facts}
use Rattle.steps.specs.Copy.{How, how_of, read_through, written, renamed, place, copy_from}
use Rattle.demand.specs.Setting.{In, Each, Setting, defs_at, reads_at, Written, Read, Exposed, Fine}
use Rattle.demand.proofs.Basics.{clash_some, in_mapped}
use Rattle.demand.proofs.Effects.{constant_fixes}
use Rattle.demand.proofs.Copied.{Silent, Small, renamed-reads, all_own, Way, way_out, way_new, way_kept, way_last, way_silent}
use Rattle.demand.proofs.Joined.{found-old, found-new, found-other}
use Rattle.demand.proofs.CopyKept.{defs-kept, defs-new, only, read_through_lem}
use Rattle.demand.proofs.Counted.{times_none, front-cons, reader, readers_in, reader_of, reader_more}

module _ (E : Setting) (f : Facts) (same-one : (r : ℕ) → (ltb r (length f.registers) && f.single r) ≡ E.one r) (own : ℕ → ℕ) where
  some_by : (x : Code) (local : List (ℕ × ℕ)) (m : ℕ) (w : How) → Way E f same-one own x w → (rest : List (ℕ × ℕ) → ℕ → List Code)
      → ((local : List (ℕ × ℕ)) (m : ℕ) → ¬ (rest local m ≡ [])) → ¬ (place w x local m rest ≡ [])
  some_by x local m w (way_out e n p q z) rest ih = ih local m
  some_by x local m w (way_new e p q z v) rest ih = λ q. let z : ◌≡◌ {A = ℕ} 0 1 = cc in omega arith
  some_by x local m w (way_kept z) rest ih = λ q. let z : ◌≡◌ {A = ℕ} 0 1 = cc in omega arith

  -- a copy isn't empty
  pub copy_some : (c : List Code) → Small E c → (local : List (ℕ × ℕ)) (m : ℕ) → ¬ (copy_from f own c local m ≡ [])
  unfolding copy_from
  copy_some [] k local m = absurd k
  copy_some (x ∷ []) k local m = by (how_of f own x.inst) (way_last E f same-one own x k)
    where
      by : (w : How) → Way E f same-one own x w → ¬ (place w x local m (copy_from f own []) ≡ [])
      by w (way_out e n p q z) = absurd (subst (In e) k.none (rw p (inl refl)))
      by w (way_new e p q z v) = absurd (subst (In e) k.none (rw p (inl refl)))
      by w (way_kept z) = λ q. let z : ◌≡◌ {A = ℕ} 0 1 = cc in omega arith
  copy_some (x ∷ y ∷ c) k local m =
      some_by x local m (how_of f own x.inst) (way_silent E f same-one own x k.0) (copy_from f own (y ∷ c)) (copy_some (y ∷ c) k.1)

module _ (E : Setting) (f : Facts) (same-one : (r : ℕ) → (ltb r (length f.registers) && f.single r) ≡ E.one r) (own : ℕ → ℕ)
    (n₀ : ℕ) (above : E.size ≤ n₀) (d : ℕ) (one_d : E.one d ≡ true) (local_d : E.local d ≡ true) where
  abbrev ops : List ℕ
  ops = E.operands

  abbrev W : Code → How → Type 0
  W x w = Way E f same-one own x w

  abbrev owned : ℕ → Bool
  owned r = all_own E f same-one own r

  low_d : d < n₀
  low_d = let z = E.one-old d one_d in omega arith

  -- the numbers given so far are new, and given to registers whose uses are all in the block
  abbrev Given : List (ℕ × ℕ) → Type 0
  Given local = (r k : ℕ) → found r local ≡ Some k → (n₀ ≤ k) × (owned r ≡ true)

  given-more : (local : List (ℕ × ℕ)) (e m : ℕ) → n₀ ≤ m → owned e ≡ true → Given local → Given (local ++ ((e, m) ∷ []))
  given-more local e m l o g r k q = by (ℕ_discrete r e) (found r local) refl
    where
      by : Dec (r ≡ e) → (o : Option ℕ) → found r local ≡ o → (n₀ ≤ k) × (owned r ≡ true)
      by i (Some j) z = let t = found-old e m local r j z in let u : j ≡ k = cc in let v = g r j z in (omega (arith, v.0), v.1)
      by (yes i) None z =
          let t : found r (local ++ ((e, m) ∷ [])) ≡ Some m =
          subst (λ u. found u (local ++ ((e, m) ∷ [])) ≡ Some m) (sym i) (found-new e m local (subst (λ u. found u local ≡ None) i z)) in
          let u : m ≡ k = cc in
          (omega arith, ap owned i ∙ o)
      by (no i) None z = clash_some q (found-other e m local r i ∙ z)

  -- what reads d in the copy reads it in the block
  read-before : (x : Code) (local : List (ℕ × ℕ)) (τ : ℕ → ℕ) → list_of x.inst ≡ no_list → Given local → In d (reads_at ops (renamed local τ x))
      → In d (reads_at ops x) × (found d local ≡ None)
  read-before x local τ u g k = by (read_through_lem E f same-one own x local τ u d k)
    where
      by : (s : ℕ) × In s (reads_at ops x) × (((found s local ≡ None) × (s ≡ d)) ⊎ (found s local ≡ Some d)) → In d (reads_at ops x) × (found d local ≡ None)
      by (s, k, inl z) = (subst (λ r. In r (reads_at ops x)) z.1 k, subst (λ r. found r local ≡ None) z.1 z.0)
      by (s, k, inr z) = let t = g s d z in let v = low_d in absurd (omega (arith, t.0))

  new_unwritten : (x : Code) (local : List (ℕ × ℕ)) (e m : ℕ) → list_of x.inst ≡ no_list → defs_at x ≡ e ∷ [] → n₀ ≤ m
      → ¬ (In d (defs_at (renamed local (written e m) x)))
  new_unwritten x local e m u p l k = let i = only E f same-one own d m
      (subst (In d) (defs-new E f same-one own x local e m u p) k) in let v = low_d in absurd (omega arith)

  -- all the uses of d are in the block: the copy neither writes nor reads it
  module _ (own-d : owned d ≡ true) where
    kept_unwritten : (x : Code) (local : List (ℕ × ℕ)) → list_of x.inst ≡ no_list
        → ((r : ℕ) → In r (defs_at x) → E.one r ≡ true → owned r ≡ true → ⊥) → ¬ (In d (defs_at (renamed local (λ r. r) x)))
    kept_unwritten x local u z k = z d (subst (In d) (defs-kept E f same-one own x local u) k) one_d own-d

    unwritten_by : (x : Code) (c : List Code) (local : List (ℕ × ℕ)) (m : ℕ) → list_of x.inst ≡ no_list → n₀ ≤ m → (w : How) → W x w
        → ((local : List (ℕ × ℕ)) (m : ℕ) → n₀ ≤ m → ¬ (Written (copy_from f own c local m) d))
        → ¬ (Written (place w x local m (copy_from f own c)) d)
    unwritten_by x c local m u l w (way_out e n p q z) ih k = ih local m l k
    unwritten_by x c local m u l w (way_new e p q z v) ih (inl k) = new_unwritten x local e m u p l k
    unwritten_by x c local m u l w (way_new e p q z v) ih (inr k) = ih (local ++ ((e, m) ∷ [])) (suc m) (omega arith) k
    unwritten_by x c local m u l w (way_kept z) ih (inl k) = kept_unwritten x local u z k
    unwritten_by x c local m u l w (way_kept z) ih (inr k) = ih local m l k

    pub owned_unwritten : (c : List Code) → Small E c → (local : List (ℕ × ℕ)) (m : ℕ) → n₀ ≤ m → ¬ (Written (copy_from f own c local m) d)
    unfolding copy_from
    owned_unwritten [] k local m l = absurd k
    owned_unwritten (x ∷ []) k local m l =
        unwritten_by x [] local m k.unlisted l (how_of f own x.inst) (way_last E f same-one own x k) (λ local m l k. k)
    owned_unwritten (x ∷ y ∷ c) k local m l =
        unwritten_by x (y ∷ c) local m k.0.unlisted l (how_of f own x.inst) (way_silent E f same-one own x k.0) (owned_unwritten (y ∷ c) k.1)

    -- d has a number by now, or isn't exposed
    abbrev Safe : List Code → List (ℕ × ℕ) → Type 0
    Safe c local = found d local ≡ None → ¬ (Exposed ops c d)

    unread_by : (x : Code) (c : List Code) (local : List (ℕ × ℕ)) (m : ℕ) → list_of x.inst ≡ no_list → Fine E x → n₀ ≤ m → Given local
        → Safe (x ∷ c) local → (w : How) → W x w
        → ((local : List (ℕ × ℕ)) (m : ℕ) → n₀ ≤ m → Given local → Safe c local → ¬ (Read ops (copy_from f own c local m) d))
        → ¬ (Read ops (place w x local m (copy_from f own c)) d)
    unread_by x c local m u fine l g s w (way_out e n p q z) ih k = ih local m l g (λ v y. s v (inr (λ t. off t, y))) k
      where
        off : ¬ (In d (defs_at x))
        off t = let i : d ≡ e = only E f same-one own d e (subst (In d) p t) in clash _ local_d
            (ap E.local i ∙ E.single_shared e n (fine e (rw p (inl refl)) q ∙ z))
    unread_by x c local m u fine l g s w (way_new e p q z v) ih (inl k) = let t = read-before x local (written e m) u g k in s t.1 (inl t.0)
    unread_by x c local m u fine l g s w (way_new e p q z v) ih (inr k) = ih (local ++ ((e, m) ∷ [])) (suc m) (omega arith)
        (given-more local e m l z g) safe k
      where
        safe : Safe c (local ++ ((e, m) ∷ []))
        safe y = by (ℕ_discrete d e) (found d local) refl
          where
            by : Dec (d ≡ e) → (o : Option ℕ) → found d local ≡ o → ¬ (Exposed ops c d)
            by i (Some j) t = λ r. clash_some (found-old e m local d j t) y
            by (yes i) None t = λ r. clash_some (subst (λ u. found u (local ++ ((e, m) ∷ [])) ≡ Some m) (sym i)
                (found-new e m local (subst (λ u. found u local ≡ None) i t))) y
            by (no i) None t = λ r. s t (inr (λ a. i (only E f same-one own d e (subst (In d) p a)), r))
    unread_by x c local m u fine l g s w (way_kept z) ih (inl k) = let t = read-before x local (λ r. r) u g k in s t.1 (inl t.0)
    unread_by x c local m u fine l g s w (way_kept z) ih (inr k) = ih local m l g (λ v y. s v (inr (λ t. z d t one_d own-d, y))) k

    pub owned_unread : (c : List Code) → Small E c → Each (Fine E) c → (local : List (ℕ × ℕ)) (m : ℕ) → n₀ ≤ m → Given local → Safe c local
        → ¬ (Read ops (copy_from f own c local m) d)
    unfolding copy_from
    owned_unread [] k fine local m l g s = absurd k
    owned_unread (x ∷ []) k fine local m l g s =
        unread_by x [] local m k.unlisted fine.0 l g s (how_of f own x.inst) (way_last E f same-one own x k) (λ local m l g s k. k)
    owned_unread (x ∷ y ∷ c) k fine local m l g s =
        unread_by x (y ∷ c) local m k.0.unlisted fine.0 l g s (how_of f own x.inst) (way_silent E f same-one own x k.0)
        (owned_unread (y ∷ c) k.1 fine.1)

  -- what reads d in the copy reads it in the block
  read_by : (x : Code) (c : List Code) (local : List (ℕ × ℕ)) (m : ℕ) → list_of x.inst ≡ no_list → n₀ ≤ m → Given local → (w : How) → W x w
      → ((local : List (ℕ × ℕ)) (m : ℕ) → n₀ ≤ m → Given local → Read ops (copy_from f own c local m) d → Read ops c d)
      → Read ops (place w x local m (copy_from f own c)) d → Read ops (x ∷ c) d
  read_by x c local m u l g w (way_out e n p q z) ih k = inr (ih local m l g k)
  read_by x c local m u l g w (way_new e p q z v) ih (inl k) = inl (read-before x local (written e m) u g k).0
  read_by x c local m u l g w (way_new e p q z v) ih (inr k) = inr (ih (local ++ ((e, m) ∷ [])) (suc m) (omega arith) (given-more local e m l z g) k)
  read_by x c local m u l g w (way_kept z) ih (inl k) = inl (read-before x local (λ r. r) u g k).0
  read_by x c local m u l g w (way_kept z) ih (inr k) = inr (ih local m l g k)

  pub copy_read : (c : List Code) → Small E c → (local : List (ℕ × ℕ)) (m : ℕ) → n₀ ≤ m → Given local → Read ops (copy_from f own c local m) d → Read ops c d
  unfolding copy_from
  copy_read [] k local m l g z = absurd k
  copy_read (x ∷ []) k local m l g z =
      read_by x [] local m k.unlisted l g (how_of f own x.inst) (way_last E f same-one own x k) (λ local m l g k. k) z
  copy_read (x ∷ y ∷ c) k local m l g z =
      read_by x (y ∷ c) local m k.0.unlisted l g (how_of f own x.inst) (way_silent E f same-one own x k.0) (copy_read (y ∷ c) k.1) z

  -- d has uses elsewhere: it keeps its number
  module _ (else-d : owned d ≡ false) where
    -- no more writes and no fewer readers, before the ends
    pub record Balanced (c c' : List Code) : Type 0 where
      pub writes : writes_in (front c') d ≤ writes_in (front c) d
      pub readers : readers_in ops d (front c) ≤ readers_in ops d (front c')

    balanced_cons : (x x' : Code) (c c' : List Code) → ¬ (c ≡ []) → ¬ (c' ≡ []) → times d (defs_at x') ≤ times d (defs_at x) → reader ops d x ≤ reader ops d x'
        → Balanced c c' → Balanced (x ∷ c) (x' ∷ c')
    unfolding writes_in readers_in
    balanced_cons x x' c c' n n' p q b =
        rw_both (front-cons x c n) (front-cons x' c' n')
      where
        rw_both : front (x ∷ c) ≡ x ∷ front c → front (x' ∷ c') ≡ x' ∷ front c' → Balanced (x ∷ c) (x' ∷ c')
        rw_both i j =
            record {
              writes = let u = b.writes in rw (i, j) (omega arith);
              readers = let u = b.readers in rw (i, j) (omega arith);
            }

    through_d : (local : List (ℕ × ℕ)) → Given local → read_through local d ≡ d
    through_d local g = by (found d local) refl
      where
        by : (o : Option ℕ) → found d local ≡ o → value_or d o ≡ d
        by None z = refl
        by (Some k) z = clash _ (g d k z).1 else-d

    read_on : (x : Code) (local : List (ℕ × ℕ)) (τ : ℕ → ℕ) → list_of x.inst ≡ no_list → Given local → In d (reads_at ops x)
        → In d (reads_at ops (renamed local τ x))
    read_on x local τ u g k =
        rw (renamed-reads E (read_through local) τ x u)
        (subst (λ r. In r (map (read_through local) (reads_at ops x))) (through_d local g) (in_mapped (read_through local) d (reads_at ops x) k))

    balanced_by : (x : Code) (c : List Code) (local : List (ℕ × ℕ)) (m : ℕ) → ¬ (c ≡ []) → Silent E x → n₀ ≤ m → Given local → (w : How) → W x w
        → ((local : List (ℕ × ℕ)) (m : ℕ) → ¬ (copy_from f own c local m ≡ []))
        → ((local : List (ℕ × ℕ)) (m : ℕ) → n₀ ≤ m → Given local → Balanced c (copy_from f own c local m))
        → Balanced (x ∷ c) (place w x local m (copy_from f own c))
    unfolding writes_in readers_in
    balanced_by x c local m n s l g w (way_out e v p q z) n' ih = by (front-cons x c n) (reader_of ops d x) (ih local m l g)
      where
        empty : reads_at ops x ≡ []
        empty = let t = constant_fixes E.address x.inst v z in rw (t.alone, t.unlisted)

        by : front (x ∷ c) ≡ x ∷ front c → (reader ops d x ≡ 0) ⊎ ((reader ops d x ≡ 1) × In d (reads_at ops x) × (¬ (In d (defs_at x))))
            → Balanced c (copy_from f own c local m) → Balanced (x ∷ c) (copy_from f own c local m)
        by i (inl r) b = record { writes = let u = b.writes in rw i (omega arith); readers = let u = b.readers in rw i (omega arith) }
        by i (inr r) b = absurd (subst (In d) empty r.1)
    balanced_by x c local m n s l g w (way_new e p q z v) n' ih =
        balanced_cons x _ c _ n (n' (local ++ ((e, m) ∷ [])) (suc m))
        (let t = times_none d (defs_at (renamed local (written e m) x)) (new_unwritten x local e m s.unlisted p l) in omega arith)
        (reader_more ops d x _ (λ k o. (read_on x local (written e m) s.unlisted g k, new_unwritten x local e m s.unlisted p l)))
        (ih (local ++ ((e, m) ∷ [])) (suc m) (omega arith) (given-more local e m l z g))
    balanced_by x c local m n s l g w (way_kept z) n' ih =
        balanced_cons x _ c _ n (n' local m)
        (let t = ap (times d) (defs-kept E f same-one own x local s.unlisted) in omega arith)
        (reader_more ops d x _ (λ k o. (
          read_on x local (λ r. r) s.unlisted g k,
          λ i. o
              (subst (In d) (defs-kept E f same-one own x local s.unlisted) i),
        )))
        (ih local m l g)

    pub copy_balanced : (c : List Code) → Small E c → (local : List (ℕ × ℕ)) (m : ℕ) → n₀ ≤ m → Given local → Balanced c (copy_from f own c local m)
    unfolding copy_from front writes_in readers_in
    copy_balanced [] k local m l g = absurd k
    copy_balanced (x ∷ []) k local m l g = by (how_of f own x.inst) (way_last E f same-one own x k)
      where
        by : (w : How) → W x w → Balanced (x ∷ []) (place w x local m (copy_from f own []))
        by w (way_out e n p q z) = absurd (subst (In e) k.none (rw p (inl refl)))
        by w (way_new e p q z v) = absurd (subst (In e) k.none (rw p (inl refl)))
        by w (way_kept z) = record { writes = omega arith; readers = omega arith }
    copy_balanced (x ∷ y ∷ c) k local m l g =
        balanced_by x (y ∷ c) local m (λ q. let z : ◌≡◌ {A = ℕ} 0 1 = cc in omega arith) k.0 l g (how_of f own x.inst)
        (way_silent E f same-one own x k.0)
        (copy_some E f same-one own (y ∷ c) k.1) (copy_balanced (y ∷ c) k.1)
