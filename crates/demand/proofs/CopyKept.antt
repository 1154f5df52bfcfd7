-- The copy of a block is as good as the block: what it exposes, which numbers it names, how it ends.
use Prim.Native.Nat.{ℕ, suc, ◌+◌, ◌≤◌, ◌<◌}
use mathlib.Core.Path.{◌≡◌, refl, sym, ap, subst, ◌∙◌}
use mathlib.Core.Logic.{◌⊎◌, inl, inr}
use mathlib.Core.List.{List, [], ◌∷◌, ◌++◌, map-id}
use Rattle.std.proofs.Common.{Option, None, Some}
use mathlib.Core.Bool.{false, ◌&&◌}
use native.Mathlib.Omega.{arith}
use native.Mathlib.Decide.{ℕ_discrete}
use lib.Dec.{ltb}
use lib.ListN.{length}
use borrow.Author.Tests.{eq-eqb}
use Rattle.inst.specs.declared.Code.{Code}
use Rattle.roles.specs.Roles.{list_of, no_list}
use Rattle.procedure.specs.Lists.{found, value_or}
use Rattle.steps.specs.Facts.{Facts}
use Rattle.steps.specs.Copy.{How, how_of, read_through, written, renamed, place, copy_from, kind_for, kinds_given}
use Rattle.demand.specs.Setting.{In, Each, Front, Setting, defs_at, reads_at, Exposed, Fine}
use Rattle.demand.proofs.Basics.{clash_some, in_map}
use Rattle.demand.proofs.Codes.{each-front}
use Rattle.demand.proofs.Branches.{Low, NoEnd}
use Rattle.demand.proofs.Copied.{Silent, Last, Small, terminator-exchanged, renamed-defs, renamed-reads}
use Rattle.demand.proofs.Copied.{renamed_constant, Way, way_out, way_new, way_kept, way_last, way_silent}
use Rattle.demand.proofs.Joined.{found-old, found-new, found-other}

module _ (E : Setting) (f : Facts) (same-one : (r : ℕ) → (ltb r (length f.registers) && f.single r) ≡ E.one r) (own : ℕ → ℕ) where
  abbrev W : Code → How → Type 0
  W x w = Way E f same-one own x w

  pub defs-kept : (x : Code) (local : List (ℕ × ℕ)) → list_of x.inst ≡ no_list → defs_at (renamed local (λ r. r) x) ≡ defs_at x
  defs-kept x local u = renamed-defs E (read_through local) (λ r. r) x u ∙ map-id (defs_at x)

  pub defs-new : (x : Code) (local : List (ℕ × ℕ)) (d m : ℕ) → list_of x.inst ≡ no_list → defs_at x ≡ d ∷ [] → defs_at (renamed local (written d m) x) ≡ m ∷ []
  defs-new x local d m u q = renamed-defs E (read_through local) (written d m) x u ∙ rw (q, eq-eqb d d refl)

  -- in a list of one
  pub only : (r d : ℕ) → In r (d ∷ []) → r ≡ d
  only r d (inl q) = q
  only r d (inr q) = absurd q

  -- what is read in a copied instruction
  pub read_through_lem : (x : Code) (local : List (ℕ × ℕ)) (τ : ℕ → ℕ) → list_of x.inst ≡ no_list → (r : ℕ) → In r (reads_at E.operands (renamed local τ x))
      → (s : ℕ) × In s (reads_at E.operands x) × (((found s local ≡ None) × (s ≡ r)) ⊎ (found s local ≡ Some r))
  read_through_lem x local τ u r k =
      let t = in_map (read_through local) r (reads_at E.operands x) (subst (In r) (renamed-reads E (read_through local) τ x u) k) in
      (t.0, t.2, by t.0 (found t.0 local) refl t.1)
    where
      by : (s : ℕ) (o : Option ℕ) → found s local ≡ o → r ≡ value_or s o → ((found s local ≡ None) × (s ≡ r)) ⊎ (found s local ≡ Some r)
      by s None z q = inl (z, sym q)
      by s (Some j) z q = inr (cc)

  -- a register that the copy exposes is exposed in the code, or isn't local; or it is a number that it got
  abbrev Seen : List Code → List (ℕ × ℕ) → ℕ → Type 0
  Seen c local r = (Exposed E.operands c r × (found r local ≡ None)) ⊎ (E.local r ≡ false) ⊎ ((s : ℕ) × (found s local ≡ Some r))

  seen_read : (x : Code) (c : List Code) (local : List (ℕ × ℕ)) (τ : ℕ → ℕ) → list_of x.inst ≡ no_list → (r : ℕ)
      → In r (reads_at E.operands (renamed local τ x)) → Seen (x ∷ c) local r
  seen_read x c local τ u r k = by (read_through_lem x local τ u r k)
    where
      by : (s : ℕ) × In s (reads_at E.operands x) × (((found s local ≡ None) × (s ≡ r)) ⊎ (found s local ≡ Some r)) → Seen (x ∷ c) local r
      by (s, k, inl z) = inl (inl (subst (λ w. In w (reads_at E.operands x)) z.1 k), subst (λ w. found w local ≡ None) z.1 z.0)
      by (s, k, inr z) = inr (inr (s, z))

  module _ (x : Code) (c : List Code) (local : List (ℕ × ℕ)) (m : ℕ) (s : Silent E x) (fine : Fine E x) where
    seen-behind : (r : ℕ) → ¬ (In r (defs_at x)) → Seen c local r → Seen (x ∷ c) local r
    seen-behind r n (inl z) = inl (inr (n, z.0), z.1)
    seen-behind r n (inr z) = inr z

    hidden_by : (w : How) → W x w → ((local : List (ℕ × ℕ)) (m r : ℕ) → Exposed E.operands (copy_from f own c local m) r → Seen c local r)
        → (r : ℕ) → Exposed E.operands (place w x local m (copy_from f own c)) r → Seen (x ∷ c) local r
    hidden_by w (way_out d n p q z) ih r k = by (ℕ_discrete r d)
      where
        by : Dec (r ≡ d) → Seen (x ∷ c) local r
        by (yes e) =
            let i = fine d (rw p (inl refl)) q ∙ z in
            inr (inl (ap E.local e ∙ E.single_shared d n i))
        by (no e) = seen-behind r (λ v. e (only r d (subst (In r) p v))) (ih local m r k)
    hidden_by w (way_new d p q z c₀) ih r (inl k) = seen_read x c local (written d m) s.unlisted r k
    hidden_by w (way_new d p q z c₀) ih r (inr (n, k)) = by (ih (local ++ ((d, m) ∷ [])) (suc m) r k)
      where
        not_m : ¬ (r ≡ m)
        not_m e = n (rw (defs-new x local d m s.unlisted p) (inl e))

        none_before : (r : ℕ) → found r (local ++ ((d, m) ∷ [])) ≡ None → (¬ (r ≡ d)) × (found r local ≡ None)
        none_before r v = by (found r local) refl
          where
            by : (o : Option ℕ) → found r local ≡ o → (¬ (r ≡ d)) × (o ≡ None)
            by None y = (
              λ e. clash_some (subst (λ u. found u (local ++ ((d, m) ∷ [])) ≡ Some m) (sym e)
                  (found-new d m local (subst (λ u. found u local ≡ None) e y))) v,
              refl,
            )
            by (Some j) y = clash_some (found-old d m local r j y) v

        from : (u : ℕ) → found u (local ++ ((d, m) ∷ [])) ≡ Some r → Dec (u ≡ d) → (o : Option ℕ) → found u local ≡ o → (s : ℕ) × (found s local ≡ Some r)
        from u v e (Some j) y = let t = found-old d m local u j y in (u, cc)
        from u v (yes e) None y =
            let t : found u (local ++ ((d, m) ∷ [])) ≡ Some m = subst (λ u. found u (local ++ ((d, m) ∷ [])) ≡ Some m) (sym e)
            (found-new d m local (subst (λ u. found u local ≡ None) e y)) in
            let i : r ≡ m = cc in
            absurd (not_m i)
        from u v (no e) None y = clash_some v (found-other d m local u e ∙ y)

        by : Seen c (local ++ ((d, m) ∷ [])) r → Seen (x ∷ c) local r
        by (inl v) = let t = none_before r v.1 in inl (inr (λ u. t.0 (only r d (subst (In r) p u)), v.0), t.1)
        by (inr (inl v)) = inr (inl v)
        by (inr (inr v)) = inr (inr (from v.0 v.1 (ℕ_discrete v.0 d) (found v.0 local) refl))
    hidden_by w (way_kept z) ih r (inl k) = seen_read x c local (λ r. r) s.unlisted r k
    hidden_by w (way_kept z) ih r (inr (n, k)) = seen-behind r (λ v. n (rw (defs-kept x local s.unlisted) v)) (ih local m r k)

  last-hidden : (x : Code) (local : List (ℕ × ℕ)) (m : ℕ) → Last E x → (w : How) → W x w
      → (r : ℕ) → Exposed E.operands (place w x local m (copy_from f own [])) r → Seen (x ∷ []) local r
  unfolding copy_from
  last-hidden x local m l w (way_out d n p q z) r k = absurd k
  last-hidden x local m l w (way_new d p q z c) r k = absurd (subst (In d) l.none (rw p (inl refl)))
  last-hidden x local m l w (way_kept z) r (inl k) = seen_read x [] local (λ r. r) l.unlisted r k
  last-hidden x local m l w (way_kept z) r (inr k) = absurd k.1

  copy_seen : (c : List Code) → Small E c → Each (Fine E) c → (local : List (ℕ × ℕ)) (m r : ℕ) → Exposed E.operands (copy_from f own c local m) r
      → Seen c local r
  unfolding copy_from
  copy_seen [] k fine local m r e = absurd k
  copy_seen (x ∷ []) k fine local m r e = last-hidden x local m k (how_of f own x.inst) (way_last E f same-one own x k) r e
  copy_seen (x ∷ y ∷ c) k fine local m r e =
      hidden_by x (y ∷ c) local m k.0 fine.0 (how_of f own x.inst) (way_silent E f same-one own x k.0) (copy_seen (y ∷ c) k.1 fine.1) r e

  -- no more is exposed than in the block
  pub copy-hidden : (c : List Code) → Small E c → Each (Fine E) c → (m r : ℕ) → Exposed E.operands (copy_from f own c [] m) r
      → Exposed E.operands c r ⊎ (E.local r ≡ false)
  unfolding found
  copy-hidden c k fine m r e = by (copy_seen c k fine [] m r e)
    where
      by : Seen c [] r → Exposed E.operands c r ⊎ (E.local r ≡ false)
      by (inl z) = inl z.0
      by (inr (inl z)) = inr z
      by (inr (inr z)) = clash_some z.1 refl

  -- what is kept by the copy; m is the next new number
  pub record Copy (m : ℕ) (c : List Code) : Type 0 where
    pub fine : Each (Fine E) c
    pub low : Each (Low E m) c
    pub formed : Front (NoEnd E) c

  module _ (n₀ : ℕ) (above : E.size ≤ n₀) where
    -- the numbers given so far are below m
    abbrev Given : List (ℕ × ℕ) → ℕ → Type 0
    Given local m = (n₀ ≤ m) × ((r k : ℕ) → found r local ≡ Some k → k < m)

    given-more : (local : List (ℕ × ℕ)) (d m : ℕ) → Given local m → Given (local ++ ((d, m) ∷ [])) (suc m)
    given-more local d m g = (let z = g.0 in omega arith, λ r k q. by r k q (ℕ_discrete r d) (found r local) refl)
      where
        by : (r k : ℕ) → found r (local ++ ((d, m) ∷ [])) ≡ Some k → Dec (r ≡ d) → (o : Option ℕ) → found r local ≡ o → k < suc m
        by r k q e (Some j) z = let t = found-old d m local r j z in let i : j ≡ k = cc in let b = g.1 r j z in omega arith
        by r k q (yes e) None z =
            let t : found r (local ++ ((d, m) ∷ [])) ≡ Some m =
            subst (λ u. found u (local ++ ((d, m) ∷ [])) ≡ Some m) (sym e) (found-new d m local (subst (λ u. found u local ≡ None) e z)) in
            let i : m ≡ k = cc in
            omega arith
        by r k q (no e) None z = clash_some q (found-other d m local r e ∙ z)

    module _ (x : Code) (local : List (ℕ × ℕ)) (m : ℕ) (unlisted : list_of x.inst ≡ no_list) (low : Low E n₀ x) (g : Given local m) where
      reads-low : (τ : ℕ → ℕ) (r : ℕ) → In r (reads_at E.operands (renamed local τ x)) → r < m
      reads-low τ r k = by (read_through_lem x local τ unlisted r k)
        where
          by : (s : ℕ) × In s (reads_at E.operands x) × (((found s local ≡ None) × (s ≡ r)) ⊎ (found s local ≡ Some r)) → r < m
          by (s, k, inl z) = let a = low s (inr k) in let b = g.0 in let i = z.1 in omega arith
          by (s, k, inr z) = g.1 s r z

      kept_low : (M : ℕ) → m ≤ M → Low E M (renamed local (λ r. r) x)
      kept_low M l r (inl k) = let a = low r (inl (subst (In r) (defs-kept x local unlisted) k)) in let b = g.0 in omega arith
      kept_low M l r (inr k) = let a = reads-low (λ r. r) r k in omega arith

      new-low : (d M : ℕ) → defs_at x ≡ d ∷ [] → m < M → Low E M (renamed local (written d m) x)
      new-low d M p l r (inl k) = let i = only r m (subst (In r) (defs-new x local d m unlisted p) k) in omega arith
      new-low d M p l r (inr k) = let a = reads-low (written d m) r k in omega arith

      kept_fine : Fine E x → Fine E (renamed local (λ r. r) x)
      kept_fine fine r k q =
          fine r (subst (In r) (defs-kept x local unlisted) k) q ∙ sym (renamed_constant E (read_through local) (λ r. r) x unlisted)

      new-fine : (d : ℕ) → defs_at x ≡ d ∷ [] → Fine E (renamed local (written d m) x)
      new-fine d p r k q =
          let i = only r m (subst (In r) (defs-new x local d m unlisted p) k) in
          let a = E.one-old r q in
          let b = g.0 in
          absurd (omega arith)

    no_end : (x : Code) (local : List (ℕ × ℕ)) (τ : ℕ → ℕ) → (NoEnd E) x → (NoEnd E) (renamed local τ x)
    no_end x local τ q = terminator-exchanged (read_through local) τ x.inst ∙ q

    copy_by : (x : Code) (c : List Code) (local : List (ℕ × ℕ)) (m : ℕ) → Silent E x → Fine E x → Low E n₀ x → Given local m → (w : How) → W x w
        → ((local : List (ℕ × ℕ)) (m : ℕ) → Given local m → Copy (m + length (kinds_given f own c)) (copy_from f own c local m))
        → Copy (m + length (kind_for f own w (kinds_given f own c))) (place w x local m (copy_from f own c))
    copy_by x c local m s fine low g w (way_out d n p q z) ih = ih local m g
    copy_by x c local m s fine low g w (way_new d p q z k) ih =
        let t = ih (local ++ ((d, m) ∷ [])) (suc m) (given-more local d m g) in
        let e : suc m + length (kinds_given f own c) ≡ m + suc (length (kinds_given f own c)) = omega arith in
        record {
          fine = (new-fine x local m s.unlisted low g d p, t.fine);
          low = (
            new-low x local m s.unlisted low g d _ p (omega arith),
            subst
                (λ M. Each (Low E M) (copy_from f own c (local ++ ((d, m) ∷ [])) (suc m))) e t.low,
          );
          formed = each-front (NoEnd E) (renamed local (written d m) x ∷ []) (copy_from f own c (local ++ ((d, m) ∷ [])) (suc m))
              (no_end x local (written d m) s.no_end, tt) t.formed;
        }
    copy_by x c local m s fine low g w (way_kept z) ih =
        let t = ih local m g in
        record {
          fine = (kept_fine x local m s.unlisted low g fine, t.fine);
          low = (kept_low x local m s.unlisted low g _ (omega arith), t.low);
          formed = each-front (NoEnd E) (renamed local (λ r. r) x ∷ []) (copy_from f own c local m) (no_end x local (λ r. r) s.no_end, tt) t.formed;
        }

    last_by_lem : (x : Code) (local : List (ℕ × ℕ)) (m : ℕ) → Last E x → Fine E x → Low E n₀ x → Given local m → (w : How) → W x w
        → Copy (m + length (kind_for f own w (kinds_given f own []))) (place w x local m (copy_from f own []))
    unfolding copy_from kinds_given
    last_by_lem x local m l fine low g w (way_out d n p q z) = absurd (subst (In d) l.none (rw p (inl refl)))
    last_by_lem x local m l fine low g w (way_new d p q z k) = absurd (subst (In d) l.none (rw p (inl refl)))
    last_by_lem x local m l fine low g w (way_kept z) =
        record {
          fine = (kept_fine x local m l.unlisted low g fine, tt);
          low = (kept_low x local m l.unlisted low g _ (omega arith), tt);
          formed = tt;
        }

    copy-kept : (c : List Code) → Small E c → Each (Fine E) c → Each (Low E n₀) c → (local : List (ℕ × ℕ)) (m : ℕ) → Given local m
        → Copy (m + length (kinds_given f own c)) (copy_from f own c local m)
    unfolding copy_from kinds_given
    copy-kept [] k fine low local m g = absurd k
    copy-kept (x ∷ []) k fine low local m g = last_by_lem x local m k fine.0 low.0 g (how_of f own x.inst) (way_last E f same-one own x k)
    copy-kept (x ∷ y ∷ c) k fine low local m g =
        copy_by x (y ∷ c) local m k.0 fine.0 low.0 g (how_of f own x.inst) (way_silent E f same-one own x k.0)
        (copy-kept (y ∷ c) k.1 fine.1 low.1)

    -- the copy of a whole block
    pub copied_well : (c : List Code) → Small E c → Each (Fine E) c → Each (Low E n₀) c
        → Copy (n₀ + length (kinds_given f own c)) (copy_from f own c [] n₀)
    unfolding found
    copied_well c k fine low = copy-kept c k fine low [] n₀ (omega arith, λ r k q. clash_some q refl)
