-- The copy of a block runs as the block does: registers are read through their new numbers.
use Prim.Native.Nat.{ℕ, suc, ◌+◌, ◌≤◌, ◌<◌}
use mathlib.Core.Path.{◌≡◌, refl, sym, ap, subst, subst₂, ◌∙◌}
use mathlib.Core.Logic.{◌⊎◌, inl, inr}
use mathlib.Core.List.{List, [], ◌∷◌, ◌++◌, map}
use Rattle.std.proofs.Common.{Option, None, Some}
use mathlib.Core.Bool.{Bool, true, false, ◌&&◌, cond}
use native.Mathlib.Omega.{arith}
use native.Mathlib.Decide.{ℕ_discrete}
use lib.Dec.{eqb, ltb}
use lib.ListN.{length}
use borrow.Author.Clash.{clash}
use borrow.Author.Tests.{eq-eqb, ne_eqb}
use Rattle.inst.specs.declared.Code.{Code}
use Rattle.procedure.specs.Lists.{times, found, value_or}
use Rattle.procedure.specs.Counts.{writes_in}
use Rattle.steps.specs.Facts.{Facts}
use Rattle.steps.specs.Copy.{How, how_of, read_through, written, renamed, place, copy_from}
use Rattle.machine.specs.Act.{Act}
use Rattle.machine.specs.Machine.{Regs, Effect, writes, goes, ends, asks, at, upd, after, step}
use Rattle.machine.specs.Single.{constant_of}
use Rattle.machine.proofs.Shorter.{together}
use Rattle.demand.specs.Setting.{In, Each, Setting, code, does, defs_at, reads_at, Read, Fine, Loaded, Passes}
use Rattle.demand.proofs.Basics.{clash_some, map_same, upd_same, upd_other}
use Rattle.demand.proofs.Effects.{keeps, constant_does}
use Rattle.demand.proofs.Stretches.{ahead, abreast}
use Rattle.demand.proofs.Codes.{exposed-read}
use Rattle.demand.proofs.Edit.{Meet, Live, step_is, Same, entering, both, weigh}
use Rattle.demand.proofs.Branches.{Low}
use Rattle.demand.proofs.Jumps.{St}
use Rattle.demand.proofs.Copied.{Leaves, Silent, Last, Small, renamed-defs, renamed-does}
use Rattle.demand.proofs.Copied.{all_own, Way, way_out, way_new, way_kept, way_last, way_silent}

-- a register has a new number
abbrev pub counted : Option ℕ → ℕ
counted None = 0
counted (Some k) = 1

abbrev pub renumberings : ℕ → List (ℕ × ℕ) → ℕ
renumberings r local = counted (found r local)

module _ (d m : ℕ) where
  abbrev more : List (ℕ × ℕ) → List (ℕ × ℕ)
  more local = local ++ ((d, m) ∷ [])

  pub found-old : (local : List (ℕ × ℕ)) (r k : ℕ) → found r local ≡ Some k → found r (more local) ≡ Some k
  unfolding found
  found-old [] r k q = clash_some q refl
  found-old (x ∷ local) r k q = by (eqb x.0 r) q (found-old local r k)
    where
      by : (t : Bool) → cond t (Some x.1) (found r local) ≡ Some k → (found r local ≡ Some k → found r (more local) ≡ Some k)
          → cond t (Some x.1) (found r (more local)) ≡ Some k
      by true q ih = q
      by false q ih = ih q

  pub found-new : (local : List (ℕ × ℕ)) → found d local ≡ None → found d (more local) ≡ Some m
  unfolding found
  found-new [] q = rw (eq-eqb d d refl)
  found-new (x ∷ local) q = by (eqb x.0 d) q (found-new local)
    where
      by : (t : Bool) → cond t (Some x.1) (found d local) ≡ None → (found d local ≡ None → found d (more local) ≡ Some m)
          → cond t (Some x.1) (found d (more local)) ≡ Some m
      by true q ih = clash_some refl q
      by false q ih = ih q

  pub found-other : (local : List (ℕ × ℕ)) (r : ℕ) → ¬ (r ≡ d) → found r (more local) ≡ found r local
  unfolding found
  found-other [] r n = rw (ne_eqb d r (λ z. n (sym z)))
  found-other (x ∷ local) r n = ap (cond (eqb x.0 r) (Some x.1)) (found-other local r n)

module _ (E : Setting) (f : Facts) (same-one : (r : ℕ) → (ltb r (length f.registers) && f.single r) ≡ E.one r) (own : ℕ → ℕ)
    (n₀ : ℕ) (above : E.size ≤ n₀) where
  -- c is what is left of the block, local what has a new number, and m the next one
  pub record Ready (c : List Code) (local : List (ℕ × ℕ)) (m : ℕ) (g g' : Regs) : Type 0 where
    pub loaded : Loaded E g
    pub fine : Each (Fine E) c
    pub agree : (r : ℕ) → Live E c r → g r ≡ g' (read_through local r)
    pub entries : (r k : ℕ) → found r local ≡ Some k
        → (E.one r ≡ true) × (E.local r ≡ true) × (all_own E f same-one own r ≡ true) × (n₀ ≤ k) × (k < m)
    pub low : Each (Low E n₀) c
    pub from : n₀ ≤ m
    -- a register that gets a new number is written once, or isn't read
    pub once : (r : ℕ) → E.one r ≡ true → E.local r ≡ true → all_own E f same-one own r ≡ true → (writes_in c r + renumberings r local ≤ 1)
        ⊎ (¬ (Read E.operands c r))

  module _ (κ : ℕ) (rs rs' : List ℕ) (P P' : List (List Code)) (h : List Act) where
    abbrev Sim : List Code → List Code → Regs → Regs → Type 0
    Sim c c' g g' = St E κ rs rs' P P' (at c g h) (at c' g' h)

    -- one instruction x and its copy x'
    module _ (x : Code) (c : List Code) (local : List (ℕ × ℕ)) (m : ℕ) (g g' : Regs) (y : Ready (x ∷ c) local m g g') where
      same_reads : map (λ r. g' (read_through local r)) (reads_at E.operands x) ≡ map g (reads_at E.operands x)
      same_reads = map_same _ _ (reads_at E.operands x) (λ r k. sym (y.agree r (inr (inl k))))

      -- a register that isn't local keeps its number
      shared_through : (r : ℕ) → E.local r ≡ false → read_through local r ≡ r
      shared_through r q = by (found r local) refl
        where
          by : (o : Option ℕ) → found r local ≡ o → value_or r o ≡ r
          by None z = refl
          by (Some k) z = clash _ (y.entries r k z).1 q

      meets : Meet E g g'
      meets r q = y.agree r (inl q) ∙ ap g' (shared_through r q)

      module _ (s : Silent E x) where
        abbrev d : ℕ
        d = s.d

        abbrev v : ℕ
        v = s.value (map g (reads_at E.operands x))

        in_d : (r : ℕ) → In r (defs_at x) → r ≡ d
        in_d r k = by (subst (In r) s.one k)
          where
            by : In r (d ∷ []) → r ≡ d
            by (inl z) = z
            by (inr z) = absurd z

        low_d : d < n₀
        low_d = y.low.0 d (inl (rw s.one (inl refl)))

        old-step : step E.outside E.address (code E rs P) (at (x ∷ c) g h) ≡ at c (upd d v g) h
        old-step = step_is E rs P x c g h ∙ rw (s.does_write g, s.one)

        copy_does : (τ : ℕ → ℕ) → does E (renamed local τ x) g' ≡ does E x g
        copy_does τ = renamed-does E (read_through local) τ x s.unlisted g g' same_reads

        new-step : (τ : ℕ → ℕ) (c' : List Code) → step E.outside E.address (code E rs' P') (at (renamed local τ x ∷ c') g' h) ≡ at c' (upd (τ d) v g') h
        new-step τ c' =
            step_is E rs' P' (renamed local τ x) c' g' h
            ∙ rw (copy_does τ, s.does_write g, renamed-defs E (read_through local) τ x s.unlisted, s.one)

        loaded-next : Loaded E (upd d v g)
        loaded-next = subst (λ w. Passes w (d ∷ []) (Loaded E) g) (s.does_write g)
            (subst (λ ds. Passes (does E x g) ds (Loaded E) g) s.one (keeps E x g y.fine.0 y.loaded))

        -- live behind x, and another register
        live_before : (r : ℕ) → ¬ (r ≡ d) → Live E c r → Live E (x ∷ c) r
        live_before r n (inl q) = inl q
        live_before r n (inr z) = inr (inr (λ k. n (in_d r k), z))

        live_low : (r : ℕ) → Live E (x ∷ c) r → r < n₀
        live_low r (inl q) = let z = E.shared_old r q in omega arith
        live_low r (inr z) = in_code (x ∷ c) y.low (exposed-read E.operands (x ∷ c) r z)
          where
            in_code : (c : List Code) → Each (Low E n₀) c → Read E.operands c r → r < n₀
            in_code [] p k = absurd k
            in_code (u ∷ c) p (inl k) = p.0 r (inr k)
            in_code (u ∷ c) p (inr k) = in_code c p.1 k

        writes_one : (r : ℕ) → writes_in (x ∷ c) r ≡ cond (eqb r d) 1 0 + writes_in c r
        unfolding writes_in times
        writes_one r = rw s.one (omega arith)

        -- what is left writes no more
        once_less : (r : ℕ) → E.one r ≡ true → E.local r ≡ true → all_own E f same-one own r ≡ true
            → (writes_in c r + renumberings r local ≤ 1) ⊎ (¬ (Read E.operands c r))
        once_less r p i q = by (y.once r p i q)
          where
            by : (writes_in (x ∷ c) r + renumberings r local ≤ 1) ⊎ (¬ (Read E.operands (x ∷ c) r))
                → (writes_in c r + renumberings r local ≤ 1) ⊎ (¬ (Read E.operands c r))
            by (inl z) = inl (omega (arith, writes_one r))
            by (inr z) = inr (λ k. z (inr k))

        -- the instruction is kept
        module _ (kept-d : E.one d ≡ true → all_own E f same-one own d ≡ true → ⊥) where
          through_d : read_through local d ≡ d
          through_d = by (found d local) refl
            where
              by : (o : Option ℕ) → found d local ≡ o → value_or d o ≡ d
              by None z = refl
              by (Some k) z = let t = y.entries d k z in absurd (kept-d t.0 t.2)

          off : (r : ℕ) → ¬ (r ≡ d) → ¬ (read_through local r ≡ d)
          off r n = by (found r local) refl
            where
              by : (o : Option ℕ) → found r local ≡ o → ¬ (value_or r o ≡ d)
              by None z = n
              by (Some k) z = λ q. let t = y.entries r k z in let u = low_d in absurd (omega (arith, t.3))

          agree_kept : (r : ℕ) → Live E c r → upd d v g r ≡ upd d v g' (read_through local r)
          agree_kept r l = by (ℕ_discrete r d)
            where
              by : Dec (r ≡ d) → upd d v g r ≡ upd d v g' (read_through local r)
              by (yes z) = upd_same d v g r z ∙ sym (upd_same d v g' (read_through local r) (ap (read_through local) z ∙ through_d))
              by (no n) = upd_other d v g r n ∙ y.agree r (live_before r n l) ∙ sym (upd_other d v g' (read_through local r) (off r n))

          ready-kept : Ready c local m (upd d v g) (upd d v g')
          ready-kept =
              record {
                loaded = loaded-next;
                fine = y.fine.1;
                agree = agree_kept;
                entries = y.entries;
                low = y.low.1;
                from = y.from;
                once = once_less;
              }

        -- the register gets a new number
        module _ (one_d : E.one d ≡ true) (own-d : all_own E f same-one own d ≡ true) (local_d : E.local d ≡ true) where
          abbrev local' : List (ℕ × ℕ)
          local' = local ++ ((d, m) ∷ [])

          through-below : (r : ℕ) → Live E (x ∷ c) r → ¬ (read_through local r ≡ m)
          through-below r l = by (found r local) refl
            where
              by : (o : Option ℕ) → found r local ≡ o → ¬ (value_or r o ≡ m)
              by None z = λ q. let u = live_low r l in let w = y.from in absurd (omega arith)
              by (Some k) z = λ q. let t = y.entries r k z in absurd (omega (arith, t.4))

          -- it has none yet, or isn't read any more
          fresh : Live E c d → found d local ≡ None
          fresh l = by (found d local) refl (y.once d one_d local_d own-d)
            where
              read_on : Live E c d → Read E.operands c d
              read_on (inl q) = clash _ local_d q
              read_on (inr z) = exposed-read E.operands c d z

              by : (o : Option ℕ) → found d local ≡ o → (writes_in (x ∷ c) d + counted o ≤ 1) ⊎ (¬ (Read E.operands (x ∷ c) d)) → o ≡ None
              by None z w = refl
              by (Some k) z (inl w) =
                  let t : writes_in (x ∷ c) d ≡ 1 + writes_in c d = writes_one d ∙ ap (λ b. cond b 1 0 + writes_in c d) (eq-eqb d d refl) in
                  absurd (omega arith)
              by (Some k) z (inr w) = absurd (w (inr (read_on l)))

          agree_new : (r : ℕ) → Live E c r → upd d v g r ≡ upd m v g' (read_through local' r)
          agree_new r l = by (ℕ_discrete r d)
            where
              by : Dec (r ≡ d) → upd d v g r ≡ upd m v g' (read_through local' r)
              by (yes z) =
                  let n = found-new d m local (fresh (subst (Live E c) z l)) in
                  upd_same d v g r z ∙ sym (upd_same m v g' (read_through local' r) (ap (read_through local') z ∙ ap (value_or d) n))
              by (no n) =
                  let b = live_before r n l in
                  let q : read_through local' r ≡ read_through local r = ap (value_or r) (found-other d m local r n) in
                  upd_other d v g r n ∙ y.agree r b ∙ ap g' (sym q)
                  ∙ sym (upd_other m v g' (read_through local' r) (λ w. through-below r b (sym q ∙ w)))

          entries-new : (r k : ℕ) → found r local' ≡ Some k
              → (E.one r ≡ true) × (E.local r ≡ true) × (all_own E f same-one own r ≡ true) × (n₀ ≤ k) × (k < suc m)
          entries-new r k q = by (ℕ_discrete r d) (found r local) refl
            where
              was : (j : ℕ) → found r local ≡ Some j → j ≡ k → (E.one r ≡ true) × (E.local r ≡ true) × (all_own E f same-one own r ≡ true)
                  × (n₀ ≤ k) × (k < suc m)
              was j z w = let t = y.entries r j z in (t.0, t.1, t.2, omega (arith, t.3), omega (arith, t.4))

              by : Dec (r ≡ d) → (o : Option ℕ) → found r local ≡ o
                  → (E.one r ≡ true) × (E.local r ≡ true) × (all_own E f same-one own r ≡ true) × (n₀ ≤ k) × (k < suc m)
              by (yes w) None z =
                  let t : found r local' ≡ Some m = subst (λ u. found u local' ≡ Some m) (sym w)
                  (found-new d m local (subst (λ u. found u local ≡ None) w z)) in
                  let e : m ≡ k = cc in
                  let u = y.from in
                  (ap E.one w ∙ one_d, ap E.local w ∙ local_d, ap (all_own E f same-one own) w ∙ own-d, omega arith, omega arith)
              by (no n) None z = clash_some q (found-other d m local r n ∙ z)
              by w (Some j) z = let t = found-old d m local r j z in was j z (cc)

          once_new : (r : ℕ) → E.one r ≡ true → E.local r ≡ true → all_own E f same-one own r ≡ true
              → (writes_in c r + renumberings r local' ≤ 1) ⊎ (¬ (Read E.operands c r))
          once_new r p i q = by (y.once r p i q) (ℕ_discrete r d)
            where
              most : (o : Option ℕ) → counted o ≤ 1
              most None = omega arith
              most (Some k) = omega arith

              by : (writes_in (x ∷ c) r + renumberings r local ≤ 1) ⊎ (¬ (Read E.operands (x ∷ c) r)) → Dec (r ≡ d)
                  → (writes_in c r + renumberings r local' ≤ 1) ⊎ (¬ (Read E.operands c r))
              by (inl z) (yes w) =
                  let t : writes_in (x ∷ c) r ≡ 1 + writes_in c r = writes_one r ∙ ap (λ b. cond b 1 0 + writes_in c r) (eq-eqb r d w) in
                  inl (omega (arith, most (found r local')))
              by (inl z) (no n) = inl (omega (arith, writes_one r, ap counted (found-other d m local r n)))
              by (inr z) w = inr (λ k. z (inr k))

          ready-new : Ready c local' (suc m) (upd d v g) (upd m v g')
          ready-new =
              record {
                loaded = loaded-next;
                fine = y.fine.1;
                agree = agree_new;
                entries = entries-new;
                low = y.low.1;
                from = let u = y.from in omega arith;
                once = once_new;
              }

        -- a single constant is left out: its register holds the value already
        module _ (n : ℕ) (one_d : E.one d ≡ true) (constant-d : constant_of E.address x.inst ≡ Some n) where
          single_d : E.single d ≡ Some n
          single_d = y.fine.0 d (rw s.one (inl refl)) one_d ∙ constant-d

          value-is : v ≡ n
          value-is = let t = sym (s.does_write g) ∙ constant_does E x n g constant-d in cc

          agree_out : (r : ℕ) → Live E c r → upd d v g r ≡ g' (read_through local r)
          agree_out r l = by (ℕ_discrete r d)
            where
              by : Dec (r ≡ d) → upd d v g r ≡ g' (read_through local r)
              by (yes z) =
                  upd_same d v g r z ∙ value-is ∙ sym (y.loaded d n single_d)
                  ∙ y.agree d (inl (E.single_shared d n single_d)) ∙ ap (λ w. g' (read_through local w)) (sym z)
              by (no w) = upd_other d v g r w ∙ y.agree r (live_before r w l)

          ready_out : Ready c local m (upd d v g) g'
          ready_out =
              record {
                loaded = loaded-next;
                fine = y.fine.1;
                agree = agree_out;
                entries = y.entries;
                low = y.low.1;
                from = y.from;
                once = once_less;
              }

        pass : (w : How) → Way E f same-one own x w
            → ((local : List (ℕ × ℕ)) (m : ℕ) (g g' : Regs) → Ready c local m g g' → Sim c (copy_from f own c local m) g g')
            → Sim (x ∷ c) (place w x local m (copy_from f own c)) g g'
        pass w (way_out e n p q z) ih =
            let i : e ≡ d = in_d e (rw p (inl refl)) in
            ahead _ _ _ _ (at c (upd d v g) h) _ old-step refl (ih local m (upd d v g) g' (ready_out n (ap E.one (sym i) ∙ q) z))
        pass w (way_new e p q z k) ih =
            subst (λ e. Sim (x ∷ c) (renamed local (written e m) x ∷ copy_from f own c (local ++ ((e, m) ∷ [])) (suc m)) g g') (sym i)
            (abreast _ _ _ _ (at c (upd d v g) h) _ (at c' (upd m v g') h) old-step
            (new-step (written d m) c' ∙ ap (λ w. at c' (upd w v g') h) to_m) refl refl
            (weigh E κ rs rs' P P' x (renamed local (written d m) x) c c' g g' h h (sym (copy_does (written d m))))
            (ih (local ++ ((d, m) ∷ [])) (suc m) (upd d v g) (upd m v g') (ready-new one_d (ap (all_own E f same-one own) (sym i) ∙ z) local_d)))
          where
            c' : List Code
            c' = copy_from f own c (local ++ ((d, m) ∷ [])) (suc m)

            i : e ≡ d
            i = in_d e (rw p (inl refl))

            to_m : written d m d ≡ m
            to_m = rw (eq-eqb d d refl)

            one_d : E.one d ≡ true
            one_d = ap E.one (sym i) ∙ q

            local_d : E.local d ≡ true
            local_d = E.one_local d one_d (y.fine.0 d (rw s.one (inl refl)) one_d ∙ k)
        pass w (way_kept k) ih =
            abreast _ _ _ _ (at c (upd d v g) h) _ (at (copy_from f own c local m) (upd d v g') h) old-step
            (new-step (λ r. r) (copy_from f own c local m)) refl refl
            (weigh E κ rs rs' P P' x (renamed local (λ r. r) x) c (copy_from f own c local m) g g' h h (sym (copy_does (λ r. r))))
            (ih local m (upd d v g) (upd d v g') (ready-kept (k d (rw s.one (inl refl)))))

      -- the last instruction leaves the block
      left : (e : Effect) → Leaves e → (ds ds' : List ℕ) → Same E κ rs rs' P P' (after E.outside E.address (code E rs P) e ds [] g h)
          (after E.outside E.address (code E rs' P') e ds' [] g' h)
      left (writes vs) t ds ds' = absurd t
      left (goes b) t ds ds' = entering b g g' h y.loaded meets
      left (ends e) t ds ds' = both h e
      left (asks a) t ds ds' = absurd t

      finish : Last E x → (w : How) → Way E f same-one own x w → Sim (x ∷ []) (place w x local m (copy_from f own [])) g g'
      unfolding copy_from
      finish l w (way_out e n p q z) = absurd (subst (In e) l.none (rw p (inl refl)))
      finish l w (way_new e p q z k) = absurd (subst (In e) l.none (rw p (inl refl)))
      finish l w (way_kept k) =
          together _ _ _ _ _ (weigh E κ rs rs' P P' x (renamed local (λ r. r) x) [] [] g g' h h (sym same))
          (subst₂ (Same E κ rs rs' P P') (sym (step_is E rs P x [] g h))
          (sym (step_is E rs' P' (renamed local (λ r. r) x) [] g' h
          ∙ ap (λ e. after E.outside E.address (code E rs' P') e (defs_at (renamed local (λ r. r) x)) [] g' h) same))
          (left (does E x g) (l.leaves g) _ _))
        where
          same : does E (renamed local (λ r. r) x) g' ≡ does E x g
          same = renamed-does E (read_through local) (λ r. r) x l.unlisted g g' same_reads

    -- the copy of some code that is small
    pub copy_runs : (c : List Code) → Small E c → (local : List (ℕ × ℕ)) (m : ℕ) (g g' : Regs) → Ready c local m g g' → Sim c (copy_from f own c local m) g g'
    unfolding copy_from
    copy_runs [] k local m g g' y = absurd k
    copy_runs (x ∷ []) k local m g g' y = finish x [] local m g g' y k (how_of f own x.inst) (way_last E f same-one own x k)
    copy_runs (x ∷ z ∷ c) k local m g g' y =
        pass x (z ∷ c) local m g g' y k.0 (how_of f own x.inst) (way_silent E f same-one own x k.0)
        (λ local m g g' y. copy_runs (z ∷ c) k.1 local m g g' y)
