-- A Br gives way to the code of its target: the runs stay related, and the program stays good.
use Prim.Native.Nat.{ℕ, ◌+◌, ◌≤◌, ◌<◌}
use mathlib.Core.Path.{◌≡◌, refl, sym, ap, subst, ◌∙◌}
use mathlib.Core.Logic.{◌⊎◌, inl, inr}
use mathlib.Core.List.{List, [], ◌∷◌, ◌++◌, append-nil}
use Rattle.std.proofs.Common.{Some}
use mathlib.Core.Bool.{Bool, true, false, ◌&&◌}
use native.Mathlib.Omega.{arith}
use lib.Dec.{T, ltb, leb, leb→le}
use lib.ListN.{length, get_or, set}
use borrow.Author.Clash.{clash}
use borrow.Author.Tests.{eq-eqb}
use Rattle.std.proofs.lemmas.Bool.{and_parts}
use Rattle.inst.specs.declared.Code.{Code}
use Rattle.inst.specs.declared.BlockId.{BlockId}
use Rattle.roles.specs.Roles.{uses_of, list_of, no_list}
use Rattle.procedure.specs.Lists.{found}
use Rattle.procedure.specs.Counts.{writes_in}
use Rattle.procedure.proofs.Laws.{times_le}
use Rattle.ends.specs.declared.End.TheVariants as e
use Rattle.ends.specs.Ends.{end_of, front}
use Rattle.steps.specs.Small.{copyable, small}
use Rattle.steps.specs.Facts.{Facts}
use Rattle.steps.specs.Copy.{own_uses, copy_from, kinds_of}
use Rattle.machine.specs.Machine.{Regs, at}
use Rattle.demand.specs.Setting.{In, Each, Setting, reads_at, Written, Read, Exposed, Hidden, Fine, Loaded}
use Rattle.demand.proofs.Basics.{clash_some}
use Rattle.demand.proofs.Stretches.{ahead}
use Rattle.demand.proofs.Codes.{each_append, each_left, front-each, each-front, exposed-left}
use Rattle.demand.proofs.Codes.{exposed_split, read_split, Ended, ends-in, in-range, front-append}
use Rattle.demand.proofs.Edit.{Meet, Live, meet, Tail, edited}
use Rattle.demand.proofs.Branches.{br_other, br_does, Low, NoEnd, Good, set_good, part-blocks}
use Rattle.demand.proofs.Jumps.{goes-is}
use Rattle.demand.proofs.Rewrites.{Edited, always, empty_end}
use Rattle.demand.proofs.Copied.{Small, small_is, all_own}
use Rattle.demand.proofs.Joined.{Ready, copy_runs}
use Rattle.demand.proofs.CopyKept.{copy-hidden, Copy, copied_well}
use Rattle.demand.proofs.Counted.{times_none, times_some, writes-append, unwritten, front-writes, front_read, readers_in, readers_append}
use Rattle.demand.proofs.CopySparse.{owned_unwritten, owned_unread, copy_read, copy_some, copy_balanced}
use Rattle.demand.proofs.Sparse.{Quiet, Sparse, sparse_set, once_small}

module _ (E : Setting) where
  unlisted_reads : (x : Code) → list_of x.inst ≡ no_list → reads_at E.operands x ≡ uses_of x.inst
  unlisted_reads x u = rw u (append-nil (uses_of x.inst))

  -- only its end reads d, and once
  own_one : (c : List Code) (d : ℕ) → Small E c → ¬ (Read E.operands (front c) d) → Read E.operands c d → own_uses c d ≡ 1
  unfolding own_uses front
  own_one [] d k n r = absurd k
  own_one (x ∷ []) d k n (inl r) =
      let i = subst (In d) (unlisted_reads x k.unlisted) r in
      omega (arith, times_some d (uses_of x.inst) i, times_le d (uses_of x.inst), k.few)
  own_one (x ∷ []) d k n (inr r) = absurd r
  own_one (x ∷ y ∷ c) d k n (inl r) = absurd (n (inl r))
  own_one (x ∷ y ∷ c) d k n (inr r) =
      omega (
        arith,
        times_none d (uses_of x.inst) (λ i. n (inl (subst (In d) (sym (unlisted_reads x k.0.unlisted)) i))),
        own_one (y ∷ c) d k.1 (λ i. n (inr i)) r,
      )

  module _ (f : Facts) (same-one : (r : ℕ) → (ltb r (length f.registers) && f.single r) ≡ E.one r) where
    abbrev pub AllSparse : List (List Code) → Type 0
    AllSparse P = (d : ℕ) → E.one d ≡ true → E.local d ≡ true → Sparse E f P d

    module _ (m : ℕ) (above : E.size ≤ m) (P : List (List Code)) (good : Good E m P) (sparse : AllSparse P)
        (a : ℕ) (l : BlockId) (at-end : end_of (get_or P a []) ≡ e.Br l) (is-small : small (get_or P l.0 []) ≡ true) where
      abbrev pre : List Code
      pre = front (get_or P a [])

      abbrev c : List Code
      c = get_or P l.0 []

      abbrev own : ℕ → ℕ
      own = own_uses c

      abbrev copy : List Code
      copy = copy_from f own c [] m

      abbrev P' : List (List Code)
      P' = set P a (pre ++ copy)

      end : Ended (get_or P a [])
      end = ends-in (get_or P a []) (e.Br l) at-end (br_other l)

      range : a < length P
      range = in-range P a (λ q. br_other l (sym at-end ∙ ap end_of q ∙ empty_end))

      short : (length c ≤ 4) × Small E c
      unfolding small
      short = let t = and_parts (leb (length c) 4) (copyable c) is-small in (leb→le (length c) 4 (subst T (sym t.0) tt), small_is E c t.1)

      well : Copy E f same-one own (m + length (kinds_of f c)) copy
      well = copied_well E f same-one own m above c short.1 (good.fine l.0) (good.low l.0)

      pre_fine : Each (Fine E) pre
      pre_fine = each_left (Fine E) pre (end.last ∷ []) (subst (Each (Fine E)) end.is (good.fine a))

      join_hidden : Hidden E (pre ++ copy)
      join_hidden r z = by (exposed_split E.operands pre copy r z)
        where
          from : Exposed E.operands c r ⊎ (E.local r ≡ false) → E.local r ≡ false
          from (inl k) = good.hidden l.0 r k
          from (inr k) = k

          by : Exposed E.operands pre r ⊎ ((¬ (Written pre r)) × Exposed E.operands copy r) → E.local r ≡ false
          by (inl k) = good.hidden a r (subst (λ c. Exposed E.operands c r) (sym end.is) (exposed-left E.operands pre (end.last ∷ []) r k))
          by (inr k) = from (copy-hidden E f same-one own c short.1 (good.fine l.0) m r k.1)

      more-low : (d : List Code) → Each (Low E m) d → Each (Low E (m + length (kinds_of f c))) d
      more-low [] p = tt
      more-low (x ∷ d) p = (λ r k. let y = p.0 r k in omega arith, more-low d p.1)

      join_good : Good E (m + length (kinds_of f c)) P'
      join_good =
          set_good E m P good a range (m + length (kinds_of f c)) (pre ++ copy) (omega arith)
          (each_append (Fine E) pre copy pre_fine well.fine) join_hidden
          (each_append (Low E (m + length (kinds_of f c))) pre copy
          (more-low pre (each_left (Low E m) pre (end.last ∷ []) (subst (Each (Low E m)) end.is (good.low a)))) well.low)
          (each-front (NoEnd E) pre copy (front-each (NoEnd E) (get_or P a []) (good.formed a)) well.formed)

      ready : (g g' : Regs) → Loaded E g → Meet E g g' → Ready E f same-one own m above c [] m g g'
      unfolding found
      ready g g' ld mt =
          record {
            loaded = ld;
            fine = good.fine l.0;
            agree = λ r z. mt r (shared r z);
            entries = λ r k q. clash_some q refl;
            low = good.low l.0;
            from = omega arith;
            once = λ r p i q. once r (once_small E f P r l.0 (sparse r p i) short.1 short.0);
          }
        where
          shared : (r : ℕ) → Live E c r → E.local r ≡ false
          shared r (inl q) = q
          shared r (inr z) = good.hidden l.0 r z

          once : (r : ℕ) → (writes_in c r ≤ 1) ⊎ (¬ (Read E.operands c r)) → (writes_in c r + 0 ≤ 1) ⊎ (¬ (Read E.operands c r))
          once r (inl q) = inl (omega arith)
          once r (inr q) = inr q

      tail : (κ : ℕ) (rs rs' : List ℕ) → Tail E κ rs rs' P P' (λ g. Unit {0}) (end.last ∷ []) copy
      tail κ rs rs' g g' h ld q z =
          ahead _ _ _ _ (at c g h) _ (goes-is E κ rs rs' P P' rs P end.last [] g h l.0 (br_does E end.last l g (end.view ∙ at-end))) refl
          (copy_runs E f same-one own m above κ rs rs' P P' h c short.1 [] m g g' (ready g g' ld (meet E copy g g' z)))

      -- "Else the Br is replaced by l's code."
      pub joins_code : Edited E m (m + length (kinds_of f c)) P P'
      joins_code =
          record {
            good = join_good;
            shortens = λ κ rs rs' b g h ld.
                edited E κ rs rs' P P' (λ g. Unit {0})
                (part-blocks E m P good a range κ rs rs' (λ g. Unit {0}) pre (end.last ∷ []) copy end.is pre_fine join_hidden
                (λ g l. always E pre g) (tail κ rs rs'))
                b g g h ld (λ r z. refl);
          }

      -- the copy isn't empty, so the end of the joined code is the copy's
      front-joined : front (pre ++ copy) ≡ pre ++ front copy
      front-joined = by copy (copy_some E f same-one own c short.1 [] m)
        where
          by : (d : List Code) → ¬ (d ≡ []) → front (pre ++ d) ≡ pre ++ front d
          by [] n = absurd (n refl)
          by (x ∷ d) n = front-append pre x d

      none-given : (r k : ℕ) → found r [] ≡ Some k → (m ≤ k) × (all_own E f same-one own r ≡ true)
      unfolding found
      none-given r k q = clash_some q refl

      module _ (d : ℕ) (one_d : E.one d ≡ true) (local_d : E.local d ≡ true) where
        abbrev owned : Bool
        owned = all_own E f same-one own d

        abbrev W : List Code → ℕ
        W c = writes_in c d

        abbrev R : List Code → ℕ
        R c = readers_in E.operands d c

        join_busy : ((b : ℕ) → W (front (get_or P b [])) ≤ R (front (get_or P b []))) → W (front (pre ++ copy)) ≤ R (front (pre ++ copy))
        join_busy k = rw front-joined (by owned refl)
          where
            sums : W (front copy) ≤ R (front copy) → W (pre ++ front copy) ≤ R (pre ++ front copy)
            sums q = let z = k a in omega (arith, writes-append pre (front copy) d, readers_append E.operands d pre (front copy))

            by : (t : Bool) → owned ≡ t → W (pre ++ front copy) ≤ R (pre ++ front copy)
            by true q =
                sums (omega (
                  arith,
                  front-writes copy d,
                  unwritten copy d (owned_unwritten E f same-one own m above d one_d local_d q c short.1 [] m (omega arith)),
                ))
            by false q =
                let b = copy_balanced E f same-one own m above d one_d local_d q c short.1 [] m (omega arith) none-given in
                sums (omega (arith, b.writes, b.readers, k l.0))

        -- the copy doesn't read it
        copy_unread : ((b : ℕ) → Quiet E f d (get_or P b [])) → ¬ (Read E.operands copy d)
        copy_unread k = by owned refl
          where
            by : (t : Bool) → owned ≡ t → ¬ (Read E.operands copy d)
            by true q =
                owned_unread E f same-one own m above d one_d local_d q c short.1 (good.fine l.0) [] m (omega arith) none-given
                (λ n z. clash _ local_d (good.hidden l.0 d z))
            by false q = λ z.
                let r = copy_read E f same-one own m above d one_d local_d c short.1 [] m (omega arith) none-given z in
                let u = ((k l.0).ends r).1 in
                let v = own_one c d short.1 (k l.0).unread r in
                clash _ (eq-eqb (f.uses d) (own d) (u ∙ sym v)) q

        join_quiet : ((b : ℕ) → Quiet E f d (get_or P b [])) → Quiet E f d (pre ++ copy)
        join_quiet k =
            record {
              unread = λ z. at_front (read_split E.operands pre (front copy) d (subst (λ c. Read E.operands c d) front-joined z));
              ends = λ z. at-end' (read_split E.operands pre copy d z);
            }
          where
            at_front : Read E.operands pre d ⊎ Read E.operands (front copy) d → ⊥
            at_front (inl z) = (k a).unread z
            at_front (inr z) = copy_unread k (front_read E.operands copy d z)

            at-end' : Read E.operands pre d ⊎ Read E.operands copy d → (W (pre ++ copy) ≤ 1) × (f.uses d ≡ 1)
            at-end' (inl z) = absurd ((k a).unread z)
            at-end' (inr z) = absurd (copy_unread k z)

      pub joins_sparse : AllSparse P'
      joins_sparse d one_d local_d =
          sparse_set E f P a (pre ++ copy) d range (join_busy d one_d local_d) (join_quiet d one_d local_d) (sparse d one_d local_d)
