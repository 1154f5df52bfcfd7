-- The copy of what is left of some code, one instruction more.
use Prim.Native.Nat.{ℕ, suc, ◌+◌, ◌≤◌, ◌<◌}
use native.Mathlib.Numerals.{add-one}
use native.Mathlib.Nat.{add-zero, add_assoc}
use native.Mathlib.Omega.{arith}
use mathlib.Core.Path.{◌≡◌, refl, sym, ap, ◌∙◌}
use mathlib.Core.List.{List, [], ◌∷◌, ◌++◌, map, map-append, append-nil, append_assoc}
use Rattle.std.proofs.Common.{Option}
use Rattle.std.proofs.lemmas.List.{length-take-le}
use lib.ListN.{length, length-append, get_or, drop, drop_of_length-le}
use lib.Seq.{drop-cons}
use Rattle.inst.specs.declared.Code.{Code}
use Rattle.inst.specs.declared.Reg.{Reg}
use Rattle.steps.specs.Facts.{Facts}
use Rattle.steps.specs.Copy as s
use Rattle.facts.specs.Storage.{facts_in}
use Rattle.copy.specs.declared.copied.Copied.{Copied}
use Rattle.copy.specs.Storage.{codes_in, pairs_of, local_in, olds_in, with_old, taking, Placed, CopyOf}

-- the lengths of a copy's lists are its counts
codes-length : (z : Copied) → length (codes_in z) ≡ z.n
codes-length z = length-take-le z.n z.code (omega (arith, z.four_codes, z.fits))

pairs-length : (z : Copied) → length (pairs_of z) ≡ z.fresh
pairs-length z = length-take-le z.fresh z.given (omega (arith, z.four_pairs, z.fits, z.each_writes))

-- an instruction placed
module _ (a : Copied) (x : Code) (m : ℕ) where
  pub placed-left : {z : Copied} → codes_in z ≡ codes_in a → pairs_of z ≡ pairs_of a → Placed a s.left_out x m z
  placed-left {z} f g =
      record {
        code = λ rest. rw (add-zero m, f, g);
        olds = rw g;
        n_le = omega (arith, codes-length z, codes-length a, ap (λ (l : List Code). length l) f);
        fresh-is = omega (arith, pairs-length z, pairs-length a, ap (λ (l : List (Reg × Reg)). length l) g);
      }

  pub placed-kept : {y : Code} {z : Copied} → y ≡ s.renamed (local_in a) (λ r. r) x → codes_in z ≡ codes_in a ++ (y ∷ []) → pairs_of z ≡ pairs_of a
      → Placed a s.kept x m z
  placed-kept {y} {z} q f g =
      record {
        code = λ rest. rw (f, g, add-zero m, ← q) (sym (append_assoc (codes_in a) (y ∷ []) (rest (local_in a) m)));
        olds = rw g;
        n_le = omega (arith, codes-length z, codes-length a, ap (λ (l : List Code). length l) f, length-append (codes_in a) (y ∷ []));
        fresh-is = omega (arith, pairs-length z, pairs-length a, ap (λ (l : List (Reg × Reg)). length l) g);
      }

  pub placed-new : {y : Code} {z : Copied} (d k : Reg) → k.0 ≡ m → y ≡ s.renamed (local_in a) (s.written d.0 m) x
      → codes_in z ≡ codes_in a ++ (y ∷ []) → pairs_of z ≡ pairs_of a ++ ((d, k) ∷ []) → Placed a (s.renumbered d.0) x m z
  placed-new {y} {z} d k p q f g =
      let local = local_in a ++ ((d.0, m) ∷ []) in
      record {
        code = λ rest.
            rw (f, g, map-append {B = ℕ × ℕ} (λ (z : Reg × Reg). (z.0.0, z.1.0)) (pairs_of a) ((d, k) ∷ []), p, add-one m, ← q)
            (sym (append_assoc (codes_in a) (y ∷ []) (rest local (suc m))));
        olds = rw g (map-append (λ (z : Reg × Reg). z.0.0) (pairs_of a) ((d, k) ∷ []));
        n_le = omega (arith, codes-length z, codes-length a, ap (λ (l : List Code). length l) f, length-append (codes_in a) (y ∷ []));
        fresh-is = omega (arith, pairs-length z, pairs-length a, ap (λ (l : List (Reg × Reg)). length l) g, length-append (pairs_of a) ((d, k) ∷ []));
      }

-- the kinds of some registers
abbrev kinds_for : Facts → List ℕ → List ℕ
kinds_for f l = map (λ d. get_or f.registers d 0) l

kinds-step : (f : Facts) (own : ℕ → ℕ) (how : s.How) (l ks : List ℕ) → kinds_for f l ++ s.kind_for f own how ks ≡ kinds_for f (with_old how l) ++ ks
kinds-step f own s.left_out l ks = refl
kinds-step f own (s.renumbered d) l ks =
    sym (rw (map-append (λ d. get_or f.registers d 0) l (d ∷ [])) (append_assoc (kinds_for f l) (get_or f.registers d 0 ∷ []) ks))
kinds-step f own s.kept l ks = refl

-- z, and the copy of c from place k on, are the copy of c
pub record Left (t : List ℕ) (c : List Code) (m k : ℕ) (z : Copied) : Type 0 where
  pub code : (body : Option ℕ) (budget : ℕ)
      → codes_in z ++ s.copy_from (facts_in t body budget) (s.own_uses c) (drop k c) (local_in z) (m + z.fresh) ≡ s.copy_of (facts_in t body budget) c m
  pub kinds : (body : Option ℕ) (budget : ℕ)
      → kinds_for (facts_in t body budget) (olds_in z) ++ s.kinds_given (facts_in t body budget) (s.own_uses c) (drop k c) ≡ s.kinds_of (facts_in t body budget) c

module _ (t : List ℕ) (c : List Code) (m : ℕ) (z : Copied) where
  pub left-start : z.n ≡ 0 → z.fresh ≡ 0 → Left t c m 0 z
  left-start e n =
      record {
        code = λ body budget. rw (e, n, add-zero m);
        kinds = λ body budget. rw n;
      }

  module _ (k : ℕ) (l : Left t c m k z) where
    pub left-done : length c ≤ k → z.n ≤ 4 → z.fresh ≤ z.n → CopyOf t c m z
    unfolding s.copy_from s.kinds_given
    left-done h n r =
        let none : drop k c ≡ [] = drop_of_length-le c h in
        record {
          code = λ body budget. sym (append-nil (codes_in z)) ∙ (rw none at (l.code body budget));
          kinds = λ body budget. sym (append-nil (kinds_for (facts_in t body budget) (olds_in z))) ∙ (rw none at (l.kinds body budget));
          n_le = n;
          fresh_le = r;
        }

    module _ (y : Copied) (how : s.How) (x d : Code) (h : k < length c) (q : x ≡ get_or c k d)
        (w : (body : Option ℕ) (budget : ℕ) → how ≡ s.how_of (facts_in t body budget) (s.own_uses c) x.inst)
        (p : Placed z how x (m + z.fresh) y) where
      next : drop k c ≡ x ∷ drop (k + 1) c
      next = rw (add-one k, q) (drop-cons c k d h)

      pub left_step : Left t c m (k + 1) y
      unfolding s.copy_from s.kinds_given
      left_step =
          record {
            code = λ body budget.
                let f = facts_in t body budget in
                let own = s.own_uses c in
                ap (λ (n : ℕ). codes_in y ++ s.copy_from f own (drop (k + 1) c) (local_in y) n)
                (ap (λ (n : ℕ). m + n) p.fresh-is ∙ sym (add_assoc m z.fresh (taking how)))
                ∙ sym (p.code (s.copy_from f own (drop (k + 1) c)))
                ∙ ap (λ (g : s.How). codes_in z ++ s.place g x (local_in z) (m + z.fresh) (s.copy_from f own (drop (k + 1) c))) (w body budget)
                ∙ (rw next at (l.code body budget));
            kinds = λ body budget.
                let f = facts_in t body budget in
                let own = s.own_uses c in
                ap (λ (o : List ℕ). kinds_for f o ++ s.kinds_given f own (drop (k + 1) c)) p.olds
                ∙ sym (kinds-step f own how (olds_in z) (s.kinds_given f own (drop (k + 1) c)))
                ∙ ap (λ (g : s.How). kinds_for f (olds_in z) ++ s.kind_for f own g (s.kinds_given f own (drop (k + 1) c))) (w body budget)
                ∙ (rw next at (l.kinds body budget));
          }
