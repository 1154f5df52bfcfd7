-- The copy of a sound block: no longer than the block, sound with the new registers, which are no more than its instructions.
use Prim.Native.Nat.{ℕ, suc, ◌+◌, ◌≤◌, ◌<◌, ◌^◌}
use native.Mathlib.Omega.{arith}
use mathlib.Core.Path.{◌≡◌, sym, ap, subst, ◌∙◌}
use mathlib.Core.Bool.{Bool, true, false, cond}
use mathlib.Core.List.{List, [], ◌∷◌, ◌++◌}
use lib.Dec.{eqb}
use lib.ListN.{length}
use Rattle.record_rules.specs.declared.exist.Counts.{Counts}
use Rattle.read.specs.Structure.{terminator_kind}
use Rattle.inst.specs.declared.Code.{Code}
use Rattle.ends.specs.Forms.{fixed_of}
use Rattle.ends.specs.Ends.{terminator_of}
use Rattle.steps.specs.Facts.{Facts}
use Rattle.steps.specs.Copy.{How, left_out, renumbered, kept, how_written, how_of, read_through, written, renamed, place, copy_from, kind_for, kinds_given}
use Rattle.round_trips.specs.WellFormed.{All, Ends, Sound, BlockIn}
use Rattle.round_trips.proofs.Lists.{all_append, all-turn}
use Rattle.step_laws.proofs.Names.{named, names, with_regs}
use Rattle.step_laws.proofs.Exchange.{exchange_named, exchange_range, exchange_kind}
use Rattle.step_laws.proofs.Blocks.{all_or, ends_write_none, ends-cons}
use Rattle.step_laws.proofs.Notes.{found_in}

written_in : (d k m r : ℕ) → k < m → r < m → written d k r < m
written_in d k m r i j = by (eqb r d)
  where
    by : (t : Bool) → cond t k r < m
    by true = i
    by false = j

-- an instruction with its registers renamed below m
module _ (n : Counts) (m : ℕ) (more : n.registers ≤ m) (few : m ≤ 2 ^ 32) (local : List (ℕ × ℕ)) (h : All (λ x. x.1 < m) local) where
  wide : (k : ℕ) → m ≤ k → All (λ x. x.1 < k) local
  wide k i = all-turn (λ x j. omega arith) local h

  renamed-sound : (τ : ℕ → ℕ) → ((k r : ℕ) → m ≤ k → r < k → τ r < k) → (x : Code) → Sound n x → Sound (with_regs m n) (renamed local τ x)
  renamed-sound τ t x s =
      let σ = read_through local in
      let read : (r : ℕ) → r < n.registers → σ r < m = λ r i. found_in m local h r (omega arith) in
      let write : (r : ℕ) → r < n.registers → τ r < m = λ r i. t m r (omega arith) (omega arith) in
      let word = exchange_range σ τ (found_in (2 ^ 32) local (wide (2 ^ 32) few)) (λ r. t (2 ^ 32) r few) x.inst s.range.inst in
      record {
        range = record { inst = word; stmt = s.range.stmt };
        names = names (with_regs m n) (renamed local τ x) (exchange_named σ τ n m more read write x.inst (named n x s.names));
      }

renamed-ends : (local : List (ℕ × ℕ)) (τ : ℕ → ℕ) (x : Code) → terminator_of (renamed local τ x).inst ≡ terminator_of x.inst
renamed-ends local τ x = ap terminator_kind (exchange_kind (read_through local) τ x.inst)

block-cons : (n : Counts) (x : Code) (c : List Code) → terminator_of x.inst ≡ false → Sound n x → BlockIn n c → BlockIn n (x ∷ c)
block-cons n x c t s b = record { ends = ends-cons x c t b.ends; each = (s, b.each) }

module _ (f : Facts) (own : ℕ → ℕ) (n : Counts) where
  -- what the copy of some code is, where m is the next new number
  pub record Copied (c copy : List Code) (kinds : List ℕ) (m : ℕ) : Type 0 where
    pub block : BlockIn (with_regs (m + length kinds) n) copy
    pub short : length copy ≤ length c
    pub fresh : length kinds ≤ length copy

  -- an end is kept
  end_kept : (x : Code) → terminator_of x.inst ≡ true → how_of f own x.inst ≡ kept
  unfolding how_of
  end_kept x t = ap (how_written f own (fixed_of x.inst)) (ends_write_none x.inst t)

  -- the registers named so far lie below the next new number, and all numbers are words
  pub record Room (c : List Code) (local : List (ℕ × ℕ)) (m : ℕ) : Type 0 where
    pub below : All (λ y. y.1 < m) local
    pub more : n.registers ≤ m
    pub few : m + length (kinds_given f own c) ≤ 2 ^ 32

  abbrev Going : List Code → Type 0
  Going c = (local : List (ℕ × ℕ)) (m : ℕ) → Room c local m → Copied c (copy_from f own c local m) (kinds_given f own c) m

  -- a renamed instruction among m' registers
  sound-at : (local : List (ℕ × ℕ)) (m m' : ℕ) → All (λ y. y.1 < m) local → n.registers ≤ m → m ≤ m' → m' ≤ 2 ^ 32 → (τ : ℕ → ℕ) →
      ((k r : ℕ) → m' ≤ k → r < k → τ r < k) → (x : Code) → Sound n x → Sound (with_regs m' n) (renamed local τ x)
  sound-at local m m' l more i few = renamed-sound n m' (omega arith) few local (all-turn (λ y j. omega arith) local l)

  last-copied : (x : Code) → terminator_of x.inst ≡ true → Sound n x → Going (x ∷ [])
  unfolding copy_from kinds_given
  last-copied x t s local m r = subst By (sym (end_kept x t)) kept_by r.few
    where
      By : How → Type 0
      By w = m + length (kind_for f own w []) ≤ 2 ^ 32 → Copied (x ∷ []) (place w x local m (copy_from f own [])) (kind_for f own w []) m

      kept_by : By kept
      kept_by few = record {
        block = record {
          ends = renamed-ends local (λ r. r) x ∙ t;
          each = (sound-at local m (m + 0) r.below r.more (omega arith) few (λ r. r) (λ k r i j. j) x s, tt);
        };
        short = omega arith;
        fresh = omega arith;
      }

  next-copied : (x : Code) (c : List Code) → terminator_of x.inst ≡ false → Sound n x → Going c → Going (x ∷ c)
  unfolding copy_from kinds_given
  next-copied x c t s go local m r = by (how_of f own x.inst) r.few
    where
      k : ℕ
      k = length (kinds_given f own c)

      by : (w : How) → m + length (kind_for f own w (kinds_given f own c)) ≤ 2 ^ 32 →
          Copied (x ∷ c) (place w x local m (copy_from f own c)) (kind_for f own w (kinds_given f own c)) m
      by left_out few =
          let q = go local m (record { below = r.below; more = r.more; few = few }) in
          record { block = q.block; short = let a = q.short in omega arith; fresh = q.fresh }
      by kept few =
          let q = go local m (record { below = r.below; more = r.more; few = few }) in
          let x' = renamed local (λ r. r) x in
          let s' = sound-at local m (m + k) r.below r.more (omega arith) few (λ r. r) (λ k r i j. j) x s in
          record {
            block = block-cons (with_regs (m + k) n) x' (copy_from f own c local m) (renamed-ends local (λ r. r) x ∙ t) s' q.block;
            short = let a = q.short in omega arith;
            fresh = let a = q.fresh in omega arith;
          }
      by (renumbered d) few =
          let local' = local ++ ((d, m) ∷ []) in
          let below = all_append (λ y. y.1 < suc m) local ((d, m) ∷ []) (all-turn (λ y j. omega arith) local r.below) (omega arith, tt) in
          let q = go local' (suc m) (record { below = below; more = let a = r.more in omega arith; few = omega arith }) in
          let x' = renamed local (written d m) x in
          let s' = sound-at local m (m + suc k) r.below r.more (omega arith) few (written d m) (λ k r i j. written_in d m k r (omega arith) j) x s in
          let e : suc m + k ≡ m + suc k = omega arith in
          record {
            block = block-cons (with_regs (m + suc k) n) x' (copy_from f own c local' (suc m)) (renamed-ends local (written d m) x ∙ t) s' (rw e at q.block);
            short = let a = q.short in omega arith;
            fresh = let a = q.fresh in omega arith;
          }

  pub copied-in : (c : List Code) → BlockIn n c → Going c
  copied-in c b = go c b.ends b.each
    where
      go : (c : List Code) → Ends c → All (Sound n) c → Going c
      go [] e h = absurd e
      go (x ∷ []) e h = last-copied x e h.0
      go (x ∷ y ∷ c) e h = next-copied x (y ∷ c) e.0 h.0 (go (y ∷ c) e.1 h.1)

  -- the kinds of the new registers
  pub kinds-few : (c : List Code) → length (kinds_given f own c) ≤ length c
  unfolding kinds_given
  kinds-few [] = omega arith
  kinds-few (x ∷ c) = by (how_of f own x.inst) (kinds-few c)
    where
      by : (w : How) → length (kinds_given f own c) ≤ length c → length (kind_for f own w (kinds_given f own c)) ≤ suc (length c)
      by left_out i = omega arith
      by (renumbered d) i = omega arith
      by kept i = omega arith

  pub kinds-in : All (λ k. k < 5) f.registers → (c : List Code) → All (λ k. k < 5) (kinds_given f own c)
  unfolding kinds_given
  kinds-in h [] = tt
  kinds-in h (x ∷ c) = by (how_of f own x.inst) (kinds-in h c)
    where
      by : (w : How) → All (λ k. k < 5) (kinds_given f own c) → All (λ k. k < 5) (kind_for f own w (kinds_given f own c))
      by left_out i = i
      by (renumbered d) i = (all_or (λ k. k < 5) f.registers 0 (omega arith) h d, i)
      by kept i = i
