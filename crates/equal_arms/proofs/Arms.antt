-- Where the blocks lie apart, what is done to the bytes is what the definition does to the blocks, and canonical records stay so.
use Prim.Native.Nat.{ℕ, zero, suc, ◌/◌, ◌≤◌, ◌<◌, ◌^◌}
use native.Mathlib.Omega.{arith}
use mathlib.Core.Path.{◌≡◌, refl, sym, ap, ◌∙◌}
use mathlib.Core.Bool.{Bool, true, false}
use mathlib.Core.List.{List, []}
use borrow.Author.Tests.{lt-ltb}
use lib.Dec.{eqb}
use lib.ListN.{length, get_or}
use Rattle.records.specs.Record.{record_at}
use Rattle.put_record.specs.Store.{Bytes}
use Rattle.inst.specs.declared.Code.{Code}
use Rattle.inst.specs.declared.Inst.TheVariants as i
use Rattle.codec.specs.Codec.{block_of, in_range}
use Rattle.ends.specs.declared.End.{End}
use Rattle.ends.specs.declared.End.TheVariants as e
use Rattle.ends.specs.Ends.{end_of}
use Rattle.blocks.specs.Blocks.{blocks_of, Canonical}
use Rattle.blocks.specs.Rewrite.{Apart, Tiled}
use Rattle.blocks.proofs.Bytes.{end-bytes, end-length, block-range}
use Rattle.blocks.proofs.Parts.{length-blocks}
use Rattle.blocks.proofs.Apart.{end_codes, end-canonical, tiled-apart}
use Rattle.steps.specs.EqualArms as g
use Rattle.equal_arms.specs.Joined.{Joined, joined, arms_of, join_if, join_end, join_arms, join_from, equal_arms_in}
use Rattle.equal_arms.proofs.Reach.{Named, end-named, reached-range}

pub in-range : (to : ℕ) → to < 2 ^ 32 → in_range (i.Br (block_of to)) ≡ true
unfolding in_range
in-range to h = rw (lt-ltb to (2 ^ 32) h)

-- a code of bytes that holds n records
pub record Sound (n : ℕ) (s : Joined) : Type 0 where
  pub bytes : Bytes s.code
  pub fit : n ≤ length s.code / 32

module _ (table : List ℕ) (n : ℕ) (a : Apart n table) where
  -- what every "write Br there" keeps is kept
  module _
      (Q : Joined → Type 0)
      (sound : (s : Joined) → Q s → Sound n s)
      (q : (s : Joined) (k to : ℕ) → to < 2 ^ 32 → Q s → Q (join_if table true k to s))
    where
      keep_if : (t : Bool) (s : Joined) (k to : ℕ) → to < 2 ^ 32 → Q s → Q (join_if table t k to s)
      keep_if true s k to h w = q s k to h w
      keep_if false s k to h w = w

      keep_end : (x : End) (s : Joined) (k : ℕ) → Named x → Q s → Q (join_end table x k s)
      keep_end (e.Br t) s k m w = w
      keep_end (e.CondBr c t f) s k m w =
          let P = blocks_of s.code table in
          let to = reached-range P (λ b j. block-range s.code table b j (sound s w).bytes) t.0 m.0 in
          keep_if (eqb (g.reached_from P t.0) (g.reached_from P f.0)) s k (g.reached_from P t.0) to w
      keep_end (e.Case c) s k m w = w
      keep_end e.Other s k m w = w

      pub keep_arms : (s : Joined) (k : ℕ) → Q s → Q (join_arms table k s)
      unfolding join_arms
      keep_arms s k w =
          let c = get_or (blocks_of s.code table) k [] in
          keep_end (end_of c) s k (end-named c (λ j. block-range s.code table k j (sound s w).bytes)) w

      pub keep_from : (m k : ℕ) (s : Joined) → Q s → Q (join_from table m k s)
      unfolding join_from
      keep_from zero k s w = w
      keep_from (suc m) k s w = keep_from m (suc k) (join_arms table k s) (keep_arms s k w)

  sound_if : (s : Joined) (k to : ℕ) → to < 2 ^ 32 → Sound n s → Sound n (join_if table true k to s)
  sound_if s k to h w =
      let x = i.Br (block_of to) in
      record {
        bytes = end-bytes s.code (record_at table k) x w.bytes;
        fit = rw (end-length s.code (record_at table k) x) w.fit;
      }

  -- one block
  step_if : (t : Bool) (s : Joined) (k to : ℕ) → to < 2 ^ 32 → Sound n s → arms_of table (join_if table t k to s) ≡ g.join_if t k to (arms_of table s)
  step_if true s k to h w =
      ap (λ (P : List (List Code)). record { blocks = P; edited = true })
      (end_codes s.code table n a w.fit w.bytes k (i.Br (block_of to)) (in-range to h))
  step_if false s k to h w = refl

  step_end : (x : End) (s : Joined) (k : ℕ) → Named x → Sound n s → arms_of table (join_end table x k s) ≡ g.join_end x k (arms_of table s)
  step_end (e.Br t) s k m w = refl
  step_end (e.CondBr c t f) s k m w =
      let P = blocks_of s.code table in
      let to = reached-range P (λ b j. block-range s.code table b j w.bytes) t.0 m.0 in
      step_if (eqb (g.reached_from P t.0) (g.reached_from P f.0)) s k (g.reached_from P t.0) to w
  step_end (e.Case c) s k m w = refl
  step_end e.Other s k m w = refl

  step-arms : (s : Joined) (k : ℕ) → Sound n s → arms_of table (join_arms table k s) ≡ g.join_arms k (arms_of table s)
  unfolding join_arms g.join_arms
  step-arms s k w =
      let c = get_or (blocks_of s.code table) k [] in
      step_end (end_of c) s k (end-named c (λ j. block-range s.code table k j w.bytes)) w

  step_from : (m k : ℕ) (s : Joined) → Sound n s → arms_of table (join_from table m k s) ≡ g.join_from m k (arms_of table s)
  unfolding join_from g.join_from
  step_from zero k s w = refl
  step_from (suc m) k s w =
      step_from m (suc k) (join_arms table k s) (keep_arms (Sound n) (λ s w. w) sound_if s k w)
      ∙ ap (g.join_from m (suc k)) (step-arms s k w)

  module _ (code : List ℕ) (fit : n ≤ length code / 32) (bytes : Bytes code) where
    -- the blocks are the definition's
    pub equal_arms_lem : arms_of table (equal_arms_in table code) ≡ g.equal_arms (blocks_of code table)
    equal_arms_lem =
        step_from (length table / 32) 0 (joined code false) (record { bytes = bytes; fit = fit })
        ∙ ap (λ (m : ℕ). g.join_from m 0 (arms_of table (joined code false))) (sym (length-blocks code table))

    -- canonical records stay canonical
    pub arms-canonical : Canonical code table → Canonical (equal_arms_in table code).code table
    arms-canonical c = (keep_from Q (λ s w. w.0) keep (length table / 32) 0 (joined code false) (record { bytes = bytes; fit = fit }, c)).1
      where
        Q : Joined → Type 0
        Q s = Sound n s × Canonical s.code table

        keep : (s : Joined) (k to : ℕ) → to < 2 ^ 32 → Q s → Q (join_if table true k to s)
        keep s k to h w =
            let r = w.0 in
            (sound_if s k to h r, end-canonical s.code table n a r.fit r.bytes k (i.Br (block_of to)) (in-range to h) w.1)

-- the same of blocks that tile
pub tiled-arms : (code table : List ℕ) → Tiled code table → Bytes code → arms_of table (equal_arms_in table code) ≡ g.equal_arms (blocks_of code table)
tiled-arms code table t b = equal_arms_lem table (length code / 32) (tiled-apart code table t) code (omega arith) b
