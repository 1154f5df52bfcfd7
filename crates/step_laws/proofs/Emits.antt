-- Emit keeps the blocks sound, and adds no instruction.
use Prim.Native.Nat.{ℕ, suc, ◌+◌, ◌≤◌, ◌<◌, ◌^◌}
use native.Mathlib.Omega.{arith}
use mathlib.Core.Path.{◌≡◌, refl, sym, ap, ◌∙◌}
use mathlib.Core.Bool.{Bool, true, false, ◌&&◌, ◌||◌, not, cond, true≢false}
use mathlib.Core.List.{List, [], ◌∷◌, ◌++◌}
use mathlib.Core.Logic.{◌⊎◌, inl, inr}
use lib.Dec.{leb}
use lib.ListN.{length, length-append}
use Rattle.general.proofs.Booleans.{cases, and_first, or_first, or_second}
use Rattle.record_rules.specs.declared.exist.Counts.{Counts}
use Rattle.ends.specs.Ends.{terminator_of}
use Rattle.inst.specs.declared.Code.{Code}
use Rattle.inst.specs.declared.Inst.TheVariants as inst
use Rattle.codec.specs.Codec.{block_of}
use Rattle.procedure.specs.Lists.{joined}
use Rattle.ends.specs.Forms.{fixed_of, is_fixed}
use Rattle.ends.specs.Ends.{end_of}
use Rattle.steps.specs.Facts.{Facts}
use Rattle.steps.specs.Emit.{is_jump, is_last, stays, emptied, empty_from, is_rescued, rescued_of, rescues, onto_front}
use Rattle.round_trips.specs.WellFormed.{All, Ends, Sound, BlockIn}
use Rattle.round_trips.proofs.Lists.{all_append, all-turn}
use Rattle.step_laws.proofs.Blocks.{fixed_goes_on, ends-append, final_sound, br_final}

-- a block that goes is not the last
goes_on : (m : Bool) (after : List (List Code)) (c : List Code) → stays m after c ≡ false → 1 ≤ length after
unfolding stays
goes_on m after c h = by after (or_second m (is_last after) (or_first (m || is_last after) (leb (length c) 1 && not (is_jump (end_of c))) h))
  where
    by : (after : List (List Code)) → is_last after ≡ false → 1 ≤ length after
    by [] e = absurd (true≢false e)
    by (d ∷ ds) e = omega arith

pub empty_length : (b : ℕ) (marks : List Bool) (P : List (List Code)) → length (empty_from b marks P) ≡ length P
unfolding empty_from
empty_length b marks [] = refl
empty_length b [] (c ∷ cs) = refl
empty_length b (m ∷ ms) (c ∷ cs) = ap suc (empty_length (suc b) ms cs)

module _ (n : Counts) (few : n.blocks ≤ 2 ^ 32) where
  emptied-in : (b : ℕ) (c : List Code) → suc b < n.blocks → BlockIn n c → BlockIn n (emptied b c)
  emptied-in b [] i h = absurd h.ends
  emptied-in b (x ∷ c) i h =
      let t = br_final n few (suc b) i in
      record { ends = t.ends; each = (final_sound n (inst.Br (block_of (suc b))) x t h.each.0, tt) }

  pub empty_in_lem : (b : ℕ) (marks : List Bool) (P : List (List Code)) → b + length P ≡ n.blocks → All (BlockIn n) P → All (BlockIn n) (empty_from b marks P)
  unfolding empty_from
  empty_in_lem b marks [] e h = tt
  empty_in_lem b [] (c ∷ cs) e h = h
  empty_in_lem b (m ∷ ms) (c ∷ cs) e h = (by (cases (stays m cs c)), empty_in_lem (suc b) ms cs (omega arith) h.1)
    where
      by : (stays m cs c ≡ true) ⊎ (stays m cs c ≡ false) → BlockIn n (cond (stays m cs c) c (emptied b c))
      by (inl t) = rw t h.0
      by (inr t) = rw t (emptied-in b c (let i = goes_on m cs c t in omega arith) h.0)

  -- an instruction that may stand at the front of a block
  abbrev pub Before : Code → Type 0
  Before x = Sound n x × (terminator_of x.inst ≡ false)

  module _ (f : Facts) where
    rescued_goes_on : (x : Code) → is_rescued f x ≡ true → terminator_of x.inst ≡ false
    rescued_goes_on x t = fixed_goes_on x.inst (and_first (is_fixed (fixed_of x.inst)) _ t)

    rescued-in : (c : List Code) → All (Sound n) c → All Before (rescued_of f c)
    unfolding rescued_of
    rescued-in [] h = tt
    rescued-in (x ∷ c) h = by (cases (is_rescued f x)) (rescued-in c h.1)
      where
        by : (is_rescued f x ≡ true) ⊎ (is_rescued f x ≡ false) → All Before (rescued_of f c) →
            All Before (cond (is_rescued f x) (x ∷ rescued_of f c) (rescued_of f c))
        by (inl t) i = rw t ((h.0, rescued_goes_on x t), i)
        by (inr t) i = rw t i

    pub rescues-in : (marks : List Bool) (P : List (List Code)) → All (BlockIn n) P → All Before (rescues f marks P)
    unfolding rescues
    rescues-in marks [] h = tt
    rescues-in [] (c ∷ cs) h = tt
    rescues-in (m ∷ ms) (c ∷ cs) h = all_append Before (cond (stays m cs c) [] (rescued_of f c)) (rescues f ms cs) (by (stays m cs c)) (rescues-in ms cs h.1)
      where
        by : (t : Bool) → All Before (cond t [] (rescued_of f c))
        by true = tt
        by false = rescued-in c h.0.each

    -- the end is not rescued
    rescued-few : (c : List Code) → Ends c → length (rescued_of f c) + 1 ≤ length c
    unfolding rescued_of
    rescued-few [] h = absurd h
    rescued-few (x ∷ []) h = by (cases (is_rescued f x))
      where
        by : (is_rescued f x ≡ true) ⊎ (is_rescued f x ≡ false) → length (cond (is_rescued f x) (x ∷ []) []) + 1 ≤ 1
        by (inl t) = absurd (true≢false (sym h ∙ rescued_goes_on x t))
        by (inr t) = rw t (omega arith)
    rescued-few (x ∷ y ∷ c) h = by (is_rescued f x) (rescued-few (y ∷ c) h.1)
      where
        by : (t : Bool) → length (rescued_of f (y ∷ c)) + 1 ≤ suc (length c) →
            length (cond t (x ∷ rescued_of f (y ∷ c)) (rescued_of f (y ∷ c))) + 1 ≤ suc (suc (length c))
        by true i = omega arith
        by false i = omega arith

    -- a block that becomes a Br gives up its own instructions: what is rescued and the Br are no more
    pub emit-few : (b : ℕ) (marks : List Bool) (P : List (List Code)) → All (BlockIn n) P →
        length (rescues f marks P) + length (joined (empty_from b marks P)) ≤ length (joined P)
    unfolding empty_from rescues
    emit-few b marks [] h = omega arith
    emit-few b [] (c ∷ cs) h = omega arith
    emit-few b (m ∷ ms) (c ∷ cs) h =
        let k = cond (stays m cs c) [] (rescued_of f c) in
        let d = cond (stays m cs c) c (emptied b c) in
        let i = emit-few (suc b) ms cs h.1 in
        let j = by (stays m cs c) in
        let x = length-append k (rescues f ms cs) in
        let y = length-append d (joined (empty_from (suc b) ms cs)) in
        let z = length-append c (joined cs) in
        omega arith
      where
        by : (t : Bool) → length (cond t [] (rescued_of f c)) + length (cond t c (emptied b c)) ≤ length c
        by true = omega arith
        by false = rescued-few c h.0.ends

  -- at the front of block 0
  pub onto_in : (k : List Code) (P : List (List Code)) → All Before k → All (BlockIn n) P → All (BlockIn n) (onto_front k P)
  onto_in k [] h i = tt
  onto_in k (c ∷ cs) h i = (
    record {
      ends = ends-append k c (all-turn (λ x j. j.1) k h) i.0.ends;
      each = all_append (Sound n) k c (all-turn (λ x j. j.0) k h) i.0.each;
    },
    i.1,
  )

pub onto_length : (k : List Code) (P : List (List Code)) → length (onto_front k P) ≡ length P
onto_length k [] = refl
onto_length k (c ∷ cs) = refl

pub onto_few : (k : List Code) (P : List (List Code)) → length (joined (onto_front k P)) ≤ length k + length (joined P)
onto_few k [] = omega arith
onto_few k (c ∷ cs) =
    let x = length-append (k ++ c) (joined cs) in
    let y = length-append k c in
    let z = length-append c (joined cs) in
    omega arith
