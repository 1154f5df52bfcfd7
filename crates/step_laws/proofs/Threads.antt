-- Every edit of Thread keeps the blocks sound and the counts within their bounds.
use Prim.Native.Nat.{ℕ, zero, suc, ◌+◌, ◌/◌, ◌≤◌, ◌<◌, ◌^◌}
use native.Mathlib.Omega.{arith}
use mathlib.Core.Path.{◌≡◌, sym, ap, ◌∙◌}
use mathlib.Core.Bool.{Bool, true, false, ◌&&◌, ◌||◌, not, cond, false≢true}
use mathlib.Core.List.{List, [], ◌++◌, append-nil}
use mathlib.Core.Logic.{◌⊎◌, inl, inr}
use borrow.Author.Tests.{leb-true, ltb-false}
use lib.Dec.{eqb, ltb, leb}
use lib.ListN.{length, get_or, length-append, length-set, get_or-eq_default}
use Rattle.general.proofs.Booleans.{and_first, or_first, or_second}
use Rattle.general.proofs.Numbers.{order}
use Rattle.record_rules.specs.declared.exist.Counts.{Counts}
use Rattle.inst.specs.declared.Reg.{Reg}
use Rattle.inst.specs.declared.BlockId.{BlockId}
use Rattle.inst.specs.declared.Code.{Code}
use Rattle.inst.specs.declared.Inst.TheVariants as inst
use Rattle.codec.specs.Codec.{reg_of, block_of}
use Rattle.procedure.specs.Lists.{joined, holds, present}
use Rattle.word.specs.Word.{choose}
use Rattle.ends.specs.declared.End.{End}
use Rattle.ends.specs.declared.End.TheVariants as e
use Rattle.ends.specs.Ends.{end_of, lone_of, front, with_end}
use Rattle.steps.specs.Facts.{Facts}
use Rattle.steps.specs.Small.{copyable, small, reads_konst}
use Rattle.steps.specs.Gate.{copied}
use Rattle.steps.specs.Copy.{copy_of, kinds_of, own_uses}
use Rattle.steps.specs.Thread.{Work, block_at, edit, matching, arm_of, stops, next_number, unthreaded}
use Rattle.steps.proofs.Edits.{source_at, turned, joined_to, Edit, joins, folds, turns, Edits, nil, then}
use Rattle.steps.proofs.Copied.{stops-small}
use Rattle.round_trips.specs.WellFormed.{All, BlockIn}
use Rattle.round_trips.proofs.Lists.{all-at, all-turn, all_append}
use Rattle.step_laws.proofs.Names.{with_regs, more-block}
use Rattle.step_laws.proofs.Blocks.{all_set, joined-set, EndIn, end-in, lone_in, inside, front_length, joined_in}
use Rattle.step_laws.proofs.Blocks.{end-length, Final, end_with, br_final, condbr_final}
use Rattle.step_laws.proofs.Arms.{each_at}
use Rattle.step_laws.proofs.Notes.{source_in}
use Rattle.step_laws.proofs.Copies.{copied-in, kinds-few, kinds-in}

-- one of two blocks
choose-in : (m v t e : ℕ) → t < m → e < m → choose v t e < m
choose-in m zero t e h i = i
choose-in m (suc v) t e h i = h

-- a small block is there, and has at most four instructions
pub small-there : (P : List (List Code)) (l : ℕ) → small (get_or P l []) ≡ true → l < length P
unfolding small copyable
small-there P l h = by (order l (length P))
  where
    by : (l < length P) ⊎ (length P ≤ l) → l < length P
    by (inl i) = i
    by (inr i) = absurd (false≢true (ap small (sym (get_or-eq_default P [] i)) ∙ h))

small-few : (c : List Code) → small c ≡ true → length c ≤ 4
unfolding small
small-few c h = leb-true (length c) 4 (and_first (leb (length c) 4) _ h)

-- what there is to name, beside n's own registers
abbrev pub counts_at : Facts → Counts → Work → Counts
counts_at f n w = with_regs (next_number f w) n

-- of blocks that had N instructions before
pub record Inv (f : Facts) (n : Counts) (N : ℕ) (w : Work) : Type 0 where
  pub blocks : length w.blocks ≡ n.blocks
  pub each : All (BlockIn (counts_at f n w)) w.blocks
  pub kinds : All (λ k. k < 5) w.kinds
  pub code : length (joined w.blocks) ≤ N + w.grown
  pub grown : w.grown ≤ N / 2 + 36
  pub fresh : length w.kinds ≤ w.grown

module _ (f : Facts) (n : Counts) (N : ℕ) (own : n.registers ≡ length f.registers) (half : f.budget ≡ N / 2 + 32)
    (five : All (λ k. k < 5) f.registers) (few : n.blocks ≤ 2 ^ 32) (words : n.registers + (N / 2 + 36) ≤ 2 ^ 32) where
  -- one block edited, with new registers ks and g instructions more
  module _ (w : Work) (v : Inv f n N w) (a : ℕ) (there : a < length w.blocks) where
    abbrev c : List Code
    c = block_at w a

    pub block-at : BlockIn (counts_at f n w) c
    block-at = all-at (BlockIn (counts_at f n w)) w.blocks [] v.each a there

    numbers-few : next_number f w ≤ 2 ^ 32
    numbers-few = let g = v.fresh in let h = v.grown in omega arith

    edit_inv : (d : List Code) (ks : List ℕ) (g : ℕ) → BlockIn (with_regs (length f.registers + length (w.kinds ++ ks)) n) d →
        All (λ k. k < 5) ks → length d ≤ length c + g → w.grown + g ≤ N / 2 + 36 → length ks ≤ g → Inv f n N (edit w a d ks g)
    edit_inv d ks g b k size fit fresh =
        let m = length f.registers + length (w.kinds ++ ks) in
        let l = length-append w.kinds ks in
        let more : next_number f w ≤ m = omega arith in
        record {
          blocks = length-set w.blocks a d ∙ v.blocks;
          each = all_set (BlockIn (with_regs m n)) w.blocks a d (all-turn (more-block (counts_at f n w) m more) w.blocks v.each) (λ i. b);
          kinds = all_append (λ k. k < 5) w.kinds ks v.kinds k;
          code = let q = joined-set w.blocks a d there in let r = v.code in omega arith;
          grown = fit;
          fresh = let q = v.fresh in omega arith;
        }

    -- another end
    end_inv : (x : Rattle.inst.specs.declared.Inst.Inst) → Final (counts_at f n w) x → Inv f n N (edit w a (with_end x c) [] 0)
    end_inv x t =
        let q = end-length x c in
        let r = v.grown in
        edit_inv (with_end x c) [] 0 (rw (append-nil w.kinds) (end_with (counts_at f n w) x c t block-at)) tt (omega arith) (omega arith) (omega arith)

  jump-there : (w : Work) (a : ℕ) (x : End) → end_of (block_at w a) ≡ x → (x ≡ e.Other → ⊥) → a < length w.blocks
  jump-there w a x q h = inside w.blocks a (λ o. h (sym q ∙ o))

  end-at : (w : Work) → Inv f n N w → (a : ℕ) (x : End) → end_of (block_at w a) ≡ x → EndIn (counts_at f n w) x
  end-at w v a x q = rw q at (end-in (counts_at f n w) (block_at w a) (each_at (counts_at f n w) w.blocks v.each a))

  matching-in : (m : Counts) (truth : Bool) (r l : ℕ) (x : End) → l < m.blocks → EndIn m x → matching truth r l x < m.blocks
  matching-in m truth r l (e.Br to) h i = h
  matching-in m truth r l (e.CondBr c t g) h i = by (eqb c.0 r) truth
    where
      by : (s u : Bool) → cond s (cond u t.0 g.0) l < m.blocks
      by true true = i.1
      by true false = i.2
      by false u = h
  matching-in m truth r l (e.Case t) h i = h
  matching-in m truth r l e.Other h i = h

  arm_in_lem : (w : Work) → Inv f n N w → (a r : ℕ) (truth : Bool) (l : ℕ) → l < n.blocks → arm_of f w a r truth l < n.blocks
  unfolding arm_of
  arm_in_lem w v a r truth l h = by (eqb l a || holds f.body l)
    where
      by : (t : Bool) → cond t l (matching truth r l (lone_of (block_at w l))) < n.blocks
      by true = h
      by false =
          matching-in (counts_at f n w) truth r l (lone_of (block_at w l)) h
          (lone_in (counts_at f n w) (block_at w l) (each_at (counts_at f n w) w.blocks v.each l))

  fold_inv : (w : Work) (a : ℕ) (c : Reg) (t g : BlockId) (k : ℕ) → end_of (block_at w a) ≡ e.CondBr c t g → Inv f n N w →
      Inv f n N (edit w a (with_end (inst.Br (block_of (choose k t.0 g.0))) (block_at w a)) [] 0)
  fold_inv w a c t g k q v =
      let d = end-at w v a (e.CondBr c t g) q in
      let there = jump-there w a (e.CondBr c t g) q (λ o. let z : ◌≡◌ {A = ℕ} 0 1 = cc in absurd (omega arith)) in
      end_inv w v a there (inst.Br (block_of (choose k t.0 g.0)))
      (br_final (counts_at f n w) few (choose k t.0 g.0) (choose-in n.blocks k t.0 g.0 d.1 d.2))

  turn_inv : (w : Work) (a : ℕ) (c : Reg) (t g : BlockId) → end_of (block_at w a) ≡ e.CondBr c t g → Inv f n N w →
      Inv f n N (edit w a (turned f w a c.0 t.0 g.0) [] 0)
  turn_inv w a c t g q v =
      let d = end-at w v a (e.CondBr c t g) q in
      let there = jump-there w a (e.CondBr c t g) q (λ o. let z : ◌≡◌ {A = ℕ} 0 1 = cc in absurd (omega arith)) in
      let r = source_at f w a c.0 in
      let s : r < next_number f w = source_in f (front (block_at w a)) (next_number f w) c.0 (omega arith) d.0 in
      end_inv w v a there (inst.CondBr (reg_of r) (block_of (arm_of f w a r true t.0)) (block_of (arm_of f w a r false g.0)))
      (condbr_final (counts_at f n w) few (numbers-few w v a there) r _ _ s (arm_in_lem w v a r true t.0 d.1) (arm_in_lem w v a r false g.0 d.2))

  -- what lets a block be copied
  go_on : (w : Work) (a l : ℕ) → stops f w a l ≡ false → (w.grown ≤ f.budget) × (small (block_at w l) ≡ true)
  unfolding stops
  go_on w a l h =
      let body = present f.body in
      let first = eqb l a || holds f.body l || body && reads_konst f.konst (block_at w l) in
      let over = ltb f.budget w.grown in
      (ltb-false f.budget w.grown (or_second first over (or_first (first || over) (not (copied body w.blocks l)) h)), stops-small f w a l h)

  join_inv : (w : Work) (a : ℕ) (l : BlockId) → end_of (block_at w a) ≡ e.Br l → stops f w a l.0 ≡ false → Inv f n N w → Inv f n N (joined_to f w a l.0)
  join_inv w a l q h v =
      let there = jump-there w a (e.Br l) q (λ o. let z : ◌≡◌ {A = ℕ} 0 1 = cc in absurd (omega arith)) in
      let go = go_on w a l.0 h in
      let c = block_at w l.0 in
      let m = next_number f w in
      let b = block-at w v l.0 (small-there w.blocks l.0 go.1) in
      let four = small-few c go.1 in
      let ks = kinds_of f c in
      let k = kinds-few f (own_uses c) (counts_at f n w) c in
      let fr = v.fresh in
      let gr = go.0 in
      let y = copied-in f (own_uses c) (counts_at f n w) c b [] m (record { below = tt; more = omega arith; few = omega arith }) in
      let len = length-append w.kinds ks in
      let same : m + length ks ≡ length f.registers + length (w.kinds ++ ks) = omega arith in
      let d = front (block_at w a) ++ copy_of f c m in
      let here = block-at w v a there in
      let mine = more-block (counts_at f n w) (m + length ks) (omega arith) (block_at w a) here in
      let size = front_length (block_at w a) here.ends in
      let dl = length-append (front (block_at w a)) (copy_of f c m) in
      let sh = y.short in
      edit_inv w v a there d ks (length (copy_of f c m)) (rw same at (joined_in (with_regs (m + length ks) n) (block_at w a) (copy_of f c m) mine y.block))
      (kinds-in f (own_uses c) (counts_at f n w) five c) (omega arith) (omega arith) y.fresh

  pub edit_keeps : {w w' : Work} → Edit f w w' → Inv f n N w → Inv f n N w'
  edit_keeps (joins w a l q h) v = join_inv w a l q h v
  edit_keeps (folds w a c t g k q h) v = fold_inv w a c t g k q v
  edit_keeps (turns w a c t g q) v = turn_inv w a c t g q v

  pub edits_keep : {w w' : Work} → Edits f w w' → Inv f n N w → Inv f n N w'
  edits_keep (nil w) v = v
  edits_keep (then x xs) v = edits_keep xs (edit_keeps x v)

  -- before the first edit
  pub start_keeps : (P : List (List Code)) → All (BlockIn n) P → length P ≡ n.blocks → length (joined P) ≡ N → Inv f n N (unthreaded P)
  start_keeps P h b s =
      let z : next_number f (unthreaded P) ≡ n.registers = omega arith in
      record { blocks = b; each = rw z h; kinds = tt; code = omega arith; grown = omega arith; fresh = omega arith }
