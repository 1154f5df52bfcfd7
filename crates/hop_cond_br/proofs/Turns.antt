-- What a hop of a CondBr leaves, by the tests that its functions make.
use Prim.Native.Nat.{ℕ, zero, suc, ◌/◌}
use mathlib.Core.Path.{◌≡◌, refl, sym, ap, ◌∙◌}
use mathlib.Core.Bool.{Bool, true, false, not, ◌&&◌, cond}
use mathlib.Core.List.{List, []}
use Rattle.std.proofs.Common.{Option, None, Some, option_map}
use borrow.Author.Tests.{eq-eqb, ne_eqb}
use lib.Dec.{eqb}
use lib.ListN.{length, get_or}
use Rattle.records.specs.Record.{record_at}
use Rattle.inst.specs.declared.BlockId.{BlockId}
use Rattle.inst.specs.declared.Reg.{Reg}
use Rattle.inst.specs.declared.Inst.TheVariants as i
use Rattle.codec.specs.Codec.{reg_of, block_of}
use Rattle.procedure.specs.Lists.{holds}
use Rattle.procedure.specs.Procedure.{codes_of}
use Rattle.word.specs.Word.{choose}
use Rattle.word.proofs.Laws.{isnt_zero}
use Rattle.ends.specs.declared.End.{End}
use Rattle.ends.specs.Ends.{front, lone_of}
use Rattle.ends.proofs.Laws.{length_codes}
use Rattle.blocks.specs.Blocks.{blocks_of, block_bytes}
use Rattle.blocks.specs.Rewrite.{front_bytes, end_rewritten}
use Rattle.blocks.proofs.Parts.{block_codes}
use Rattle.blocks.proofs.Rewrites.{front_codes}
use Rattle.steps.specs.Note.{Known, nothing, notes}
use Rattle.steps.specs.Thread.{matching, arm_of}
use Rattle.facts.specs.Storage.{facts_in}
use Rattle.note.specs.Noted.{enough}
use Rattle.note.proofs.Gathered.{notes_any}
use Rattle.hop_cond_br.specs.declared.Turn.TheVariants as u
use Rattle.hop_cond_br.specs.Storage.{Turned, turned, arm_in, turn_if, turn_in, fold_in, decide_in, tested_in, before, room_in, turned_in}

-- an arm
module _ (table : List ℕ) (a : ℕ) (code : List ℕ) (body : Option ℕ) (c : ℕ) (truth : Bool) (l : BlockId) where
  pub arm_here : l.0 ≡ a → l ≡ block_of (arm_in table a code body c truth l.0)
  unfolding arm_of
  arm_here h = sym (rw (eq-eqb l.0 a h))

  module _ (n : l.0 ≡ a → ⊥) where
    pub arm_pause : holds body l.0 ≡ true → l ≡ block_of (arm_in table a code body c truth l.0)
    unfolding arm_of
    arm_pause h = sym (rw (ne_eqb l.0 a n, h))

    pub arm_past : {x : End} → holds body l.0 ≡ false → x ≡ lone_of (get_or (blocks_of code table) l.0 [])
        → block_of (matching truth c l.0 x) ≡ block_of (arm_in table a code body c truth l.0)
    unfolding arm_of
    arm_past h e = ap (λ (x : End). block_of (matching truth c l.0 x)) e ∙ sym (rw (ne_eqb l.0 a n, h))

-- the CondBr, by whether something differs
module _
    (table : List ℕ)
    (a : ℕ)
    (code : List ℕ)
    (body : Option ℕ)
    (c t e c' : ℕ)
    {x y : BlockId}
    {z : Bool}
    (p : x ≡ block_of (arm_in table a code body c' true t))
    (q : y ≡ block_of (arm_in table a code body c' false e))
    (same : z ≡ (eqb c' c && eqb x.0 t && eqb y.0 e))
  where
    abbrev if_same : Bool → Turned
    if_same b = turn_if table a b code c' (arm_in table a code body c' true t) (arm_in table a code body c' false e)

    told : z ≡ (eqb c' c && eqb (arm_in table a code body c' true t) t && eqb (arm_in table a code body c' false e) e)
    told =
        same
        ∙ ap (λ (b : BlockId). eqb c' c && eqb b.0 t && eqb y.0 e) p
        ∙ ap (λ (b : BlockId). eqb c' c && eqb (arm_in table a code body c' true t) t && eqb b.0 e) q

    pub all_same : z ≡ true → turned code u.Stay ≡ turn_in table a code body c t e c'
    all_same h = ap if_same (sym h ∙ told)

    abbrev written : BlockId → BlockId → Turned
    written t e = turned (end_rewritten code (record_at table a) (i.CondBr (reg_of c') t e)) u.Last

    pub one_differs : z ≡ false → turned (end_rewritten code (record_at table a) (i.CondBr (reg_of c') x y)) u.Last ≡ turn_in table a code body c t e c'
    one_differs h =
        ap (λ (b : BlockId). written b y) p
        ∙ ap (λ (b : BlockId). written (block_of (arm_in table a code body c' true t)) b) q
        ∙ ap if_same (sym h ∙ told)

-- by what is known before it
module _ (table : List ℕ) (a : ℕ) (facts : List ℕ) (body : Option ℕ) (code : List ℕ) (c t e : ℕ) where
  abbrev pub decided : Option (ℕ × Option ℕ) → Turned
  decided (Some x) = decide_in table a code body c t e x.0 x.1
  decided None = turned code u.Stay

  abbrev gathered : Known
  gathered = notes (facts_in facts body 0) nothing (before table a code)

  by_room : (z : Bool) → decided (option_map (tested_in facts c) (cond z (Some gathered) None)) ≡ turned_in table a facts body code c t e z
  unfolding turned_in
  by_room true = refl
  by_room false = refl

  -- in slices with room or none, by the blocks that are told
  module _
      (known copy : List ℕ)
      {w k b p : List ℕ}
      (code-is : w ≡ code)
      (table-is : k ≡ table)
      (block : p ≡ block_bytes w k a)
      (fore : b ≡ front_bytes p)
    where
      codes : codes_of b ≡ before table a code
      codes =
          ap codes_of fore
          ∙ front_codes p
          ∙ ap front (ap codes_of (rw (code-is, table-is) at block) ∙ block_codes code table a)

      abbrev noted : Option Known
      noted = cond (enough (length b / 32) known copy) (Some (notes (facts_in facts None 0) nothing (codes_of b))) None

      noted-is : noted ≡ cond (room_in table a code known copy) (Some gathered) None
      noted-is =
          let none_of = facts_in facts None 0 in
          let k = ap (notes none_of nothing) codes ∙ notes_any facts body 0 nothing (before table a code) in
          ap (λ (m : ℕ). cond (enough m known copy) (Some (notes none_of nothing (codes_of b))) None) (sym (length_codes b) ∙ ap length codes)
          ∙ ap (λ (k : Known). cond (room_in table a code known copy) (Some k) None) k

      abbrev leaves : Turned
      leaves = turned_in table a facts body code c t e (room_in table a code known copy)

      -- what `tested` tells
      abbrev Told : Option (Reg × Option ℕ) → Type 0
      Told n = option_map (λ (x : Reg × Option ℕ). (x.0.0, x.1)) n ≡ option_map (tested_in facts c) noted

      left : (n : Option (Reg × Option ℕ)) → Told n → decided (option_map (λ (x : Reg × Option ℕ). (x.0.0, x.1)) n) ≡ leaves
      left n told = ap decided (told ∙ ap (option_map (tested_in facts c)) noted-is) ∙ by_room (room_in table a code known copy)

      pub no_room : {n : Option (Reg × Option ℕ)} → Told n → n ≡ None → turned code u.Stay ≡ leaves
      no_room {n = n} told i = rw i at (left n told)

      pub by_value : {n : Option (Reg × Option ℕ)} {d : Reg} {v : Option ℕ} {x : ℕ} {z : Turned}
          → z ≡ fold_in table a code x t e → v ≡ Some x → n ≡ Some (d, v) → Told n → z ≡ leaves
      by_value {n = n} g j i told = g ∙ (rw (i, j) at (left n told))

      pub no_value : {n : Option (Reg × Option ℕ)} {d : Reg} {v : Option ℕ} {z : Turned}
          → Told n → n ≡ Some (d, v) → v ≡ None → z ≡ turn_in table a code body c t e d.0 → z ≡ leaves
      no_value {n = n} told i j g = g ∙ (rw (i, j) at (left n told))

-- the arm that a known value takes
pub taken : (v : ℕ) (t e : BlockId) → cond (not (eqb v 0)) t e ≡ block_of (choose v t.0 e.0)
taken zero t e = refl
taken (suc v) t e = rw (isnt_zero (suc v))
