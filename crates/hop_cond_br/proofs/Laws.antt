-- Where the blocks lie apart and there is room, a hop over the bytes is the definition's hop over the blocks, and canonical records stay so.
use Prim.Native.Nat.{ℕ, ◌+◌, ◌/◌, ◌≤◌, ◌<◌, ◌^◌}
use native.Mathlib.Nat.{add-zero}
use mathlib.Core.Path.{◌≡◌, refl, sym, ap, ◌∙◌}
use mathlib.Core.Bool.{Bool, true, false, ◌&&◌}
use mathlib.Core.List.{List, [], ◌++◌, append-nil}
use Rattle.std.proofs.Common.{Option, None, Some}
use borrow.Author.Tests.{lt-ltb}
use lib.Dec.{eqb}
use lib.ListN.{length}
use Rattle.records.specs.Record.{record_at}
use Rattle.put_record.specs.Store.{Bytes}
use Rattle.inst.specs.declared.Code.{Code}
use Rattle.inst.specs.declared.Inst.{Inst}
use Rattle.inst.specs.declared.Inst.TheVariants as i
use Rattle.codec.specs.Codec.{reg_of, block_of, in_range}
use Rattle.ends.specs.Ends.{with_end}
use Rattle.word.specs.Word.{choose}
use Rattle.blocks.specs.Blocks.{Canonical}
use Rattle.blocks.specs.Rewrite.{Apart, end_rewritten}
use Rattle.blocks.proofs.Bytes.{end-bytes, end-length}
use Rattle.blocks.proofs.Apart.{end_codes, end-canonical}
use Rattle.equal_arms.proofs.Arms.{in-range}
use Rattle.steps.specs.Facts.{Facts}
use Rattle.steps.specs.Note.{nothing, notes, source_of, value_of}
use Rattle.steps.specs.Thread.{Work, last, next, edit, block_at, arm_of, rewrite_if, decide, decide_from, hop_cond_br}
use Rattle.facts.specs.Storage.{facts_in}
use Rattle.note.proofs.Gathered.{notes_any}
use Rattle.hop_cond_br.specs.Storage.{arm_in, turn_if, decide_in, before, turned_in, work_in, hop_in}
use Rattle.hop_cond_br.proofs.Ranges.{arm-range, tested_range, choose-range}

cond_br_range : (c t e : ℕ) → c < 2 ^ 32 → t < 2 ^ 32 → e < 2 ^ 32 → in_range (i.CondBr (reg_of c) (block_of t) (block_of e)) ≡ true
unfolding in_range
cond_br_range c t e h g k = rw (lt-ltb c (2 ^ 32) h, lt-ltb t (2 ^ 32) g, lt-ltb e (2 ^ 32) k)

module _
    (table code : List ℕ)
    (bytes : Bytes code)
    (a : ℕ)
    (body : Option ℕ)
    (c t e : ℕ)
    (hc : c < 2 ^ 32)
    (ht : t < 2 ^ 32)
    (he : e < 2 ^ 32)
  where
    -- what every edit keeps is kept
    module _ (Q : List ℕ → Type 0) (q : (x : Inst) → in_range x ≡ true → Q (end_rewritten code (record_at table a) x)) (w : Q code) where
      keep_if : (z : Bool) (c t e : ℕ) → c < 2 ^ 32 → t < 2 ^ 32 → e < 2 ^ 32 → Q (turn_if table a z code c t e).code
      keep_if true c t e h g k = w
      keep_if false c t e h g k = q (i.CondBr (reg_of c) (block_of t) (block_of e)) (cond_br_range c t e h g k)

      keep_decide : (o : Option ℕ) (c' : ℕ) → c' < 2 ^ 32 → Q (decide_in table a code body c t e c' o).code
      keep_decide (Some v) c' h = q (i.Br (block_of (choose v t e))) (in-range (choose v t e) (choose-range v t e ht he))
      keep_decide None c' h =
          let t' = arm_in table a code body c' true t in
          let e' = arm_in table a code body c' false e in
          keep_if (eqb c' c && eqb t' t && eqb e' e) c' t' e' h
          (arm-range table a code bytes body c' true t ht) (arm-range table a code bytes body c' false e he)

      pub keep_turned : (facts : List ℕ) (room : Bool) → Q (turned_in table a facts body code c t e room).code
      unfolding turned_in
      keep_turned facts false = w
      keep_turned facts true =
          let f = facts_in facts body 0 in
          let k = notes f nothing (before table a code) in
          keep_decide (value_of f k (source_of k c)) (source_of k c) (tested_range table a code bytes f c hc)

    module _ (n : ℕ) (h : Apart n table) (fit : n ≤ length code / 32) where
      -- canonical records stay canonical
      pub turned-canonical : (facts : List ℕ) (room : Bool) → Canonical code table → Canonical (turned_in table a facts body code c t e room).code table
      turned-canonical facts room w =
          keep_turned (λ b. Canonical b table) (λ x r. end-canonical code table n h fit bytes a x r w) w facts room

      module _ (kinds : List ℕ) (grown : ℕ) (edited : Bool) where
        abbrev w : Work
        w = work_in table code kinds grown edited

        edit-end : (x : Inst) → in_range x ≡ true
            → edit w a (with_end x (block_at w a)) [] 0 ≡ work_in table (end_rewritten code (record_at table a) x) kinds grown true
        edit-end x r =
            ap (λ (P : List (List Code)). record { blocks = P; kinds = kinds ++ []; grown = grown + 0; edited = true })
            (sym (end_codes code table n h fit bytes a x r))
            ∙ ap (λ (l : List ℕ). work_in table (end_rewritten code (record_at table a) x) l (grown + 0) true) (append-nil kinds)
            ∙ ap (λ (m : ℕ). work_in table (end_rewritten code (record_at table a) x) kinds m true) (add-zero grown)

        hop_if : (z : Bool) (c t e : ℕ) → c < 2 ^ 32 → t < 2 ^ 32 → e < 2 ^ 32
            → rewrite_if z w a c t e ≡ hop_in table kinds grown (turn_if table a z code c t e)
        hop_if true c t e p q r = refl
        hop_if false c t e p q r = ap last (edit-end (i.CondBr (reg_of c) (block_of t) (block_of e)) (cond_br_range c t e p q r))

        hop-decide : (f : Facts) → f.body ≡ body → (o : Option ℕ) (c' : ℕ) → c' < 2 ^ 32
            → decide f w a c t e c' o ≡ hop_in table kinds grown (decide_in table a code body c t e c' o)
        unfolding arm_of
        hop-decide f b (Some v) c' r = ap next (edit-end (i.Br (block_of (choose v t e))) (in-range (choose v t e) (choose-range v t e ht he)))
        hop-decide f b None c' r =
            let t' = arm_in table a code body c' true t in
            let e' = arm_in table a code body c' false e in
            rw b
            (hop_if (eqb c' c && eqb t' t && eqb e' e) c' t' e' r
            (arm-range table a code bytes body c' true t ht) (arm-range table a code bytes body c' false e he))

        -- the hop is the definition's
        pub turned-hop : (facts : List ℕ) (budget : ℕ)
            → hop_cond_br (facts_in facts body budget) w a c t e ≡ hop_in table kinds grown (turned_in table a facts body code c t e true)
        unfolding hop_cond_br turned_in
        turned-hop facts budget =
            let f = facts_in facts body budget in
            let k = notes (facts_in facts body 0) nothing (before table a code) in
            let m = sym (notes_any facts body budget nothing (before table a code)) ∙ notes_any facts body 0 nothing (before table a code) in
            ap (decide_from f w a c t e) m
            ∙ hop-decide f refl (value_of f k (source_of k c)) (source_of k c) (tested_range table a code bytes (facts_in facts body 0) c hc)

    -- the code stays as long, and bytes
    pub turned-length : (facts : List ℕ) (room : Bool) → length (turned_in table a facts body code c t e room).code ≡ length code
    turned-length facts room = keep_turned (λ b. length b ≡ length code) (λ x r. end-length code (record_at table a) x) refl facts room

    pub turned-bytes : (facts : List ℕ) (room : Bool) → Bytes (turned_in table a facts body code c t e room).code
    turned-bytes facts room = keep_turned Bytes (λ x r. end-bytes code (record_at table a) x bytes) bytes facts room
