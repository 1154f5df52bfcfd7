-- What Emit writes over the storage are the records of what `emit` of the steps leaves.
use Prim.Native.Nat.{ℕ, suc, ◌/◌, ◌≤◌, min}
use native.Mathlib.Omega.{arith}
use mathlib.Core.Path.{◌≡◌, refl, sym, ap, ◌∙◌}
use mathlib.Core.Bool.{Bool, true, false, cond}
use mathlib.Core.List.{List, [], ◌∷◌, ◌++◌, map, map-append, append_assoc}
use Rattle.std.proofs.Common.{Option}
use lib.ListN.{length, get_or, drop, length-map, length-append}
use Rattle.records.specs.declared.Record.{Record}
use Rattle.records.specs.Record.{records_of}
use Rattle.inst.specs.declared.Code.{Code}
use Rattle.codec.specs.Codec.{inst_of, code_of, record_of, block_of}
use Rattle.procedure.specs.Procedure.{tables_from}
use Rattle.procedure.specs.Lists.{joined}
use Rattle.blocks.specs.Blocks.{blocks_of, block_records_in, Canonical}
use Rattle.steps.specs.Emit.{reached, stays, rescues, rescued_of, empty_from, onto_front}
use Rattle.steps.specs.Write.{block_records}
use Rattle.facts.specs.Storage.{facts_in}
use Rattle.reach.specs.Reached.{seen_in}
use Rattle.reach.proofs.Laws.{seen-is, wanted_length}
use Rattle.emit_records.specs.Emitted.{branch_record, rescued_by, rescued_in, codes_in, rescues_in, empty_in, heads_from}
use Rattle.emit_records.proofs.Passes.{empty_records}
use Rattle.emit_records.proofs.Heads.{heads-front}
use Rattle.step_laws.proofs.Emits.{empty_length}
use Rattle.blocks.proofs.Parts.{length-blocks}
use Rattle.read.specs.Structure.{numbered}
use Rattle.round_trips.proofs.Blocks.{joined-map}

-- what is rescued, and the blocks as they are left, in records
module _ (work table arms facts : List ℕ) where
  abbrev pub kept_in : List Record
  kept_in = rescues_in facts (seen_in work table arms) (block_records_in work table)

  abbrev pub left_in : List (List Record)
  left_in = empty_in 0 (seen_in work table arms) (block_records_in work table)

-- the records that are rescued are those that the rescued instructions are written as
module _ (facts : List ℕ) (body : Option ℕ) (budget : ℕ) where
  rescued_records : (rs : List Record) → rs ≡ map record_of (map code_of rs)
      → rescued_in facts rs ≡ map record_of (rescued_of (facts_in facts body budget) (map code_of rs))
  unfolding rescued_in rescued_of
  rescued_records [] e = refl
  rescued_records (r ∷ rs) e = by (rescued_by facts (inst_of r)) _ (rescued_records rs (ap (λ (l : List Record). drop 1 l) e))
    where
      by : (b : Bool) (l : List Code) → rescued_in facts rs ≡ map record_of l
          → cond b (r ∷ rescued_in facts rs) (rescued_in facts rs) ≡ map record_of (cond b (code_of r ∷ l) l)
      by true l h =
          ap (λ (q : Record). q ∷ rescued_in facts rs) (ap (λ (l : List Record). get_or l 0 r) e) ∙ ap (λ (l : List Record). record_of (code_of r) ∷ l) h
      by false l h = h

  rescues_records : (marks : List Bool) (R : List (List Record)) → R ≡ map (map record_of) (codes_in R)
      → rescues_in facts marks R ≡ map record_of (rescues (facts_in facts body budget) marks (codes_in R))
  unfolding rescues_in rescues
  rescues_records marks [] e = refl
  rescues_records [] (c ∷ cs) e = refl
  rescues_records (m ∷ ms) (c ∷ cs) e =
      let t = stays m (codes_in cs) (map code_of c) in
      ap (λ (l : List Record). l ++ rescues_in facts ms cs) (by t)
      ∙ ap (λ (l : List Record). map record_of (cond t [] (rescued_of (facts_in facts body budget) (map code_of c))) ++ l)
      (rescues_records ms cs (ap (λ (l : List (List Record)). drop 1 l) e))
      ∙ sym (map-append record_of (cond t [] (rescued_of (facts_in facts body budget) (map code_of c))) (rescues (facts_in facts body budget) ms (codes_in cs)))
    where
      by : (t : Bool) → cond t [] (rescued_in facts c) ≡ map record_of (cond t [] (rescued_of (facts_in facts body budget) (map code_of c)))
      by true = refl
      by false = rescued_records c (ap (λ (l : List (List Record)). get_or l 0 c) e)

-- marks past the last block are not asked
rescues-more : (facts : List ℕ) (marks more : List Bool) (R : List (List Record)) → length marks ≡ length R
    → rescues_in facts (marks ++ more) R ≡ rescues_in facts marks R
unfolding rescues_in
rescues-more facts [] more [] h = refl
rescues-more facts (m ∷ ms) more [] h = refl
rescues-more facts [] more (c ∷ cs) h = absurd (omega arith)
rescues-more facts (m ∷ ms) more (c ∷ cs) h =
    ap (λ (l : List Record). cond (stays m (codes_in cs) (map code_of c)) [] (rescued_in facts c) ++ l) (rescues-more facts ms more cs (omega arith))

empty_more : (b : ℕ) (marks more : List Bool) (R : List (List Record)) → length marks ≡ length R → empty_in b (marks ++ more) R ≡ empty_in b marks R
unfolding empty_in
empty_more b [] more [] h = refl
empty_more b (m ∷ ms) more [] h = refl
empty_more b [] more (c ∷ cs) h = absurd (omega arith)
empty_more b (m ∷ ms) more (c ∷ cs) h = ap (λ (l : List (List Record)).
    cond (stays m (codes_in cs) (map code_of c)) c (branch_record (block_of (suc b)) (map code_of c) ∷ []) ∷ l)
    (empty_more (suc b) ms more cs (omega arith))

-- instructions put to the front of block 0 stand before all code
joined-front : (k : List Code) (P : List (List Code)) → (P ≡ [] → k ≡ []) → joined (onto_front k P) ≡ k ++ joined P
joined-front k [] h = ap (λ (l : List Code). l ++ []) (sym (h refl))
joined-front k (c ∷ cs) h = append_assoc k c (joined cs)

none-rescued : (facts : List ℕ) (body : Option ℕ) (budget : ℕ) (marks : List Bool) (P : List (List Code))
    → empty_from 0 marks P ≡ [] → rescues (facts_in facts body budget) marks P ≡ []
unfolding rescues
none-rescued facts body budget marks [] h = refl
none-rescued facts body budget marks (c ∷ cs) h = absurd (let n = empty_length 0 marks (c ∷ cs) in let m = ap length h in omega arith)

-- a block table of at most 160 blocks, in records as their instructions are written, and arms numbered as Read asks
module _
    (work table arms facts : List ℕ)
    (body : Option ℕ)
    (budget : ℕ)
    (few : length table / 32 ≤ 160)
    (right : numbered (records_of arms) ≡ length (records_of arms))
    (canonical : Canonical work table)
  where
    abbrev R : List (List Record)
    R = block_records_in work table

    abbrev P : List (List Code)
    P = blocks_of work table

    abbrev marks : List Bool
    marks = reached (tables_from [] (records_of arms)) P

    abbrev kept : List Code
    kept = rescues (facts_in facts body budget) marks P

    abbrev rest : List (List Code)
    rest = empty_from 0 marks P

    marks_long : length marks ≡ length R
    marks_long = wanted_length work table arms few right ∙ sym (length-blocks work table) ∙ length-map R (map code_of)

    pub kept-is : kept_in work table arms facts ≡ map record_of kept
    kept-is =
        ap (λ (m : List Bool). rescues_in facts m R) (seen-is work table arms few right)
        ∙ rescues-more facts marks _ R marks_long
        ∙ rescues_records facts body budget marks R canonical

    pub left_is : left_in work table arms facts ≡ map (map record_of) rest
    left_is =
        ap (λ (m : List Bool). empty_in 0 m R) (seen-is work table arms few right)
        ∙ empty_more 0 marks _ R marks_long
        ∙ empty_records 0 marks R canonical

    joined_is : joined (onto_front kept rest) ≡ kept ++ joined rest
    joined_is = joined-front kept rest (none-rescued facts body budget marks P)

    -- the code that is written
    pub code_is : kept_in work table arms facts ++ joined (left_in work table arms facts) ≡ map record_of (joined (onto_front kept rest))
    code_is =
        ap (λ (l : List Record). l ++ joined (left_in work table arms facts)) kept-is
        ∙ ap (λ (l : List (List Record)). map record_of kept ++ joined l) left_is
        ∙ ap (λ (l : List Record). map record_of kept ++ l) (joined-map record_of rest)
        ∙ sym (map-append record_of kept (joined rest))
        ∙ ap (map record_of) (sym joined_is)

    -- and its block table, where all ends fit a 32-bit field
    module _ (small : length (joined (onto_front kept rest)) ≤ 4294967295) where
      kept-short : min (length (kept_in work table arms facts)) 4294967295 ≡ length kept
      kept-short =
          let e = ap (λ (l : List Record). length l) kept-is ∙ length-map kept record_of in
          let m = ap (λ (l : List Code). length l) joined_is ∙ length-append kept (joined rest) in
          omega arith

      pub heads-is : heads_from 0 (min (length (kept_in work table arms facts)) 4294967295) (left_in work table arms facts) ≡ block_records 0 (onto_front kept rest)
      heads-is =
          let m = ap (λ (l : List Code). length l) joined_is ∙ length-append kept (joined rest) in
          ap (λ (n : ℕ). heads_from 0 n (left_in work table arms facts)) kept-short
          ∙ ap (heads_from 0 (length kept)) left_is
          ∙ heads-front kept rest (omega arith)
