-- The law of the stage: the parts then hold the procedure that `slice_tests` leaves.
use Rattle.std.proofs.Common.{ℕ, zero, suc, ◌+◌, ◌*◌, ◌≡◌, ◌≤◌, List, [], ◌∷◌, map, replicate, length, get_or, Bool, false, Option, refl, sym, ap, ◌∙◌, arith}
use Rattle.std.proofs.lemmas.List.{length-replicate}
use Rattle.records.specs.declared.Record.{Record}
use Rattle.record_rules.specs.declared.exist.Counts.{Counts}
use Rattle.inst.specs.declared.Code.{Code}
use Rattle.codec.specs.Codec.{InRange, code_of, record_of}
use Rattle.codec.proofs.Laws.{read_back}
use Rattle.procedure.specs.Procedure.{Procedure, codes_of}
use Rattle.procedure.specs.Lists.{joined}
use Rattle.facts.specs.Storage.{operands_in}
use Rattle.steps.specs.Write.{block_records}
use Rattle.steps.specs.Slice.{no_lengths, tests_in, sliced_in, some_test}
use Rattle.steps.specs.Run.{with_blocks}
use Rattle.steps.proofs.Sliced.{sliced-length, sliced_blocks, sliced_size}
use Rattle.round_trips.specs.WellFormed.{All, Sound, BlockIn, counts_in, WellFormed}
use Rattle.round_trips.proofs.Lists.{all_joined, all-turn, map_back}
use Rattle.step_laws.proofs.Slices.{sliced_well_formed}
use Rattle.procedure_parts.specs.Opened.{Parts, recoded, Coded, Holds}
use Rattle.procedure_parts.proofs.Laws.{exchanged}
use Rattle.run.proofs.Uses.{unwritten}
use Rattle.kc.specs.declared.Kc.TheVariants.{Unwritten}
use Rattle.kc.specs.Storage.{kc_in, with_code}
use Rattle.kc.proofs.Laws.{Agree, agree}
use Rattle.slice.specs.Sliced.{Pass, start, Done, passed_blocks, passed_all}
use Rattle.slice.specs.Staged.{kc_of, Staged}
use Rattle.slice.proofs.Law.{blocks_hold}
use Rattle.slice.proofs.Same.{tests-same, sliced-same}

module _ (kc : ℕ → Option ℕ) (ops : List ℕ) where
  heads_same : (due : ℕ) (P : List (List Code)) → block_records due (sliced_in kc ops P) ≡ block_records due P
  unfolding block_records
  heads_same due [] = refl
  heads_same due (c ∷ P) = rw (sliced-length kc ops no_lengths c, heads_same (due + length c) P)

  pub record Recoded (P : List (List Code)) (z : Pass) (heads : List ℕ) : Type 0 where
    pub coded : Coded (sliced_in kc ops P) z.code heads
    pub any : z.any ≡ some_test (tests_in kc ops P)

  pub coded_sliced : (P : List (List Code)) (code heads : List ℕ) → Coded P code heads → All (All InRange) P → All (All InRange) (sliced_in kc ops P)
      → Recoded P (passed_all kc ops heads code) heads
  coded_sliced P code heads c r f =
      let h = blocks_hold kc ops [] P code false c.code-bytes c.code_records_lem r f in
      let is : passed_all kc ops heads code ≡ passed_blocks kc ops (block_records 0 P) (start code false) =
      ap (λ (rs : List Record). passed_blocks kc ops rs (start code false)) c.head_records in
      rw is
      (record {
        coded = record {
          code-bytes = h.bytes;
          heads-bytes = c.heads-bytes;
          code-length = h.long ∙ c.code-length ∙ ap (λ (n : ℕ). 32 * n) (sym (sliced_size kc ops P));
          heads-length = c.heads-length ∙ ap (λ (n : ℕ). 32 * n) (sym (sliced_blocks kc ops P));
          code_records_lem = h.holds;
          head_records = c.head_records ∙ sym (heads_same 0 P);
        };
        any = h.any;
      })

clear : (n r : ℕ) → get_or (replicate n Unwritten) r Unwritten ≡ Unwritten
clear zero r = refl
clear (suc n) zero = refl
clear (suc n) (suc r) = clear n r

in-range : (n : Counts) (P : List (List Code)) → All (BlockIn n) P → All (All InRange) P
in-range n P h = all-turn (λ c b. all-turn (λ x s. s.range) c b.each) P h

-- over a table of m registers, which are enough
module _
    (m : ℕ)
    (p : Procedure)
    (x : Parts)
    (kinds code heads : List ℕ)
    (h : Holds p (recoded x code heads) kinds)
    (few : length p.registers ≤ m)
  where
    abbrev P : List (List Code)
    P = p.blocks

    abbrev n : Counts
    n = counts_in p

    w : WellFormed p
    w = h.well_formed

    codes : codes_of code ≡ joined P
    codes =
        ap (map code_of) h.coded.code_records_lem
        ∙ map_back {P = InRange} record_of code_of read_back (joined P) (all_joined InRange P (in-range n P w.each-block))

    agrees : Agree (kc_in (with_code (replicate m Unwritten) (codes_of code))) (kc_of p)
    agrees =
        let sound = all_joined (Sound n) P (all-turn (λ c b. b.each) P w.each-block) in
        rw codes
        (agree (replicate m Unwritten) (joined P) (clear m)
        (λ r i. unwritten n p.operands w.each_operand (joined P) sound r (let l = length-replicate m Unwritten in omega arith)))

    pub staged : {z code' : List ℕ} {t : Bool} → z ≡ x.operands
        → Done (passed_all (kc_in (with_code (replicate m Unwritten) (codes_of code))) (operands_in z) heads code) code' t
        → Staged p x kinds code' heads t
    staged {z} {code'} e d =
        let ops = ap operands_in e ∙ h.operands in
        let kc = kc_in (with_code (replicate m Unwritten) (codes_of code)) in
        let q = with_blocks p (sliced_in (kc_of p) p.operands P) in
        let well = sliced_well_formed (kc_of p) p w in
        let same = sliced-same agrees p.operands P in
        let ranged : All (All InRange) (sliced_in kc p.operands P) = rw same (in-range (counts_in q) q.blocks well.each-block) in
        let r = coded_sliced kc p.operands P code heads h.coded (in-range n P w.each-block) ranged in
        let f : Done (passed_all kc p.operands heads code) code' _ = rw ops at d in
        let coded : Coded q.blocks code' heads = rw (f.code, ← same) r.coded in
        record {
          holds = exchanged h q well h.registers refl refl refl coded;
          any = f.any ∙ r.any ∙ ap some_test (tests-same agrees p.operands P);
        }
