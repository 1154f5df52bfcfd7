-- What a successful Shorten writes: Read accepts it, 61,728 bytes hold it, it has at most n + n/2 + 36 instructions, and where moved
-- is 0 it is the input.
use Prim.Native.Nat.{ℕ, ◌+◌, ◌/◌, ◌≤◌, ◌<◌}
use native.Mathlib.Omega.{arith}
use mathlib.Core.Path.{◌≡◌, refl, sym, ap, ◌∙◌}
use mathlib.Core.Bool.{Bool, true, false, cond}
use mathlib.Core.List.{List, ◌++◌}
use borrow.Author.Tests.{ltb-true, ltb-false, eqb-true, eqb-false}
use lib.Dec.{eqb, ltb}
use lib.ListN.{length, take, drop}
use lib.Seq.{take-append_seam}
use Rattle.general.proofs.Booleans.{or_first, or_second}
use Rattle.records.specs.declared.Record.{Record}
use Rattle.records.specs.Record.{records_of}
use Rattle.put_record.specs.Store.{Bytes}
use Rattle.layout.specs.Classes.{of_class}
use Rattle.read.specs.Reading.{Reading, unless, answer, checked, read_records, read_blocks, read_tables, wrong_length, beyond_limit}
use Rattle.procedure.specs.Procedure.{procedure_of}
use Rattle.word.specs.Word.{bit}
use Rattle.steps.specs.Run.{Shortened, run}
use Rattle.steps.specs.Write.{records_for, bytes_of}
use Rattle.steps.specs.Shorten.{refusal, success, fit_if, above, run_unless, accept_if, shorten_within, shorten, instructions}
use Rattle.round_trips.specs.WellFormed.{WellFormed}
use Rattle.round_trips.proofs.Laws.{read_well_formed, read-registers, read-code, write_back, written-few, written_accepted, written-code}
use Rattle.step_laws.proofs.Laws.{run-same, run-sized, run_well_formed}

-- no reading has the number 9
few-numbers : (number first k n : ℕ) (o : Reading) → number ≤ 7 → o.number ≤ 7 → (unless number first k n o).number ≤ 7
unfolding unless
few-numbers number first k n o i j = by (ltb k n)
  where
    by : (t : Bool) → (cond t (answer number (first + k)) o).number ≤ 7
    by true = i
    by false = j

either : (t : Bool) (x o : Reading) → x.number ≤ 7 → o.number ≤ 7 → (cond t x o).number ≤ 7
either true x o i j = i
either false x o i j = j

-- Read gives at most 7
pub seven : (b : List ℕ) → (checked b).number ≤ 7
unfolding checked read_records read_blocks read_tables
seven b =
    either (wrong_length b) (answer 1 0) _ (omega arith)
    (few-numbers 2 _ _ _ _ (omega arith)
    (either (beyond_limit (records_of b)) (answer 3 0) _ (omega arith)
    (few-numbers 4 _ _ _ _ (omega arith)
    (few-numbers 5 _ _ _ _ (omega arith)
    (few-numbers 6 _ _ _ _ (omega arith) (few-numbers 7 _ _ _ _ (omega arith) (omega arith)))))))

-- the bytes of what `run` leaves of a file
abbrev pub short_bytes : List ℕ → List ℕ
short_bytes b = bytes_of (records_for (run (procedure_of (records_of b))).procedure)

-- a file within the shortening limits
pub record Within (b : List ℕ) : Type 0 where
  pub accepted : (checked b).number ≡ 0
  pub registers : length (of_class 1 (records_of b)) ≤ 480
  pub code : length (of_class 4 (records_of b)) ≤ 480

-- "The same seven; 8 above the shortening limits; 9 output shorter than the result", or success
pub data Fate (b out : List ℕ) : Type 0 where
  unread : ((checked b).number ≡ 0 → ⊥) → shorten b out ≡ refusal (checked b).number (checked b).place out → Fate b out
  over : shorten b out ≡ refusal 8 0 out → Fate b out
  short : Within b → length out < length (short_bytes b) → shorten b out ≡ refusal 9 0 out → Fate b out
  done : Within b → length (short_bytes b) ≤ length out → shorten b out ≡ success (run (procedure_of (records_of b))) (short_bytes b) out → Fate b out

module _ (b out : List ℕ) where
  abbrev rs : List Record
  rs = records_of b

  abbrev s : Shortened
  s = run (procedure_of rs)

  room : (t : Bool) → ltb (length out) (length (short_bytes b)) ≡ t → Within b → shorten b out ≡ fit_if t s (short_bytes b) out → Fate b out
  room true e w q = short w (ltb-true (length out) (length (short_bytes b)) e) q
  room false e w q = done w (ltb-false (length out) (length (short_bytes b)) e) q

  limits : (t : Bool) → above 480 480 rs ≡ t → (checked b).number ≡ 0 → shorten b out ≡ run_unless t rs out → Fate b out
  limits true e r q = over q
  limits false e r q =
      let few = ltb-false 480 (length (of_class 1 rs)) (or_first (ltb 480 (length (of_class 1 rs))) _ e) in
      let less = ltb-false 480 (length (of_class 4 rs)) (or_second (ltb 480 (length (of_class 1 rs))) _ e) in
      room (ltb (length out) (length (short_bytes b))) refl (record { accepted = r; registers = few; code = less }) q

  read_first : (t : Bool) → eqb (checked b).number 0 ≡ t → shorten b out ≡ accept_if t (checked b) 480 480 rs out → Fate b out
  read_first true e q = limits (above 480 480 rs) refl (eqb-true (checked b).number 0 e) q
  read_first false e q = unread (eqb-false (checked b).number 0 e) q

  pub fate : Fate b out
  unfolding shorten_within
  fate = read_first (eqb (checked b).number 0) refl refl

  -- the procedure that is shortened, and what is left of it
  module _ (h : Bytes b) (w : Within b) where
    before : WellFormed (procedure_of rs)
    before = read_well_formed b h w.accepted

    after : WellFormed s.procedure
    after =
        let r = read-registers b h w.accepted in
        let c = read-code b h w.accepted in
        let i = w.registers in
        let j = w.code in
        run_well_formed (procedure_of rs) before (omega arith) (omega arith)

    few_bytes : length (short_bytes b) ≤ 61728
    few_bytes = written-few s.procedure after

    same_bytes : s.moved ≡ false → short_bytes b ≡ b
    same_bytes e = ap (λ p. bytes_of (records_for p)) (run-same (procedure_of rs) before e) ∙ write_back b h w.accepted

  -- the written part of the output, where it is that of a success
  taken : shorten b out ≡ success s (short_bytes b) out → take (shorten b out).answer.length (shorten b out).output ≡ short_bytes b
  taken q = rw q (take-append_seam (short_bytes b) (drop (length (short_bytes b)) out))

  pub shortened_accepted : Bytes b → (shorten b out).answer.number ≡ 0 → checked (take (shorten b out).answer.length (shorten b out).output) ≡ answer 0 0
  shortened_accepted h e = by fate
    where
      by : Fate b out → checked (take (shorten b out).answer.length (shorten b out).output) ≡ answer 0 0
      by (unread n q) = absurd (n (sym (ap (λ o. o.answer.number) q) ∙ e))
      by (over q) = absurd (let z = ap (λ o. o.answer.number) q in omega arith)
      by (short w i q) = absurd (let z = ap (λ o. o.answer.number) q in omega arith)
      by (done w i q) = ap checked (taken q) ∙ written_accepted s.procedure (after h w)

  -- 1,929 records hold every result
  pub room-enough : Bytes b → 61728 ≤ length out → (shorten b out).answer.number ≡ 9 → ⊥
  room-enough h i e = by fate
    where
      by : Fate b out → ⊥
      by (unread n q) = let z = ap (λ o. o.answer.number) q in let y = seven b in omega arith
      by (over q) = let z = ap (λ o. o.answer.number) q in omega arith
      by (short w j q) = let z = few_bytes h w in omega arith
      by (done w j q) = let z = ap (λ o. o.answer.number) q in omega arith

  -- where moved is 0 the result is the input, byte for byte
  pub unmoved_same : Bytes b → (shorten b out).answer.number ≡ 0 → (shorten b out).answer.moved ≡ 0 → (shorten b out).output ≡ b ++ drop (length b) out
  unmoved_same h e m = by fate
    where
      still : (t : Bool) → bit t ≡ 0 → t ≡ false
      still true z = absurd (omega arith)
      still false z = refl

      by : Fate b out → (shorten b out).output ≡ b ++ drop (length b) out
      by (unread n q) = absurd (n (sym (ap (λ o. o.answer.number) q) ∙ e))
      by (over q) = absurd (let z = ap (λ o. o.answer.number) q in omega arith)
      by (short w i q) = absurd (let z = ap (λ o. o.answer.number) q in omega arith)
      by (done w i q) =
          let same = same_bytes h w (still s.moved (sym (ap (λ o. o.answer.moved) q) ∙ m)) in
          ap (λ o. o.output) q ∙ ap (λ c. c ++ drop (length c) out) same

  -- "Output has at most n + n/2 + 36 instructions."
  pub few-instructions : Bytes b → (shorten b out).answer.number ≡ 0
      → instructions (take (shorten b out).answer.length (shorten b out).output) ≤ instructions b + instructions b / 2 + 36
  few-instructions h e = by fate
    where
      by : Fate b out → instructions (take (shorten b out).answer.length (shorten b out).output) ≤ instructions b + instructions b / 2 + 36
      by (unread n q) = absurd (n (sym (ap (λ o. o.answer.number) q) ∙ e))
      by (over q) = absurd (let z = ap (λ o. o.answer.number) q in omega arith)
      by (short w i q) = absurd (let z = ap (λ o. o.answer.number) q in omega arith)
      by (done w i q) =
          let n = ap instructions (taken q) ∙ written-code s.procedure (after h w) in
          let few = (run-sized (procedure_of rs) (before h w)).code in
          let c = read-code b h w.accepted in
          omega arith
