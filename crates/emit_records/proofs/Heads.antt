-- The records of the emitted blocks: one block more, and where all ends fit a 32-bit field, those that steps writes.
use Prim.Native.Nat.{ℕ, ◌+◌, ◌-◌, ◌/◌, ◌≤◌, ◌<◌, min}
use native.Mathlib.Omega.{arith}
use mathlib.Core.Path.{◌≡◌, refl, sym, ap, ◌∙◌}
use mathlib.Core.Bool.{Bool}
use mathlib.Core.List.{List, [], ◌∷◌, ◌++◌, map}
use lib.ListN.{length, drop, length-map, length-append}
use Rattle.records.specs.declared.Record.{Record}
use Rattle.put_record.specs.Store.{put_of}
use Rattle.inst.specs.declared.Code.{Code}
use Rattle.codec.specs.Codec.{record_of}
use Rattle.items.specs.Items.{block_record}
use Rattle.procedure.specs.Lists.{joined}
use Rattle.steps.specs.Emit.{onto_front}
use Rattle.steps.specs.Write.{block_records}
use Rattle.emit_records.specs.Emitted.{Place, place, put, puts, Wrote, new_at, empty_in, end_after, heads_from}
use Rattle.emit_records.proofs.Laws.{put_in}
use Rattle.emit_records.specs.declared.Writer.{Writer}
use Rattle.emit_records.proofs.Passes.{empty_cons, empty_none}
use Rattle.emit_records.proofs.Writing.{wrote_at, wrote_length}

abbrev records_in : List (List Code) → List (List Record)
records_in P = map (map record_of) P

abbrev head : ℕ → List Record → ℕ → List Record
head start rest end = block_record (record { start = start; end = end }) ∷ rest

-- the blocks from block b on are still to be put: their code from a place on, where there is room, and their records
module _ (marks : List Bool) (R : List (List Record)) where
  abbrev rest : ℕ → List (List Record)
  rest b = empty_in b (drop b marks) (drop b R)

  pub record Heading (b : ℕ) (w : Writer) (heads : List ℕ) (start : ℕ) (all : Place) : Type 0 where
    pub room : w.at + length (joined (rest b)) ≤ length w.out.now / 32
    pub begun : start ≤ min w.at 4294967295
    pub told : puts (heads_from start (min w.at 4294967295 - start) (rest b)) (place heads b) ≡ all

  pub heading_start : (w : Writer) (heads : List ℕ) → w.at + length (joined (empty_in 0 marks R)) ≤ length w.out.now / 32
      → Heading 0 w heads 0 (puts (heads_from 0 (min w.at 4294967295) (empty_in 0 marks R)) (place heads 0))
  heading_start w heads i =
      let e : min w.at 4294967295 - 0 ≡ min w.at 4294967295 = omega arith in
      record { room = i; begun = omega arith; told = ap (λ (k : ℕ). puts (heads_from 0 k (empty_in 0 marks R)) (place heads 0)) e }

  -- a block more, whose end is where its code ends
  pub heading_one : {b start end : ℕ} {w w' : Writer} {heads heads' : List ℕ} {all : Place} → b < length R
      → Wrote w (new_at marks R b) w' → end ≡ min w'.at 4294967295
      → heads' ≡ put_of heads b (block_record (record { start = start; end = end })) → b < length heads / 32
      → Heading b w heads start all → Heading (b + 1) w' heads' end all
  unfolding puts heads_from
  heading_one {b} {start} {end} {w} {w'} {heads} {heads'} h p e q n g =
      let c = new_at marks R b in
      let one = empty_cons marks R b h in
      let size = ap (λ (r : List (List Record)). length (joined r)) one ∙ length-append c (joined (rest (b + 1))) in
      let i = g.room in
      let j = g.begun in
      let l = wrote_length p in
      let at = wrote_at p (omega arith) in
      let ends : end ≡ end_after start (min w.at 4294967295 - start) (length c) = omega arith in
      let none : min w'.at 4294967295 - end ≡ 0 = omega arith in
      record {
        room = omega arith;
        begun = omega arith;
        told = ap (λ (k : ℕ). puts (heads_from end k (rest (b + 1))) (place heads' (b + 1))) none
            ∙ ap (puts (heads_from end 0 (rest (b + 1))))
            (ap (λ (x : List ℕ). place x (b + 1)) q ∙ put_in heads b (block_record (record { start = start; end = end })) n)
            ∙ ap (λ (k : ℕ). puts (heads_from k 0 (rest (b + 1))) (put (block_record (record { start = start; end = k })) (place heads b))) ends
            ∙ sym (ap (λ (r : List (List Record)). puts (heads_from start (min w.at 4294967295 - start) r) (place heads b)) one)
            ∙ g.told;
      }

  -- no block left
  pub heading_end : {b start : ℕ} {w : Writer} {heads : List ℕ} {all : Place} → length R ≤ b → Heading b w heads start all → heads ≡ all.bytes
  unfolding puts heads_from
  heading_end {b} {start} {w} {heads} h g =
      ap (λ (s : Place). s.bytes)
      (sym (ap (λ (r : List (List Record)). puts (heads_from start (min w.at 4294967295 - start) r) (place heads b)) (empty_none marks R b h)) ∙ g.told)

pub heads-told : (start : ℕ) (P : List (List Code)) → start + length (joined P) ≤ 4294967295 → heads_from start 0 (records_in P) ≡ block_records start P
unfolding heads_from block_records
heads-told start [] h = refl
heads-told start (c ∷ cs) h =
    let n = length-append c (joined cs) in
    let m = length-map c record_of in
    let e : end_after start 0 (length (map record_of c)) ≡ start + length c = omega arith in
    ap (λ (k : ℕ). head start (heads_from k 0 (records_in cs)) k) e
    ∙ ap (λ (l : List Record). head start l (start + length c)) (heads-told (start + length c) cs (omega arith))

-- with what is rescued at the front of block 0
pub heads-front : (k : List Code) (P : List (List Code)) → length k + length (joined P) ≤ 4294967295
    → heads_from 0 (length k) (records_in P) ≡ block_records 0 (onto_front k P)
unfolding heads_from block_records
heads-front k [] h = refl
heads-front k (c ∷ cs) h =
    let n = length-append c (joined cs) in
    let m = length-map c record_of in
    let l = length-append k c in
    let e : end_after 0 (length k) (length (map record_of c)) ≡ 0 + length (k ++ c) = omega arith in
    ap (λ (i : ℕ). head 0 (heads_from i 0 (records_in cs)) i) e
    ∙ ap (λ (r : List Record). head 0 r (0 + length (k ++ c))) (heads-told (0 + length (k ++ c)) cs (omega arith))
