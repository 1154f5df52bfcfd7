-- The forms of a file by number: how each is come by.
use Prim.Native.Nat.{ℕ, ◌/◌}
use native.Mathlib.Omega.{arith}
use mathlib.Core.Path.{◌≡◌, sym, ap, subst, ◌∙◌}
use mathlib.Core.Bool.{Bool, true, false, ◌||◌, cond}
use mathlib.Core.List.{List}
use borrow.Author.Tests.{eq-eqb, ne_eqb, ltb-false}
use lib.Dec.{eqb, ltb}
use lib.ListN.{length}
use Rattle.std.proofs.lemmas.Bool.{or_parts}
use Rattle.records.specs.declared.Record.{Record}
use Rattle.records.specs.Record.{records_of}
use Rattle.records.proofs.Laws.{length_records}
use Rattle.put_record.specs.Store.{Bytes}
use Rattle.layout.specs.Classes.{of_class}
use Rattle.read.specs.Reading.{Reading, reading}
use Rattle.procedure.specs.Procedure.{Procedure, procedure_of}
use Rattle.steps.specs.Run.{unchanged, threaded_form}
use Rattle.steps.specs.Shorten.{Outcome, refusal, shortened, above}
use Rattle.parts.specs.declared.File.{File}
use Rattle.parts.specs.Parts.{starts_in, parts_in}
use Rattle.shorten.proofs.Answers.{parts-open}
use Rattle.procedure_parts.specs.Opened.{Parts, parts_of, Parted, Opened}
use Rattle.procedure_parts.proofs.Laws.{parted, opened, registers_are, code_is, registers-sent}
use Rattle.shorten.specs.Storage.{Fits}
use Rattle.bench_c.specs.Forms.{if_read, where_read, sent, threaded, above_in, sliced, form_of}

-- storage for the largest file within the shortening limits fits each
all-fit : {p : Procedure} {x : Parts} → Opened p x → Fits 480 160 x
all-fit o =
    let r = registers-sent o.parted in
    let c = o.parted.coded.code-length in
    let h = o.parted.coded.heads-length in
    let w = o.parted.well_formed.blocks in
    let f = o.few-registers in
    let g = o.few-code in
    record { registers = omega arith; heads = omega arith; code = omega arith }

module _ (b out : List ℕ) where
  abbrev rs : List Record
  rs = records_of b

  -- Read's refusal, and what is written for a file that is read
  pub read_refused : (written : Outcome) {r : Reading} → r ≡ reading b → (r.number ≡ 0 → ⊥) → refusal r.number r.place out ≡ where_read b out written
  read_refused written {r} e n =
      ap (λ (q : Reading). refusal q.number q.place out) e
      ∙ ap (λ (t : Bool). if_read t b out written) (sym (ne_eqb (reading b).number 0 (λ z. n (ap (λ (q : Reading). q.number) e ∙ z))))

  read-written : (reading b).number ≡ 0 → (written : Outcome) → written ≡ where_read b out written
  read-written e written = ap (λ (t : Bool). if_read t b out written) (sym (eq-eqb (reading b).number 0 e))

  module _ {r : Reading} (file : File) (h : Bytes b) (e : r ≡ reading b) (n : r.number ≡ 0) (d : file.bytes.now ≡ b) (s : file.layout ≡ starts_in rs) where
    read : (reading b).number ≡ 0
    read = sym (ap (λ (q : Reading). q.number) e) ∙ n

    -- the parts as they were sent
    pub sent-put : {o : Outcome} → ((p : Procedure) → Parted p (parts_in file) → o ≡ shortened (unchanged p) out) → o ≡ sent b out
    sent-put put =
        put (procedure_of rs) (subst (Parted (procedure_of rs)) (sym (parts-open b file d s)) (parted b h read))
        ∙ read-written read (shortened (unchanged (procedure_of rs)) out)

    -- the threaded form, by the limits
    above-is : above_in (parts_in file) ≡ above 480 480 rs
    above-is =
        let x = parts_of b (starts_in rs) in
        ap above_in (parts-open b file d s)
        ∙ ap (λ (m : ℕ). ltb 480 m || ltb 480 (length x.code / 32)) (sym (length_records x.registers) ∙ ap length (registers_are b h read))
        ∙ ap (λ (m : ℕ). ltb 480 (length (of_class 1 rs)) || ltb 480 m) (sym (length_records x.code) ∙ ap length (code_is b h read))

    abbrev written : Bool → Outcome
    written t = cond t (refusal 8 0 out) (shortened (threaded_form (procedure_of rs)) out)

    by_limits : {t : Bool} → above_in (parts_in file) ≡ t → written t ≡ threaded b out
    by_limits f = ap written (sym f ∙ above-is) ∙ read-written read (written (above 480 480 rs))

    pub threaded_above : above_in (parts_in file) ≡ true → refusal 8 0 out ≡ threaded b out
    threaded_above f = by_limits f

    pub threaded_put : above_in (parts_in file) ≡ false → {o : Outcome}
        → ((p : Procedure) → Opened p (parts_in file) → Fits 480 160 (parts_in file) → o ≡ shortened (threaded_form p) out) → o ≡ threaded b out
    threaded_put f put =
        let a = or_parts (ltb 480 (length (of_class 1 rs))) (ltb 480 (length (of_class 4 rs))) (sym above-is ∙ f) in
        let i = ltb-false 480 (length (of_class 1 rs)) a.0 in
        let j = ltb-false 480 (length (of_class 4 rs)) a.1 in
        let o = subst (Opened (procedure_of rs)) (sym (parts-open b file d s)) (opened b h read (record { accepted = read; registers = i; code = j })) in
        put (procedure_of rs) o (all-fit o) ∙ by_limits f

  -- by the number that was asked
  abbrev third : ℕ → Outcome
  third which = cond (eqb which 2) (sliced b out) (refusal 10 0 out)

  pub form-sent : {which : ℕ} → which ≡ 0 → sent b out ≡ form_of which b out
  form-sent {which} e = ap (λ (t : Bool). cond t (sent b out) (cond (eqb which 1) (threaded b out) (third which))) (sym (eq-eqb which 0 e))

  not-sent : {which : ℕ} → (which ≡ 0 → ⊥) → cond (eqb which 1) (threaded b out) (third which) ≡ form_of which b out
  not-sent {which} n =
      ap (λ (t : Bool). cond t (sent b out) (cond (eqb which 1) (threaded b out) (third which))) (sym (ne_eqb which 0 n))

  pub form-threaded : {which : ℕ} → (which ≡ 0 → ⊥) → which ≡ 1 → threaded b out ≡ form_of which b out
  form-threaded {which} n e = ap (λ (t : Bool). cond t (threaded b out) (third which)) (sym (eq-eqb which 1 e)) ∙ not-sent n

  not-threaded : {which : ℕ} → (which ≡ 0 → ⊥) → (which ≡ 1 → ⊥) → third which ≡ form_of which b out
  not-threaded {which} n m = ap (λ (t : Bool). cond t (threaded b out) (third which)) (sym (ne_eqb which 1 m)) ∙ not-sent n

  pub form-sliced : {which : ℕ} → (which ≡ 0 → ⊥) → (which ≡ 1 → ⊥) → which ≡ 2 → sliced b out ≡ form_of which b out
  form-sliced {which} n m e = ap (λ (t : Bool). cond t (sliced b out) (refusal 10 0 out)) (sym (eq-eqb which 2 e)) ∙ not-threaded n m

  pub form-none : {which : ℕ} → (which ≡ 0 → ⊥) → (which ≡ 1 → ⊥) → (which ≡ 2 → ⊥) → refusal 10 0 out ≡ form_of which b out
  form-none {which} n m k = ap (λ (t : Bool). cond t (sliced b out) (refusal 10 0 out)) (sym (ne_eqb which 2 k)) ∙ not-threaded n m
