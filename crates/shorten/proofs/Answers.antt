-- Shorten's answer within limits, by the way that the code came to it, and what follows of every answer.
use Prim.Native.Nat.{ℕ, ◌+◌, ◌/◌, ◌≤◌, ◌<◌}
use native.Mathlib.Omega.{arith}
use mathlib.Core.Path.{◌≡◌, refl, sym, ap, subst, ◌∙◌}
use mathlib.Core.Bool.{Bool, true, false}
use mathlib.Core.List.{List, ◌++◌}
use mathlib.Core.Logic.{◌⊎◌, inl, inr}
use borrow.Author.Tests.{lt-ltb, le-ltb, eq-eqb, ne_eqb, ltb-false}
use lib.Dec.{eqb, ltb}
use lib.ListN.{length, take, drop}
use Rattle.general.proofs.Booleans.{otherwise}
use Rattle.records.specs.declared.Record.{Record}
use Rattle.records.specs.Record.{records_of}
use Rattle.records.proofs.Laws.{length_records}
use Rattle.put_record.specs.Store.{Bytes}
use Rattle.layout.specs.Classes.{of_class}
use Rattle.read.specs.Reading.{Reading, reading, answer}
use Rattle.procedure.specs.Procedure.{procedure_of}
use Rattle.round_trips.proofs.Accepted.{or_first, or_second}
use Rattle.std.specs.Prelude.{◌≢◌, Option, None, Result, Ok, Err, IfOk, IfErr}
use Rattle.std.proofs.lemmas.Bool.{or_left}
use Rattle.inst.specs.declared.Reg.{Reg}
use Rattle.read.specs.declared.Reason.TheVariants.{Output}
use Rattle.read.specs.declared.Refusal.{Refusal}
use Rattle.read.specs.Refusal.{number_of}
use Rattle.read.proofs.Reasons.{no_zero}
use Rattle.tidy.specs.Tidy.{Tidiness, Tidy, tidiness}
use Rattle.tidy.specs.Told.{tidiness_of}
use Rattle.steps.specs.declared.Shortening.{Shortening}
use Rattle.steps.specs.Told.{told}
use Rattle.steps.specs.Shorten.{Answer, Outcome, refusal, above, run_unless, accept_if, shorten_within, shorten, instructions}
use Rattle.steps.specs.Slice.{some_test}
use Rattle.steps.specs.Run.{sliced_form}
use Rattle.machine.specs.Demand.{Demand3}
use Rattle.demand.specs.Lengths.{Demand3Where}
use Rattle.step_laws.proofs.Shorten.{Within, shortened_accepted, room-enough, unmoved_same, few-instructions}
use Rattle.promise.specs.Promise.{held}
use Rattle.promise.proofs.Promised.{promise}
use Rattle.parts.specs.declared.File.{File}
use Rattle.parts.specs.Parts.{starts_in, parts_in}
use Rattle.procedure_parts.specs.Opened.{Parts, parts_of}
use Rattle.procedure_parts.proofs.Laws.{registers_are, code_is, opened}
use Rattle.output.specs.Filed.{outcome}
use Rattle.shorten.specs.Storage.{Done, Accepted}
use Rattle.shorten.proofs.Tidied.{refused_too, yes_tidy}

-- the parts of a file that is opened
pub parts-open : (b : List ℕ) (file : File) → file.bytes.now ≡ b → file.layout ≡ starts_in (records_of b) → parts_in file ≡ parts_of b (starts_in (records_of b))
parts-open b file e h = ap (λ (d : List ℕ). parts_of d file.layout) e ∙ ap (parts_of b) h

-- a file that is opened, and that Read has accepted
pub accepted-open : (b : List ℕ) (file : File) → Bytes b → (reading b).number ≡ 0 → file.bytes.now ≡ b → file.layout ≡ starts_in (records_of b) → Accepted file
accepted-open b file h read e l =
    record {
      bytes = subst Bytes (sym e) h;
      number = ap (λ (d : List ℕ). (reading d).number) e ∙ read;
      layout = l ∙ ap (λ (d : List ℕ). starts_in (records_of d)) (sym e);
    }

-- a test of a part's length, by the part that was cut
pub by_part : (f : Parts → List ℕ) {x z : Parts} {y : List ℕ} → x ≡ z → y ≡ f x → (P : ℕ → Type 0) → P (length y) → P (length (f z))
by_part f e h P p = subst (λ (x : Parts). P (length (f x))) e (subst (λ (y : List ℕ). P (length y)) h p)

-- Read's answer, of the file's bytes
pub read_number : (b : List ℕ) {r : Reading} → r ≡ reading b → r.number ≡ 0 → (reading b).number ≡ 0
read_number b e n = sym (ap (λ (q : Reading). q.number) e) ∙ n

-- with limits for registers and instructions
module _ (registers code : ℕ) (b out : List ℕ) where
  abbrev rs : List Record
  rs = records_of b

  -- "The same seven"
  pub refused_is : {r : Reading} → r ≡ reading b → (r.number ≡ 0 → ⊥) → refusal r.number r.place out ≡ shorten_within registers code b out
  unfolding shorten_within
  refused_is {r} e n =
      ap (λ (q : Reading). refusal q.number q.place out) e
      ∙ ap (λ (t : Bool). accept_if t (reading b) registers code rs out) (sym (ne_eqb (reading b).number 0 (λ z. n (ap (λ (q : Reading). q.number) e ∙ z))))

  module _ (h : Bytes b) (read : (reading b).number ≡ 0) where
    limits-is : {t : Bool} → above registers code rs ≡ t → run_unless t rs out ≡ shorten_within registers code b out
    unfolding shorten_within
    limits-is {t} a =
        ap (λ (u : Bool). run_unless u rs out) (sym a)
        ∙ ap (λ (u : Bool). accept_if u (reading b) registers code rs out) (sym (eq-eqb (reading b).number 0 read))

    abbrev x : Parts
    x = parts_of b (starts_in rs)

    n-registers : length x.registers / 32 ≡ length (of_class 1 rs)
    n-registers = sym (length_records x.registers) ∙ ap length (registers_are b h read)

    n-code : length x.code / 32 ≡ length (of_class 4 rs)
    n-code = sym (length_records x.code) ∙ ap length (code_is b h read)

    -- "8 above the shortening limits"
    pub many-registers : registers < length x.registers / 32 → refusal 8 0 out ≡ shorten_within registers code b out
    many-registers i =
        let m = n-registers in
        limits-is (or_left _ (ltb code (length (of_class 4 rs))) (lt-ltb registers (length (of_class 1 rs)) (omega arith)))

    pub much-code : length x.registers / 32 ≤ registers → code < length x.code / 32 → refusal 8 0 out ≡ shorten_within registers code b out
    much-code i j =
        let m = n-registers in
        let k = n-code in
        limits-is (sym (otherwise (le-ltb registers (length (of_class 1 rs)) (omega arith)) (sym (lt-ltb code (length (of_class 4 rs)) (omega arith)))))

    -- within them, which are at most 480
    pub shortened-is : (r : Result Shortening Refusal) {out' : List ℕ} → registers ≤ 480 → code ≤ 480
        → length x.registers / 32 ≤ registers → length x.code / 32 ≤ code
        → Done x r out out' → outcome (told r) out' ≡ shorten_within registers code b out
    shortened-is r few less i j d =
        let m = n-registers in
        let k = n-code in
        let w : Within b = record { accepted = read; registers = omega arith; code = omega arith } in
        d (procedure_of rs) (opened b h read w)
        ∙ limits-is (sym (otherwise (le-ltb registers (length (of_class 1 rs)) (omega arith)) (sym (le-ltb code (length (of_class 4 rs)) (omega arith)))))

  -- limits of at most 480 give Shorten's own answer, or refuse more
  pub within : registers ≤ 480 → code ≤ 480 → (shorten_within registers code b out ≡ shorten b out) ⊎ (shorten_within registers code b out ≡ refusal 8 0 out)
  unfolding shorten_within
  within few less = by (eqb (reading b).number 0)
    where
      by-limits : (t : Bool) → above registers code rs ≡ t → (run_unless t rs out ≡ run_unless (above 480 480 rs) rs out) ⊎ (run_unless t rs out ≡ refusal 8 0 out)
      by-limits true e = inr refl
      by-limits false e =
          let i = ltb-false registers (length (of_class 1 rs)) (or_first (ltb registers (length (of_class 1 rs))) _ e) in
          let j = ltb-false code (length (of_class 4 rs)) (or_second (ltb registers (length (of_class 1 rs))) _ e) in
          inl
          (ap (λ (u : Bool). run_unless u rs out)
          (otherwise (le-ltb 480 (length (of_class 1 rs)) (omega arith)) (sym (le-ltb 480 (length (of_class 4 rs)) (omega arith)))))

      by : (t : Bool) → (accept_if t (reading b) registers code rs out ≡ accept_if t (reading b) 480 480 rs out)
          ⊎ (accept_if t (reading b) registers code rs out ≡ refusal 8 0 out)
      by true = by-limits (above registers code rs) refl
      by false = inl refl

-- what the contract says of a result and a buffer, with the clause that gives the answer
abbrev pub Clauses : Type 0 → List ℕ → List ℕ → Result Shortening Refusal → List ℕ → Type 0
Clauses E b out r out' = record {
  is : E;
  accepted : IfOk r (λ s. reading (take s.length out') ≡ answer 0 0);
  room : 61728 ≤ length out → IfErr r (λ e. e.reason ≢ Output);
  unmoved : IfOk r (λ s. s.moved ≡ false → out' ≡ b ++ drop (length b) out);
  bound : IfOk r (λ s. instructions (take s.length out') ≤ instructions b + instructions b / 2 + 36);
  demand3 : IfOk r (λ s. Tidy (held b) → Demand3Where (held b) (sliced_form (held b)) (held (take s.length out')) s.rescued);
  unsliced : IfOk r (λ s. Tidy (held b) → some_test (sliced_form (held b)).tests ≡ false → Demand3 (held b) (held (take s.length out')) s.rescued);
}

-- an answer and a buffer that are Shorten's
module _ (b out : List ℕ) (h : Bytes b) (a : Answer) (out' : List ℕ) (e : outcome a out' ≡ shorten b out) where
  number : a.number ≡ (shorten b out).answer.number
  number = ap (λ (o : Outcome). o.answer.number) e

  part : take a.length out' ≡ take (shorten b out).answer.length (shorten b out).output
  part = ap (λ (o : Outcome). take o.answer.length o.output) e

  result-accepted : a.number ≡ 0 → reading (take a.length out') ≡ answer 0 0
  result-accepted z = ap reading part ∙ shortened_accepted b out h (sym number ∙ z)

  never-nine : 61728 ≤ length out → a.number ≡ 9 → ⊥
  never-nine i z = room-enough b out h i (sym number ∙ z)

  result-unmoved : a.number ≡ 0 → a.moved ≡ 0 → out' ≡ b ++ drop (length b) out
  result-unmoved z m =
      ap (λ (o : Outcome). o.output) e ∙ unmoved_same b out h (sym number ∙ z) (sym (ap (λ (o : Outcome). o.answer.moved) e) ∙ m)

  result-few : a.number ≡ 0 → instructions (take a.length out') ≤ instructions b + instructions b / 2 + 36
  result-few z =
      subst (λ (c : List ℕ). instructions c ≤ instructions b + instructions b / 2 + 36) (sym part) (few-instructions b out h (sym number ∙ z))

  result-promised : a.number ≡ 0 → Tidy (held b) → Demand3Where (held b) (sliced_form (held b)) (held (take a.length out')) a.rescued
  result-promised z t =
      subst (λ (o : Outcome). Demand3Where (held b) (sliced_form (held b)) (held (take o.answer.length o.output)) o.answer.rescued) (sym e)
      (promise b out h (sym number ∙ z) t).0

  result-unsliced : a.number ≡ 0 → Tidy (held b) → some_test (sliced_form (held b)).tests ≡ false → Demand3 (held b) (held (take a.length out')) a.rescued
  result-unsliced z t u =
      subst (λ (o : Outcome). Demand3 (held b) (held (take o.answer.length o.output)) o.answer.rescued) (sym e)
      ((promise b out h (sym number ∙ z) t).1 u)

-- all of them, of a result that tells it
pub all : (b out : List ℕ) → Bytes b → (r : Result Shortening Refusal) (out' : List ℕ) → outcome (told r) out' ≡ shorten b out → {E : Type 0} → E → Clauses E b out r out'
all b out h (Ok s) out' e f =
    let a = told (Ok s) in
    record {
      is = f;
      accepted = result-accepted b out h a out' e refl;
      room = λ i. tt;
      unmoved = λ m. result-unmoved b out h a out' e refl (rw m refl);
      bound = result-few b out h a out' e refl;
      demand3 = result-promised b out h a out' e refl;
      unsliced = result-unsliced b out h a out' e refl;
    }
all b out h (Err x) out' e f =
    record {
      is = f;
      accepted = tt;
      room = λ i n. never-nine b out h (told (Err x)) out' e i (ap number_of n);
      unmoved = tt;
      bound = tt;
      demand3 = tt;
      unsliced = tt;
    }

-- the clauses behind the equation hold of a refusal with another number than 9
pub refused-clauses : (n : ℕ) → (n ≡ 0 → ⊥) → (n ≡ 9 → ⊥) → (b out : List ℕ) (r : Result Shortening Refusal) (out' : List ℕ)
    → outcome (told r) out' ≡ refusal n 0 out → {E : Type 0} → E → Clauses E b out r out'
refused-clauses n some other b out (Ok s) out' e f = absurd (some (sym (ap (λ (o : Outcome). o.answer.number) e)))
refused-clauses n some other b out (Err x) out' e f =
    let is : number_of x.reason ≡ n = ap (λ (o : Outcome). o.answer.number) e in
    let nine : x.reason ≡ Output → ⊥ = λ z. other (sym is ∙ ap number_of z) in
    record { is = f; accepted = tt; room = λ i. nine; unmoved = tt; bound = tt; demand3 = tt; unsliced = tt }

-- and so of every result within limits of at most 480
pub clauses : (registers code : ℕ) (b out : List ℕ) → Bytes b → registers ≤ 480 → code ≤ 480 → (r : Result Shortening Refusal) (out' : List ℕ)
    → outcome (told r) out' ≡ shorten_within registers code b out → Clauses (outcome (told r) out' ≡ shorten_within registers code b out) b out r out'
clauses registers code b out h few less r out' e = by (within registers code b out few less)
  where
    by : (shorten_within registers code b out ≡ shorten b out) ⊎ (shorten_within registers code b out ≡ refusal 8 0 out)
        → Clauses (outcome (told r) out' ≡ shorten_within registers code b out) b out r out'
    by (inl s) = all b out h r out' (e ∙ s) e
    by (inr s) = refused-clauses 8 (λ z. omega arith) (λ z. omega arith) b out r out' (e ∙ s) e

-- a file that Tidy refuses
pub refused-by-tidy : (b out : List ℕ) (x : Refusal) → tidiness_of (Err x) ≡ tidiness b → refusal (number_of x.reason) x.place out ≡ shorten b out
refused-by-tidy b out x e =
    let m : (tidiness b).number ≡ 0 → ⊥ = λ z. no_zero x.reason (ap (λ (t : Tidiness). t.number) e ∙ z) in
    ap (λ (t : Tidiness). refusal t.number t.place out) e ∙ refused_is 480 480 b out (refused_too b m) m

-- a file of which Tidy says yes
pub yes-told : (b : List ℕ) (t : Result (Option Reg) Refusal) → tidiness_of t ≡ tidiness b → t ≡ Ok None → Tidy (held b)
yes-told b t f y = yes_tidy b (ap (λ (x : Tidiness). x.tidy) (sym f) ∙ ap (λ (r : Result (Option Reg) Refusal). (tidiness_of r).tidy) y)

-- the answers of Tidy and Shorten together
pub provisioned : (b out : List ℕ) → Bytes b → (t : Result (Option Reg) Refusal) → tidiness_of t ≡ tidiness b
    → (r : Result Shortening Refusal) (out' : List ℕ) → outcome (told r) out' ≡ shorten b out
    → record {
      tidiness : tidiness_of t ≡ tidiness b;
      is : outcome (told r) out' ≡ shorten b out;
      accepted : IfOk r (λ s. reading (take s.length out') ≡ answer 0 0);
      room : 61728 ≤ length out → IfErr r (λ e. e.reason ≢ Output);
      unmoved : IfOk r (λ s. s.moved ≡ false → out' ≡ b ++ drop (length b) out);
      bound : IfOk r (λ s. instructions (take s.length out') ≤ instructions b + instructions b / 2 + 36);
      demand3 : IfOk r (λ s. Tidy (held b) → Demand3Where (held b) (sliced_form (held b)) (held (take s.length out')) s.rescued);
      unsliced : IfOk r (λ s. Tidy (held b) → some_test (sliced_form (held b)).tests ≡ false → Demand3 (held b) (held (take s.length out')) s.rescued);
      promised : IfOk r (λ s. t ≡ Ok None → Demand3Where (held b) (sliced_form (held b)) (held (take s.length out')) s.rescued);
    }
provisioned b out h t f r out' e =
    let c = all b out h r out' e e in
    record {
      tidiness = f;
      is = e;
      accepted = c.accepted;
      room = c.room;
      unmoved = c.unmoved;
      bound = c.bound;
      demand3 = c.demand3;
      unsliced = c.unsliced;
      promised = yes r c.demand3;
    }
  where
    yes : (r : Result Shortening Refusal) → IfOk r (λ s. Tidy (held b) → Demand3Where (held b) (sliced_form (held b)) (held (take s.length out')) s.rescued)
        → IfOk r (λ s. t ≡ Ok None → Demand3Where (held b) (sliced_form (held b)) (held (take s.length out')) s.rescued)
    yes (Ok s) d = λ y. d (yes-told b t f y)
    yes (Err x) d = tt
