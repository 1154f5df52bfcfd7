-- Storage that holds a result is written as Shorten is defined to write it.
use Prim.Native.Nat.{ℕ, ◌≤◌}
use native.Mathlib.Omega.{arith}
use mathlib.Core.Path.{◌≡◌, refl, sym, ap, ◌∙◌}
use mathlib.Core.Bool.{Bool, true, false}
use mathlib.Core.List.{List, ◌++◌, map-append, append_assoc}
use lib.Dec.{ltb}
use lib.ListN.{length, length-append}
use Rattle.records.specs.declared.Record.{Record}
use Rattle.ops.specs.Ops.{reg_ty_of}
use Rattle.items.specs.Items.{register_record}
use Rattle.procedure.specs.Procedure.{Procedure}
use Rattle.steps.specs.Run.{Shortened}
use Rattle.steps.specs.Write.{records_for, bytes_of}
use Rattle.steps.specs.Shorten.{Outcome, fit_if, fit, shortened}
use Rattle.facts.specs.Storage.{kinds_of}
use Rattle.procedure_parts.specs.Opened.{Parts, Holds}
use Rattle.output.specs.declared.Changes.{Changes}
use Rattle.output.specs.declared.Form.{Form}
use Rattle.output.specs.Filed.{filed, counts, short, kind_records, form_records, records_in}
use Rattle.shortening.specs.Storage.{Tells}

-- the records of what parts hold, with new registers
abbrev records_with : Parts → List ℕ → List Record
records_with x kinds = form_records x.registers kinds x.heads x.body x.code x.operands x.arms

-- `fit` asks a result for its counts alone
counts-fit : (s : Shortened) (b out : List ℕ) → fit s b out ≡ fit (counts s.moved s.grown s.fresh s.rescued) b out
counts-fit s b out = by (ltb (length out) (length b))
  where
    by : (t : Bool) → fit_if t s b out ≡ fit_if t (counts s.moved s.grown s.fresh s.rescued) b out
    by true = refl
    by false = refl

-- a result by its records and counts
result : (s : Shortened) (rs : List Record) {did : Changes} {fresh : ℕ} (out : List ℕ)
    → records_for s.procedure ≡ rs → Tells s did fresh → filed rs (counts did.moved did.grown fresh did.rescued) out ≡ shortened s out
result s rs {did} {fresh} out a t =
    sym
    (counts-fit s (bytes_of (records_for s.procedure)) out
    ∙ ap (λ (r : List Record). fit (counts s.moved s.grown s.fresh s.rescued) (bytes_of r) out) a
    ∙ ap (λ (m : Bool). fit (counts m s.grown s.fresh s.rescued) (bytes_of rs) out) t.is-moved
    ∙ ap (λ (n : ℕ). fit (counts did.moved n s.fresh s.rescued) (bytes_of rs) out) t.is-grown
    ∙ ap (λ (n : ℕ). fit (counts did.moved did.grown n s.rescued) (bytes_of rs) out) t.is-fresh
    ∙ ap (λ (n : ℕ). fit (counts did.moved did.grown fresh n) (bytes_of rs) out) t.is-rescued)

-- registers that are sent and those that are new
registers-front : (sent kinds : List ℕ) (rest : List Record) → kind_records (sent ++ kinds) ++ rest ≡ kind_records sent ++ (kind_records kinds ++ rest)
registers-front sent kinds rest =
    ap (λ (l : List Record). l ++ rest) (map-append (λ k. register_record (reg_ty_of k)) sent kinds) ∙ append_assoc (kind_records sent) (kind_records kinds) rest

module _ {p : Procedure} {x : Parts} {kinds : List ℕ} (h : Holds p x kinds) where
  -- the records of what parts hold
  held_records : records_for p ≡ records_with x kinds
  unfolding records_for
  held_records =
      rw (h.register_records, h.coded.head_records, h.body_records_lem, h.coded.code_records_lem, h.operand_records, h.arm_records, ← h.registers)
      (registers-front (kinds_of x.registers) kinds _)

  few-kinds : length kinds ≤ 756
  few-kinds =
      let r = h.well_formed.registers in
      let e = ap length h.registers in
      let l = length-append (kinds_of x.registers) kinds in
      omega arith

-- by the form that is made of them
pub held-written : (x : Parts) (form : Form) {did : Changes} {o : Outcome} (out : List ℕ) → records_in form ≡ records_with x form.kinds.now
    → o ≡ filed (records_in form) (counts did.moved did.grown (short (length form.kinds.now)) did.rescued) out
    → (s : Shortened) → Holds s.procedure x form.kinds.now → Tells s did (length form.kinds.now) → o ≡ shortened s out
held-written x form {did} out r e s h t =
    let kinds = form.kinds.now in
    let few = few-kinds h in
    let n : short (length kinds) ≡ length kinds = omega arith in
    e
    ∙ ap (λ (rs : List Record). filed rs (counts did.moved did.grown (short (length kinds)) did.rescued) out) r
    ∙ ap (λ (k : ℕ). filed (records_with x kinds) (counts did.moved did.grown k did.rescued) out) n
    ∙ result s (records_with x kinds) out (held_records h) t
