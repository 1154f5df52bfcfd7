-- Shorten over lent storage that is enough is Shorten of the procedure that the parts hold.
use Prim.Native.Nat.{ℕ, ◌/◌, ◌≤◌}
use native.Mathlib.Omega.{arith}
use mathlib.Core.Path.{◌≡◌, refl, sym, ap, subst, ◌∙◌}
use mathlib.Core.Bool.{Bool, true, ◌&&◌}
use mathlib.Core.List.{List, [], map}
use Rattle.std.proofs.Common.{Option}
use lib.ListN.{length, take}
use lib.Seq.{take_all}
use Rattle.records.specs.Record.{records_of}
use Rattle.put_record.specs.Store.{Bytes}
use Rattle.layout.specs.declared.Layout.{Layout}
use Rattle.inst.specs.declared.Code.{Code}
use Rattle.procedure.specs.Procedure.{Procedure, first_of}
use Rattle.procedure.specs.Lists.{present}
use Rattle.steps.specs.Gate.{has_back_edge, may_thread}
use Rattle.steps.specs.Run.{unchanged, run}
use Rattle.procedure_parts.specs.Opened.{Parts, parts_of, recoded, Holds, Parted, Opened}
use Rattle.run.specs.Ran.{Left, opens_in, ran_in, NoStep}
use Rattle.run.proofs.Lent.{Held}
use Rattle.run.proofs.Joins.{work-blocks}
use Rattle.run.proofs.Unchanged.{no_step_run}
use Rattle.shortening.specs.Storage.{fronted, Lent, opens_for, NoStepIn, Enough, LeftOf}
use Rattle.shortening.proofs.Fronts.{fronted-length, fronted_first}

-- where no step does anything, the parts as they were sent are the result
pub sent-run : (p : Procedure) (x : Parts) → Opened p x → NoStepIn x → run p ≡ unchanged p
sent-run p x o s = no_step_run p x o (subst (λ (b : Option ℕ). NoStep b x.code x.heads) o.parted.body s)

module _ (b : List ℕ) (l : Layout) where
  abbrev x : Parts
  x = parts_of b l

  pub sent-held : {code heads : List ℕ} → code ≡ x.code → heads ≡ x.heads → (p : Procedure) → Parted p x → Holds p (recoded x code heads) []
  sent-held c h p o = rw (c, h) o

  -- and what `run` left
  pub left_of : (s : Lent) {code heads body registers operands work table : List ℕ} {pause : Option ℕ} {n : ℕ} {z : Left}
      → code ≡ x.code → work ≡ fronted s.work code
      → heads ≡ x.heads → table ≡ fronted s.table heads
      → body ≡ x.body → pause ≡ first_of (map (λ r. r.p1) (records_of body))
      → registers ≡ x.registers → operands ≡ x.operands → n ≡ length code / 32
      → z ≡ ran_in pause s.known s.copy operands registers n work table s.kinds s.facts
      → Bytes work → (p : Procedure) → Opened p x → Enough x s → LeftOf p x z
  left_of s c w h t y p r q n z bytes _ o e =
      record { opened = o; storage = s; enough = e; bytes = subst Bytes (w ∙ ap (fronted s.work) c) bytes; is = z ∙ rw (p, y, q, r, n, w, t, c, h) refl }

  -- and the gate of the code that was put there
  pub opens-still : (s : Lent) {code heads body work table : List ℕ} {pause : Option ℕ} → code ≡ x.code → work ≡ fronted s.work code
      → heads ≡ x.heads → table ≡ fronted s.table heads → body ≡ x.body → pause ≡ first_of (map (λ r. r.p1) (records_of body))
      → Bytes work → (p : Procedure) → Opened p x → Enough x s → opens_for x ≡ true → opens_in pause work table ≡ true
  opens-still s {work = work} {table} {pause} c w h t y q bytes p o e f =
      let n = o.parted.coded.code-length in
      let room = e.work in
      let wide = e.table in
      let fits : length x.code ≤ length s.work = omega arith in
      let at : work ≡ fronted s.work x.code = w ∙ ap (fronted s.work) c in
      let long = fronted-length s.work x.code fits in
      let held : Held p x work = record {
        opened = o;
        bytes = bytes;
        code = ap (take (length x.code)) at ∙ fronted_first s.work x.code fits;
        fit = omega (arith, ap (λ (l : List ℕ). length l) at);
      } in
      let heads-first = fronted_first s.table x.heads (omega arith) in
      let heads-long = fronted-length s.table x.heads (omega arith) in
      let heads-at : table ≡ x.heads = t ∙ ap (fronted s.table) h ∙ sym (take_all (length x.heads) (fronted s.table x.heads) (omega arith)) ∙ heads-first in
      let gate : (P : List (List Code)) → Bool =
      λ (P : List (List Code)). has_back_edge P && may_thread (present (first_of (map (λ r. r.p1) (records_of x.body)))) P in
      rw (heads-at, q, y) (ap gate (work-blocks held ∙ sym o.parted.blocks) ∙ f)
