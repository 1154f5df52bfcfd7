-- Laws of the result: refused where the buffer is shorter, and else its bytes; how many records it has.
use Prim.Native.Nat.{ℕ, ◌+◌, ◌*◌, ◌/◌, ◌≤◌, ◌<◌, ◌^◌}
use native.Mathlib.Numerals.{add-one}
use native.Mathlib.Omega.{arith}
use mathlib.Core.Path.{◌≡◌, sym, ap, ◌∙◌}
use mathlib.Core.List.{List, [], ◌∷◌, ◌++◌}
use borrow.Author.Tests.{lt-ltb, le-ltb}
use lib.ListN.{length, get_or, drop, length-append, length-map, drop_of_length-le}
use lib.Seq.{drop-cons}
use Rattle.records.specs.declared.Record.{Record}
use Rattle.records.proofs.Laws.{length_records}
use Rattle.ops.specs.Ops.{reg_ty_of}
use Rattle.items.specs.Items.{register_record}
use Rattle.steps.specs.Run.{Shortened}
use Rattle.steps.specs.Write.{bytes_of}
use Rattle.steps.specs.Shorten.{Answer, refused}
use Rattle.round_trips.proofs.Bytes.{bytes-length}
use Rattle.emit_records.specs.declared.Writer.{Writer}
use Rattle.emit_records.specs.Emitted.{Wrote}
use Rattle.emit_records.proofs.Bytes.{wrote_front}
use Rattle.output.specs.Filed.{outcome, filed, wrote, kind_records, form_records}

module _ (rs : List Record) (s : Shortened) (out : List ℕ) where
  abbrev b : List ℕ
  b = bytes_of rs

  pub filed_refused : {a : Answer} → length out / 32 < length rs → a ≡ refused 9 0 → outcome a out ≡ filed rs s out
  filed_refused h e =
      let l : length out < length b = omega (arith, bytes-length rs) in
      ap (λ (x : Answer). outcome x out) e ∙ sym (rw (lt-ltb (length out) (length b) l))

  pub filed-written : {a : Answer} {out' : List ℕ} {w w' : Writer} {n : ℕ} → n ≡ length rs → n ≤ length out / 32
      → a ≡ wrote (32 * n) s → w.out.now ≡ out → w.at ≡ 0 → Wrote w rs w' → out' ≡ w'.out.now → outcome a out' ≡ filed rs s out
  filed-written {out' = o} {w} {n = n} f h e is begun p last =
      let l : length b ≤ length out = omega (arith, bytes-length rs) in
      let m : 32 * n ≡ length b = omega (arith, bytes-length rs) in
      let room : length w.out.now ≡ length out = ap length is in
      let q = last ∙ wrote_front p begun (omega arith) ∙ ap (λ (o : List ℕ). b ++ drop (length b) o) is in
      ap (λ (x : Answer). outcome x o) e
      ∙ ap (outcome (wrote (32 * n) s)) q
      ∙ ap (λ (k : ℕ). outcome (wrote k s) (b ++ drop (length b) out)) m
      ∙ sym (rw (le-ltb (length out) (length b) l))

pub form-length : (registers kinds heads body code operands arms : List ℕ) → length (form_records registers kinds heads body code operands arms)
    ≡ length registers / 32 + length heads / 32 + length body / 32 + (length code / 32 + length operands / 32 + length arms / 32) + length kinds
form-length registers kinds heads body code operands arms = simp (length-append, length_records, length-map) (omega arith)

-- one register more
module _ (kinds : List ℕ) (k : ℕ) where
  pub kinds-one : k < length kinds → kind_records (drop k kinds) ≡ register_record (reg_ty_of (get_or kinds k 0)) ∷ kind_records (drop (k + 1) kinds)
  kinds-one h = ap kind_records (drop-cons kinds k 0 h) ∙ rw (add-one k)

  pub kinds-end : length kinds ≤ k → kind_records (drop k kinds) ≡ []
  kinds-end h = ap kind_records (drop_of_length-le kinds h)

pub room : (l n : ℕ) → n ≤ l / 32 → l < 2 ^ 64 → 32 * n < 18446744073709551616
room l n h i = omega arith
