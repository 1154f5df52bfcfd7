-- A part of a file's bytes: its records, its length, and the parts one after the other.
use Prim.Native.Nat.{ℕ, ◌+◌, ◌*◌, ◌-◌, ◌/◌, ◌≤◌, min}
use native.Mathlib.Omega.{arith}
use mathlib.Core.Path.{◌≡◌, sym, ap, ◌∙◌}
use mathlib.Core.List.{List, ◌++◌}
use lib.ListN.{length, take, drop, length-drop, take-append-drop}
use lib.Seq.{length-take-le, drop-drop}
use Rattle.records.specs.declared.Record.{Record}
use Rattle.records.specs.Record.{records_of}
use Rattle.records.proofs.Laws.{length_records}
use Rattle.put_record.specs.Store.{Bytes}
use Rattle.read.specs.Work.{part}
use Rattle.blocks.proofs.Parts.{records_in_lem}
use Rattle.blocks.proofs.Bytes.{bytes-part}
use Rattle.records.specs.Part.{part_of}

-- a record that a block from x to y would have
abbrev from-to : ℕ → ℕ → Record
from-to x y = record { class = 0; kind = 0; op = 0; zero = 0; stmt = 0; p1 = x; p2 = y; p3 = 0; p4 = 0; p5 = 0; p6 = 0 }

module _ (b : List ℕ) (x y : ℕ) where
  pub records_of_lem : records_of (part_of b x y) ≡ part x (y - x) (records_of b)
  records_of_lem = records_in_lem b (from-to x y)

  pub bytes_of_lem : Bytes b → Bytes (part_of b x y)
  bytes_of_lem h = let e = min y (length b / 32) in let s = min x e in bytes-part (32 * e - 32 * s) (32 * s) b h

  -- whole records
  pub length_of : length (part_of b x y) ≡ 32 * length (records_of (part_of b x y))
  length_of =
      let e = min y (length b / 32) in
      let s = min x e in
      let d = length-drop (32 * s) b in
      let l = length-take-le (32 * e - 32 * s) (drop (32 * s) b) (omega arith) in
      let n = length_records (part_of b x y) in
      omega arith

  -- a part and what follows it
  pub part_rest : x ≤ y → y ≤ length b / 32 → part_of b x y ++ drop (32 * y) b ≡ drop (32 * x) b
  part_rest h i =
      let e : min y (length b / 32) ≡ y = omega arith in
      let s : min x y ≡ x = omega arith in
      let m : 32 * x + (32 * y - 32 * x) ≡ 32 * y = omega arith in
      rw (e, s)
      (ap (λ (k : ℕ). take (32 * y - 32 * x) (drop (32 * x) b) ++ drop k b) (sym m)
      ∙ ap (λ (l : List ℕ). take (32 * y - 32 * x) (drop (32 * x) b) ++ l) (sym (drop-drop (32 * y - 32 * x) (32 * x) b))
      ∙ take-append-drop (32 * y - 32 * x) (drop (32 * x) b))
