-- The round trips between a file that Read accepts and a well-formed procedure.
use Prim.Native.Nat.{ℕ, ◌≤◌}
use native.Mathlib.Omega.{arith}
use mathlib.Core.Path.{◌≡◌, sym, ap, subst, ◌∙◌}
use mathlib.Core.List.{List}
use lib.ListN.{length}
use Rattle.records.specs.Record.{records_of}
use Rattle.put_record.specs.Store.{Bytes}
use Rattle.read.specs.Reading.{checked, answer}
use Rattle.layout.specs.Classes.{of_class}
use Rattle.procedure.specs.Procedure.{Procedure, procedure_of}
use Rattle.procedure.specs.Lists.{joined}
use Rattle.steps.specs.Write.{records_for, bytes_of}
use Rattle.round_trips.specs.WellFormed.{WellFormed}
use Rattle.round_trips.proofs.Bytes.{bytes_back, bytes-length, records_back, records_fit}
use Rattle.round_trips.proofs.Accepted.{Accepted, read_accepted, accepted_read}
use Rattle.round_trips.proofs.FromRecords as From
use Rattle.round_trips.proofs.ToRecords as To

module _ (b : List ℕ) (h : Bytes b) (e : (checked b).number ≡ 0) where
  -- an accepted file's procedure is well formed
  pub read_well_formed : WellFormed (procedure_of (records_of b))
  read_well_formed = From.well_formed (records_of b) (read_accepted b e).2 (records_fit b h)

  -- and writes back the same bytes
  pub write_back : bytes_of (records_for (procedure_of (records_of b))) ≡ b
  write_back = ap bytes_of (From.records_same (records_of b) (read_accepted b e).2 (records_fit b h)) ∙ bytes_back b (read_accepted b e).0 h

  -- as many registers and instructions as the file has records of them
  pub read-registers : length (procedure_of (records_of b)).registers ≡ length (of_class 1 (records_of b))
  read-registers = From.n-registers (records_of b) (read_accepted b e).2 (records_fit b h)

  pub read-code : length (joined (procedure_of (records_of b)).blocks) ≡ length (of_class 4 (records_of b))
  read-code = From.n-code (records_of b) (read_accepted b e).2 (records_fit b h)

module _ (p : Procedure) (w : WellFormed p) where
  written_records : records_of (bytes_of (records_for p)) ≡ records_for p
  written_records = records_back (records_for p) (To.records_fit p w)

  -- the bytes of a well-formed procedure: 1,929 records at most
  pub written-few : length (bytes_of (records_for p)) ≤ 61728
  written-few = let e = bytes-length (records_for p) in let i = To.records_few p w in omega arith

  -- are accepted
  pub written_accepted : checked (bytes_of (records_for p)) ≡ answer 0 0
  written_accepted =
      let e = bytes-length (records_for p) in
      let i = written-few in
      accepted_read (bytes_of (records_for p)) (omega arith) (omega arith) (subst Accepted (sym written_records) (To.records_accepted p w))

  -- and read back as the procedure
  pub read_back : procedure_of (records_of (bytes_of (records_for p))) ≡ p
  read_back = ap procedure_of written_records ∙ To.procedure-same p w

  -- with as many instruction records as it has instructions
  pub written-code : length (of_class 4 (records_of (bytes_of (records_for p)))) ≡ length (joined p.blocks)
  written-code =
      ap (λ rs. length (of_class 4 rs)) written_records
      ∙ sym (From.n-code (records_for p) (To.records_accepted p w) (To.records_fit p w))
      ∙ ap (λ (q : Procedure). length (joined q.blocks)) (To.procedure-same p w)
