use Rattle.std.proofs.Common.{◌≡◌, ◌≤◌, ◌/◌, length, drop}
use Rattle.records.specs.Record.{records_of}
use Rattle.facts.specs.Storage.{operands_in}
use Rattle.steps.specs.Slice.{no_lengths}
use Rattle.kc.specs.Storage.{kc_in}
use Rattle.slice.specs.Sliced.{passed_all, passed_blocks}
use Rattle.slice.proofs.slice_tests.Given as goal

abbrev pub invariant-loop-b : goal.invariant-loop-b
invariant-loop-b l =
    let kc = kc_in l.kc in
    let ops = operands_in l.operands in
    record {
      is : length l.fn.code / 32 ≤ length l.fn.rows
          → passed_blocks kc ops (drop l.b (records_of l.heads)) (record { code = l.code; any = l.any; known = no_lengths })
          ≡ passed_all kc ops l.heads l.fn.code;
      long : length l.known.rows.now ≡ length l.fn.rows;
      size : length l.code ≡ length l.fn.code;
    }
