use Rattle.std.proofs.Common.{◌≡◌, ◌≤◌, ◌-◌, ◌/◌, length}
use Rattle.facts.specs.Storage.{operands_in}
use Rattle.kc.specs.Storage.{kc_in}
use Rattle.slice.specs.Sliced.{pass, passed_block, passed_from}
use Rattle.slice.proofs.slice_block.Given as goal

abbrev pub invariant-loop-k : goal.invariant-loop-k
invariant-loop-k l =
    let kc = kc_in l.kc in
    let ops = operands_in l.operands in
    record {
      is : length l.fn.code / 32 ≤ length l.known.rows.now
          → passed_from kc ops (l.k-end - l.k) l.k (pass l.code l.any l.known) ≡ passed_block kc ops l.fn.r l.fn.code;
      count : l.known.n ≤ l.k;
      long : length l.known.rows.now ≡ length l.fn.known.rows.now;
      size : length l.code ≡ length l.fn.code;
    }
