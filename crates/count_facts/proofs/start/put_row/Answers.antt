use native.Mathlib.Omega.{arith}
use lib.ListN.{length-set}
use Rattle.count_facts.proofs.Begun.{five-put}
use Rattle.count_facts.proofs.start.put_row.Goals as goal

pub bounds-table-at-2 : goal.bounds-table-at-2
bounds-table-at-2 c = simp length-set (omega arith)

pub bounds-table-at-3 : goal.bounds-table-at-3
bounds-table-at-3 c = simp length-set (omega arith)

pub bounds-table-at-4 : goal.bounds-table-at-4
bounds-table-at-4 c = simp length-set (omega arith)

pub bounds-table-at-5 : goal.bounds-table-at-5
bounds-table-at-5 c = simp length-set (omega arith)

pub returns : goal.returns
returns c = five-put c.args.table.now c.args.at c.args.kind c.requires
