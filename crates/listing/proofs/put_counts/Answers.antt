use Rattle.line.proofs.Laws.{then}
use Rattle.listing.specs.Listing.{counts_line}
use Rattle.listing.proofs.put_counts.Goals as goal

pub returns : goal.returns
unfolding counts_line
returns c = then (then c.put_moved.ensures c.put_fresh.ensures) c.put_byte.ensures
