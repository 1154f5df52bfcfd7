use Rattle.line.proofs.Laws.{then}
use Rattle.listing.specs.Listing.{priced_line}
use Rattle.listing.proofs.put_priced.Goals as goal

pub returns : goal.returns
unfolding priced_line
returns c = then (then (then c.put_moved.ensures c.put_fresh.ensures) c.put_numbered.ensures.put) c.put_byte.ensures
