use Rattle.line.proofs.Laws.{then}
use Rattle.listing.specs.Listing.{block_line}
use Rattle.listing.proofs.put_block.Goals as goal

pub returns : goal.returns
unfolding block_line
returns c = then (then c.put_numbered.ensures.put c.put_pair.ensures) c.put_byte.ensures
