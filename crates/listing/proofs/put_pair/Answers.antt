use Rattle.line.proofs.Laws.{then}
use Rattle.listing.specs.Listing.{pair}
use Rattle.listing.proofs.put_pair.Goals as goal

pub returns : goal.returns
unfolding pair
returns c = then c.put_numbered.ensures.put c.put_numbered-2.ensures.put
