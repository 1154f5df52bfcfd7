use Rattle.line.proofs.Laws.{then}
use Rattle.listing.specs.Listing.{moved_text}
use Rattle.listing.proofs.put_moved.Goals as goal

pub returns : goal.returns
unfolding moved_text
returns c = then c.put_numbered.ensures.put c.put_numbered-2.ensures.put
