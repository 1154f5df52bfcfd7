use Rattle.line.proofs.Laws.{then}
use Rattle.listing.specs.Listing.{places_text}
use Rattle.listing.proofs.put_places.Goals as goal

pub returns : goal.returns
unfolding places_text
returns c = then (then c.put_pair.ensures c.put_pair-2.ensures) c.put_pair-3.ensures
