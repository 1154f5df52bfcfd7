use Rattle.line.proofs.Laws.{then}
use Rattle.listing.specs.Listing.{code_line}
use Rattle.listing.proofs.put_code.Goals as goal

pub returns : goal.returns
unfolding code_line
returns c = then (then c.put_kind.ensures c.put_places.ensures) c.put_byte.ensures
