use Rattle.line.proofs.Laws.{then}
use Rattle.listing.specs.Listing.{reg_line}
use Rattle.listing.proofs.put_reg.Goals as goal

pub returns : goal.returns
unfolding reg_line
returns c = then (then c.put_numbered.ensures.put c.put_numbered-2.ensures.put) c.put_byte.ensures
