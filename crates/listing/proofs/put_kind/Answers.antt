use Rattle.line.proofs.Laws.{then}
use Rattle.listing.specs.Listing.{code_text}
use Rattle.listing.proofs.put_kind.Goals as goal

pub returns : goal.returns
unfolding code_text
returns c = then (then c.put_numbered.ensures.put c.put_pair.ensures) c.put_numbered-2.ensures.put
