use Rattle.shortening.proofs.write.Goals as goal

pub returns-then-r-clause-is : goal.returns-then-r-clause-is
returns-then-r-clause-is c p h g = c.write_emitted.ensures.is p h g c.if-r.true

pub returns-else-r-clause-is : goal.returns-else-r-clause-is
returns-else-r-clause-is c p h g = c.write_same.ensures.is p h c.if-r.false
