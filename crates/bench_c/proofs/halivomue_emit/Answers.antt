use Rattle.bench_c.proofs.halivomue_emit.Goals as goal

pub returns : goal.returns
returns c = c.emit-e.ensures.emitted
