use Rattle.parts.specs.Parts.{parts_in}
use Rattle.shorten.proofs.Tiers.{enough, staging}
use Rattle.bench_c.proofs.thread_over.Goals as goal

pub returns : goal.returns
returns g c p o fits =
    let x = parts_in c.args.file.now in
    c.thread_in.ensures.is p o
    (enough x c.requires c.heads.ensures c.min-nb.ensures c.registers.ensures c.min-nr.ensures fits p o)
    (staging x c.requires c.heads.ensures c.min-nb.ensures c.registers.ensures c.min-nr.ensures fits p o)
