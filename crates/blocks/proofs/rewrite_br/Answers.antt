use Rattle.std.proofs.Common.{rules}
use Rattle.blocks.proofs.Rewrites.{rewritten_last}
use Rattle.blocks.proofs.rewrite_br.Goals as goal

pub returns : goal.returns
returns c =
    let e = c.rewrite_last.ensures in
    rewritten_last c.args.code.now c.args.r _ (λ h. let p = e.some h in (p.0, search (rules, p.1), p.2)) e.none
