use Rattle.std.proofs.Common.{rules}
use Rattle.line.proofs.Laws.{put-decimal}
use Rattle.line.proofs.Line.put_number.Goals as goal

pub returns : goal.returns
returns c =
    put-decimal c.decimal-k.new.out c.decimal-k.result c.args.number c.put.ensures c.decimal-k.ensures.digits c.decimal-k.ensures.len (search rules)
