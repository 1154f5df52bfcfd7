use Rattle.std.proofs.Common.{rules}
use Rattle.quote.proofs.Laws.{put_hex_digits}
use Rattle.quote.proofs.put_digits.Goals as goal

pub returns : goal.returns
returns c =
    rw c.from.ensures at (put_hex_digits c.hex-k.new.out c.hex-k.result c.from.result c.put.ensures c.hex-k.ensures.digits c.hex-k.ensures.len (search rules))
