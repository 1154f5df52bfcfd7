use Rattle.std.proofs.Common.{rules, []}
use mathlib.Core.List.{append_assoc}
use Rattle.quote.proofs.Laws.{quoted-none, quoted_then, quoted_more}
use Rattle.quote.proofs.put_name.Goals as goal

pub loop-chunk-init : goal.loop-chunk-init
loop-chunk-init c = ([], search rules, quoted-none _)

pub loop-chunk-preserved : goal.loop-chunk-preserved
loop-chunk-preserved c =
    quoted_more _ _ _ _ _ c.loop-chunk.invariant.1 (rw (c.valid.ensures, c.invalid.ensures, append_assoc) c.in-Some.ensures.steps.0) c.loop-chunk.invariant.2
    (quoted_then c.put_text.ensures c.put_bytes.ensures)
