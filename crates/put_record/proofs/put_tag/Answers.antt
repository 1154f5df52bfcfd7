use Rattle.std.proofs.Common.{◌≡◌, ◌∙◌, [], ◌∷◌, arith}
use Rattle.put_record.specs.Store.{tag_bytes}
use Rattle.put_record.proofs.Laws.{part-sets}
use Rattle.put_record.proofs.put_tag.Goals as goal

pub returns : goal.returns
unfolding tag_bytes
returns c =
    let a = c.args in
    let low : c.low.result ∷ c.low-2.result ∷ c.low-3.result ∷ c.low-4.result ∷ [] ≡ tag_bytes a.r = rw (c.low-4.ensures, c.low-3.ensures, c.low-2.ensures, c.low.ensures) in
    let e : c.copy_from_slice.new.self ≡ tag_bytes a.r = c.copy_from_slice.ensures.after ∙ low in
    rw e (part-sets a.b.now (tag_bytes a.r) a.at _ (omega arith) c.requires)
