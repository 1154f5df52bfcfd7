use Rattle.std.proofs.Common.{◌≡◌, ◌∙◌, arith}
use Rattle.put_record.specs.Store.{word_bytes}
use Rattle.put_record.proofs.Laws.{part-sets}
use Rattle.put_record.proofs.put_word.Goals as goal

pub returns : goal.returns
unfolding word_bytes
returns c =
    let a = c.args in
    let e : c.copy_from_slice.new.self ≡ word_bytes a.x = c.copy_from_slice.ensures.after ∙ c.to_le_bytes.ensures in
    rw e (part-sets a.b.now (word_bytes a.x) a.at _ (omega arith) c.requires)
