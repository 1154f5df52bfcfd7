use Rattle.put_record.proofs.Laws.{put-parts}
use Rattle.put_record.proofs.put_in.Goals as goal

pub returns : goal.returns
returns c =
    let s = c.args in
    rw (
      c.put_word-7.ensures,
      c.put_word-6.ensures,
      c.put_word-5.ensures,
      c.put_word-4.ensures,
      c.put_word-3.ensures,
      c.put_word-2.ensures,
      c.put_word.ensures,
      c.put_tag.ensures,
    )
    (put-parts s.b.now s.at s.r)
