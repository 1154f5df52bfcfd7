use Rattle.std.proofs.Common.{◌/◌, length, arith}
use borrow.Author.Tests.{lt-ltb}
use Rattle.note_entries.proofs.Pairs.{push}
use Rattle.note_entries.proofs.entries.Entries.push.Goals as goal

pub returns-clause-one : goal.returns-clause-one
returns-clause-one g c =
    let s = c.args.self.now in
    rw (lt-ltb s.n (length s.words.now / 2) (omega arith)) (push s.n s.words.now c.args.r c.args.v (omega arith))
