use borrow.Author.Tests.{le-leb, lt-leb}
use Rattle.std.proofs.Common.{None, Some, ◌/◌, ◌<◌, length, ap, ◌∙◌}
use Rattle.procedure.specs.Procedure.{codes_of}
use Rattle.codec.specs.Codec.{code_of}
use Rattle.records.specs.Record.{blank}
use Rattle.ends.proofs.Laws.{length_codes, inst-there}
use Rattle.steps.specs.Note.{note, notes}
use Rattle.facts.specs.Storage.{facts_in}
use Rattle.note_entries.specs.Storage.{known_in}
use Rattle.note_entries.proofs.Grown.{grows-none, grows_more}
use Rattle.note.proofs.Gathered.{notes_again, notes-done}
use Rattle.note.proofs.notes.Goals as goal

pub returns-then-known-n-clause-known : goal.returns-then-known-n-clause-known
returns-then-known-n-clause-known c =
    let a = c.args in
    rw (lt-leb (length a.code.now / 32) (length a.known.now / 2) c.if-known-n.true)

pub returns-then-copy-n-clause-known : goal.returns-then-copy-n-clause-known
returns-then-copy-n-clause-known c =
    let a = c.args in
    let n = length a.code.now / 32 in
    rw (le-leb n (length a.known.now / 2) c.if-known-n.false, lt-leb n (length a.copy.now / 2) c.if-copy-n.true)

pub loop-j-init : goal.loop-j-init
loop-j-init c =
    let a = c.args in
    let k = c.new-k.ensures in
    record {
      known = ap (λ x. notes (facts_in a.facts.now None 0) x (codes_of a.code.now)) k.nothing;
      grows = grows-none c.new-k.result;
    }

pub loop-j-preserved : goal.loop-j-preserved
loop-j-preserved c =
    let a = c.args in
    let b = a.code.now in
    let f = facts_in a.facts.now None 0 in
    let s = c.note.ensures in
    let v = c.loop-j in
    let more : v.j < length (codes_of b) = rw (length_codes b) c.loop-j-test.true in
    let there = c.inst_of.ensures ∙ inst-there b v.j c.record_at.ensures in
    record {
      known = notes_again f (codes_of b) v.j (known_in v.k) (code_of blank) more (s.known ∙ ap (note f (known_in v.k)) there) v.invariant.known;
      grows = grows_more s.grows v.invariant.grows;
    }

pub returns-clause-known : goal.returns-clause-known
returns-clause-known c =
    let a = c.args in
    let b = a.code.now in
    let n = length b / 32 in
    let room = le-leb n (length a.known.now / 2) c.if-known-n.false in
    let room-too = le-leb n (length a.copy.now / 2) c.if-copy-n.false in
    let v = c.loop-j in
    let all = notes-done (facts_in a.facts.now None 0) (codes_of b) v.j (known_in v.k) (rw (length_codes b) c.loop-j-test.false) v.invariant.known in
    rw (room, room-too) (ap Some all)
