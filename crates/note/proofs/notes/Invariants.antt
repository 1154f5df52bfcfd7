use Rattle.std.proofs.Common.{None, ◌≡◌, drop}
use Rattle.procedure.specs.Procedure.{codes_of}
use Rattle.steps.specs.Note.{notes, nothing}
use Rattle.facts.specs.Storage.{facts_in}
use Rattle.note_entries.specs.Storage.{known_in, Grows}
use Rattle.note.proofs.notes.Given as goal

abbrev pub invariant-loop-j : goal.invariant-loop-j
invariant-loop-j l =
    let f = facts_in l.facts None 0 in
    record {
      known : notes f (known_in l.k) (drop l.j (codes_of l.code)) ≡ notes f nothing (codes_of l.code);
      grows : Grows l.j l.j l.k l.initial.k;
    }
