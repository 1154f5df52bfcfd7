-- What `run` leaves in the storage of an opened file is the threaded form as it is before Emit, or that form itself.
use Prim.Native.Nat.{ℕ, ◌+◌, ◌/◌, ◌≤◌}
use native.Mathlib.Omega.{arith}
use mathlib.Core.Path.{◌≡◌, refl, sym, ap, subst, ◌∙◌}
use mathlib.Core.Bool.{Bool, true, false, ◌&&◌, not, false≢true, true≢false}
use mathlib.Core.List.{List}
use Rattle.std.proofs.Common.{Option}
use lib.ListN.{length}
use lib.Seq.{length-take-le}
use Rattle.general.proofs.Booleans.{and_first}
use Rattle.inst.specs.declared.Code.{Code}
use Rattle.procedure.specs.Procedure.{Procedure}
use Rattle.procedure.specs.Lists.{joined, present}
use Rattle.blocks.specs.Blocks.{blocks_of}
use Rattle.equal_arms.specs.Joined.{Joined}
use Rattle.steps.specs.Facts.{Facts}
use Rattle.steps.specs.Gate.{has_back_edge, may_thread}
use Rattle.steps.specs.Thread.{Work, thread}
use Rattle.steps.specs.Run as s
use Rattle.facts.specs.Storage.{facts_in}
use Rattle.round_trips.specs.WellFormed.{counts_in}
use Rattle.step_laws.proofs.Threads.{Inv}
use Rattle.procedure_parts.specs.Opened.{Parts}
use Rattle.thread.specs.Storage.{Store, store, thread_in}
use Rattle.thread.proofs.Refined.{work_of}
use Rattle.thread.proofs.Kept.{Stored}
use Rattle.thread.proofs.Whole.{Long}
use Rattle.thread.proofs.Unedited.{unedited}
use Rattle.run.specs.Ran as r
use Rattle.run.proofs.Lent.{Lent, held}
use Rattle.run.proofs.Joins as j
use Rattle.run.proofs.Threads as t

-- no block was edited: what the definition gives, by the blocks of the code that is left
pub record Still (p : Procedure) (z : s.Shortened) (table : List ℕ) (l : r.Left) : Type 0 where
  pub procedure : z.procedure ≡ s.with_blocks p (blocks_of l.store.work table)
  pub moved : z.moved ≡ l.joined
  pub grown : z.grown ≡ 0
  pub fresh : z.fresh ≡ 0
  pub rescued : z.rescued ≡ 0
  pub same-table : l.store.table ≡ table
  pub coded : j.Coded p table l.store.work

-- some block was: what is left to emit
pub record Edited (p : Procedure) (z : s.Shortened) (work table kinds facts : List ℕ) (l : r.Left) : Type 0 where
  pub emitted : z ≡ s.emit (facts_in l.facts p.body (length (joined p.blocks) / 2 + 32)) (s.arms_joined p).procedure (work_of l.store)
  pub stored : Stored l.store
  pub long : Long (length work) (length table) (length kinds) l.store
  pub inv : Inv (facts_in l.facts p.body (length (joined p.blocks) / 2 + 32)) (counts_in p) (length (joined p.blocks)) (work_of l.store)
  pub grown : l.store.at.grown ≤ length (joined p.blocks) / 2 + 36
  pub fresh : l.store.at.fresh ≤ l.store.at.grown
  pub facts_long : length l.facts ≡ length facts

module _ {p : Procedure} {x : Parts} {known copy : ℕ} {work kinds facts : List ℕ}
    (h : Lent p x p.body known copy (length (joined p.blocks)) work x.heads kinds facts) where
  abbrev N : ℕ
  N = length (joined p.blocks)

  abbrev arms : Joined
  arms = j.arms (held h)

  abbrev q : Procedure
  q = (s.arms_joined p).procedure

  abbrev counted : List ℕ
  counted = r.counted_in N x.operands x.registers facts arms.code

  abbrev w : Work
  w = thread (s.counted_in q) q.blocks

  arms-blocks : blocks_of arms.code x.heads ≡ q.blocks
  arms-blocks = j.arms-blocks (held h)

  -- with a budget
  abbrev at : ℕ → r.Left
  at b = record { store = thread_in counted p.body b known copy arms.code x.heads kinds N; facts = counted; joined = arms.edited }

  budget : r.budget_in N ≡ N / 2 + 32
  budget = let c = h.opened.few-code in omega arith

  thread-is : w ≡ work_of (at (N / 2 + 32)).store
  thread-is = t.thread-is h

  edited-is : {b : Bool} → (at (r.budget_in N)).store.at.edited ≡ b → w.edited ≡ b
  edited-is e = ap (λ (v : Work). v.edited) thread-is ∙ ap (λ (b : ℕ). (at b).store.at.edited) (sym budget) ∙ e

  -- by the gate, and by the test of six instructions
  abbrev gated : Bool → r.Left
  gated b = r.gate_in p.body known copy x.operands x.registers N b arms.code x.heads kinds facts counted arms.edited

  abbrev ran : Bool → r.Left
  ran b = r.run_if p.body known copy x.operands x.registers N b work x.heads kinds facts

  by_arms : (Q : s.Shortened → r.Left → Type 0) → ((b : Bool) → Q (s.thread_if b (s.arms_joined p)) (gated b)) → Q (s.threaded_unless false p) (ran false)
  by_arms Q f =
      subst (λ (P : List (List Code)). Q (s.thread_if (has_back_edge P && may_thread (present p.body) P) (s.arms_joined p)) (ran false))
      arms-blocks (f (r.opens_in p.body arms.code x.heads))

  joined-still : (facts' : List ℕ)
      → Still p (s.arms_joined p) x.heads (record { store = store arms.code x.heads kinds (r.still N); facts = facts'; joined = arms.edited })
  joined-still facts' = record {
    procedure = ap (s.with_blocks p) (sym arms-blocks);
    moved = sym (j.arms-edited (held h));
    grown = refl;
    fresh = refl;
    rescued = refl;
    same-table = refl;
    coded = j.arms-coded (held h);
  }

  gate_still : (b : Bool) → (gated b).store.at.edited ≡ false → Still p (s.thread_if b (s.arms_joined p)) x.heads (gated b)
  gate_still false e = joined-still facts
  gate_still true e =
      let none = unedited counted p.body (r.budget_in N) known copy arms.code x.heads kinds N e in
      let off = ap (λ (b : Bool). s.emit_if b (s.counted_in q) (s.arms_joined p) w) (edited-is e) in
      subst (λ (z : s.Shortened). Still p z x.heads (gated true)) (sym off)
      (subst (λ (m : Store). Still p (s.arms_joined p) x.heads (record { store = m; facts = counted; joined = arms.edited })) (sym none)
      (joined-still counted))

  run-still : (b : Bool) → (ran b).store.at.edited ≡ false → Still p (s.threaded_unless b p) x.heads (ran b)
  run-still true e = record {
    procedure = ap (s.with_blocks p) (sym (j.work-blocks (held h)));
    moved = refl;
    grown = refl;
    fresh = refl;
    rescued = refl;
    same-table = refl;
    coded = j.work-coded (held h);
  }
  run-still false e = by_arms (λ z l. l.store.at.edited ≡ false → Still p z x.heads l) gate_still e

  left-edited : w.edited ≡ true → Edited p (s.thread_if true (s.arms_joined p)) work x.heads kinds facts (at (N / 2 + 32))
  left-edited on =
      let v = t.inv h in
      let long = t.long h in
      let m = (at (N / 2 + 32)).store in
      let few = long.fresh in
      let kept = long.kinds in
      let given = v.fresh in
      let count = length-take-le m.at.fresh m.kinds (omega arith) in
      record {
        emitted =
            ap (λ (b : Bool). s.emit_if b (s.counted_in q) (s.arms_joined p) w) on
            ∙ ap (λ (f : Facts). s.emit f q w) (sym (t.facts_are h))
            ∙ ap (s.emit (facts_in counted p.body (N / 2 + 32)) q) thread-is;
        stored = t.stored h;
        long = long;
        inv = v;
        grown = v.grown;
        fresh = omega arith;
        facts_long = t.counted_long h;
      }

  gate_edited : (b : Bool) → (gated b).store.at.edited ≡ true → Edited p (s.thread_if b (s.arms_joined p)) work x.heads kinds facts (gated b)
  gate_edited false e = absurd (false≢true e)
  gate_edited true e =
      subst (λ (b : ℕ). Edited p (s.thread_if true (s.arms_joined p)) work x.heads kinds facts (at b)) (sym budget) (left-edited (edited-is e))

  run-edited : (b : Bool) → (ran b).store.at.edited ≡ true → Edited p (s.threaded_unless b p) work x.heads kinds facts (ran b)
  run-edited true e = absurd (false≢true e)
  run-edited false e = by_arms (λ z l. l.store.at.edited ≡ true → Edited p z work x.heads kinds facts l) gate_edited e

  -- what the steps of the gate told, where some block was edited and where none was
  gate-open : (b : Bool) → (gated b).store.at.edited ≡ true → b ≡ true
  gate-open false e = absurd (false≢true e)
  gate-open true e = refl

  run-open : (b : Bool) → (ran b).store.at.edited ≡ true → (not b && s.looped_in p) ≡ true
  run-open true e = absurd (false≢true e)
  run-open false e =
      ap has_back_edge (sym arms-blocks) ∙ and_first (has_back_edge (blocks_of arms.code x.heads)) _ (gate-open (r.opens_in p.body arms.code x.heads) e)

  gate-unedited : (b : Bool) → (gated b).store.at.edited ≡ false → s.thread_if b (s.arms_joined p) ≡ s.arms_joined p
  gate-unedited false e = refl
  gate-unedited true e = ap (λ (b : Bool). s.emit_if b (s.counted_in q) (s.arms_joined p) w) (edited-is e)

  run-unedited : (b : Bool) → (ran b).store.at.edited ≡ false → b ≡ false → s.threaded_unless b p ≡ s.arms_joined p
  run-unedited true e f = absurd (true≢false f)
  run-unedited false e f = by_arms (λ z l. l.store.at.edited ≡ false → z ≡ s.arms_joined p) gate-unedited e

module _ {p : Procedure} {x : Parts} {body : Option ℕ} {known copy n : ℕ} {work table kinds facts : List ℕ}
    (h : Lent p x body known copy n work table kinds facts) where
  -- the same of a body, a number and a table that are the file's
  to_file : (Q : List ℕ → r.Left → Type 0)
      → (Lent p x p.body known copy (length (joined p.blocks)) work x.heads kinds facts
      → Q x.heads (r.ran_in p.body known copy x.operands x.registers (length (joined p.blocks)) work x.heads kinds facts))
      → Q table (r.ran_in body known copy x.operands x.registers n work table kinds facts)
  to_file Q f = rw (h.body_is, h.n-is, h.heads) (f (rw (h.body_is, h.n-is, h.heads) at h))

  pub still : (r.ran_in body known copy x.operands x.registers n work table kinds facts).store.at.edited ≡ false
      → Still p (s.threaded_form p) table (r.ran_in body known copy x.operands x.registers n work table kinds facts)
  unfolding s.threaded_form r.ran_in
  still = to_file (λ t l. l.store.at.edited ≡ false → Still p (s.threaded_form p) t l)
      (λ g. run-still g (s.short p))

  pub edited : (r.ran_in body known copy x.operands x.registers n work table kinds facts).store.at.edited ≡ true
      → Edited p (s.threaded_form p) work table kinds facts (r.ran_in body known copy x.operands x.registers n work table kinds facts)
  unfolding s.threaded_form r.ran_in
  edited = to_file (λ t l. l.store.at.edited ≡ true → Edited p (s.threaded_form p) work t kinds facts l)
      (λ g. run-edited g (s.short p))

  -- where some block was edited, the file is long enough and some block leads back
  pub looped : (r.ran_in body known copy x.operands x.registers n work table kinds facts).store.at.edited ≡ true → (not (s.short p) && s.looped_in p) ≡ true
  unfolding r.ran_in
  looped = to_file (λ t l. l.store.at.edited ≡ true → (not (s.short p) && s.looped_in p) ≡ true) (λ g. run-open g (s.short p))

  -- where none was, the threaded form of a file that is long enough is what equal arms left
  pub unedited-form : (r.ran_in body known copy x.operands x.registers n work table kinds facts).store.at.edited ≡ false → s.short p ≡ false
      → s.threaded_form p ≡ s.arms_joined p
  unfolding s.threaded_form r.ran_in
  unedited-form = to_file (λ t l. l.store.at.edited ≡ false → s.short p ≡ false → s.threaded_form p ≡ s.arms_joined p)
      (λ g. run-unedited g (s.short p))
