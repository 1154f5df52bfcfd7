-- Document 01, "Steps", and its counts, and document 02, 2.1: the `run` part, made of its stages.
use Rattle.std.specs.Prelude.{ℕ, List, [], ◌++◌, Bool, true, false, ◌&&◌, ◌||◌, not, ltb, length, Option, None}
use Rattle.inst.specs.declared.Code.{Code}
use Rattle.procedure.specs.Procedure.{Procedure}
use Rattle.procedure.specs.Lists.{joined, present}
use Rattle.steps.specs.Facts.{Facts, const_of, facts_of}
use Rattle.steps.specs.EqualArms.{Arms, equal_arms}
use Rattle.steps.specs.Gate.{has_back_edge, may_thread}
use Rattle.steps.specs.Thread.{Work, thread}
use Rattle.steps.specs.Emit.{reached, empty_from, rescues, onto_front}
use Rattle.steps.specs.Slice.{Test, tests_in, sliced_in, some_test, has_lengths}

-- what a stage of `run` leaves
pub record Shortened : Type 0 where
  pub procedure : Procedure
  -- "what `run` returns then"
  pub moved : Bool
  -- "the number of instructions appended by copying"
  pub grown : ℕ
  -- "that of new register numbers given"
  pub fresh : ℕ
  -- "that of instructions moved to the front of block 0"
  pub rescued : ℕ

abbrev pub with_blocks : Procedure → List (List Code) → Procedure
with_blocks p P = record { registers = p.registers; blocks = P; body = p.body; operands = p.operands; tables = p.tables }

-- with new registers
abbrev pub with_registers : Procedure → List ℕ → Procedure
with_registers p kinds =
    record { registers = p.registers ++ kinds; blocks = p.blocks; body = p.body; operands = p.operands; tables = p.tables }

abbrev pub unchanged : Procedure → Shortened
unchanged p = record { procedure = p; moved = false; grown = 0; fresh = 0; rescued = 0 }

-- "Equal arms."
abbrev pub with_arms : Procedure → Arms → Shortened
with_arms p s = record { procedure = with_blocks p s.blocks; moved = s.edited; grown = 0; fresh = 0; rescued = 0 }

abbrev pub arms_joined : Procedure → Shortened
arms_joined p = with_arms p (equal_arms p.blocks)

-- "Emit.": with the rescued instructions and the other blocks
abbrev pub written : Procedure → Work → List Code → List (List Code) → Shortened
written p w kept P = record {
  procedure = with_blocks (with_registers p w.kinds) (onto_front kept P);
  moved = true;
  grown = w.grown;
  fresh = length w.kinds;
  rescued = length kept;
}

abbrev pub emit_marked : Facts → Procedure → Work → List Bool → Shortened
emit_marked f p w marks = written p w (rescues f marks w.blocks) (empty_from 0 marks w.blocks)

-- `emit`
unfoldable pub emit : Facts → Procedure → Work → Shortened
emit f p w = emit_marked f p w (reached p.tables w.blocks)

-- "Only if threading edited some block."
abbrev pub emit_if : Bool → Facts → Shortened → Work → Shortened
emit_if true f s w = emit f s.procedure w
emit_if false f s w = s

abbrev pub emitted : Facts → Shortened → Work → Shortened
emitted f s w = emit_if w.edited f s w

-- "Thread."
abbrev pub thread_by : Facts → Shortened → Shortened
thread_by f s = emitted f s (thread f s.procedure.blocks)

-- "Definitions (saturating at 255) and uses are counted then."
abbrev pub counted_in : Procedure → Facts
counted_in p = facts_of p.registers p.operands p.body (joined p.blocks)

abbrev pub thread_if : Bool → Shortened → Shortened
thread_if true s = thread_by (counted_in s.procedure) s
thread_if false s = s

-- "Gate.", given `looped`
abbrev pub threaded : Bool → Shortened → Shortened
threaded looped s = thread_if (looped && may_thread (present s.procedure.body) s.procedure.blocks) s

-- `looped`: asked once, after the equal-arms step
abbrev pub looped_in : Procedure → Bool
looped_in p = has_back_edge (arms_joined p).procedure.blocks

-- "Fewer than 6 instructions"
abbrev pub short : Procedure → Bool
short p = ltb (length (joined p.blocks)) 6

-- "unchanged. Otherwise:"
abbrev pub threaded_unless : Bool → Procedure → Shortened
threaded_unless true p = unchanged p
threaded_unless false p = threaded (looped_in p) (arms_joined p)

-- the threaded form: what equal arms, Thread and Emit leave
unfoldable pub threaded_form : Procedure → Shortened
threaded_form p = threaded_unless (short p) p

-- the sliced form, with what `slice_tests` did
pub record Sliced : Type 0 where
  pub form : Shortened
  -- for each instruction of each block, what it tested, if it is a Cmp that was rewritten; none where the gate is shut
  pub tests : List (List (Option Test))
  -- "the registers [..] that `slice_tests` takes for constants", with their values; none where the gate is shut
  pub taken : ℕ → Option ℕ

-- `moved |= slice_tests(..)`; the counts stay
abbrev pub with_tests : Shortened → List (List Code) → List (List (Option Test)) → Shortened
with_tests s P tests =
    record { procedure = with_blocks s.procedure P; moved = s.moved || some_test tests; grown = s.grown; fresh = s.fresh; rescued = s.rescued }

abbrev pub sliced_by : (ℕ → Option ℕ) → Shortened → Sliced
sliced_by kc s =
    let p = s.procedure in
    let tests = tests_in kc p.operands p.blocks in
    record { form = with_tests s (sliced_in kc p.operands p.blocks) tests; tests = tests; taken = kc }

abbrev pub unsliced : Shortened → Sliced
unsliced s = record { form = s; tests = []; taken = λ r. None }

-- definitions are counted anew: `kc`
abbrev pub slice_if : Bool → Shortened → Sliced
slice_if true s = sliced_by (const_of (joined s.procedure.blocks)) s
slice_if false s = unsliced s

-- "with its gate in `run`": `looped` is the one asked before threading, the rest is asked of the code after Emit. "Fewer than 6
-- instructions: unchanged."
abbrev pub slices : Procedure → Bool
slices p = not (short p) && (looped_in p && has_lengths (joined (threaded_form p).procedure.blocks))

unfoldable pub sliced_form : Procedure → Sliced
sliced_form p = slice_if (slices p) (threaded_form p)

-- "The records and moved then match the Rust with that call as its last."
abbrev pub run : Procedure → Shortened
run p = (sliced_form p).form
