-- What `run` leaves of a well-formed procedure: its sizes, and that it is well formed.
use Prim.Native.Nat.{ℕ, ◌+◌, ◌/◌, ◌≤◌, ◌<◌}
use native.Mathlib.Omega.{arith}
use mathlib.Core.Path.{◌≡◌, refl, ap, ◌∙◌}
use mathlib.Core.Bool.{Bool, true, false, ◌&&◌, true≢false}
use mathlib.Core.List.{List, ◌++◌}
use lib.ListN.{length, length-append}
use Rattle.std.proofs.lemmas.Bool.{or_parts}
use Rattle.inst.specs.declared.Code.{Code}
use Rattle.procedure.specs.Procedure.{Procedure}
use Rattle.procedure.specs.Lists.{joined, present}
use Rattle.steps.specs.Facts.{Facts, const_of, facts_of}
use Rattle.steps.specs.EqualArms.{equal_arms}
use Rattle.steps.specs.Gate.{may_thread}
use Rattle.steps.specs.Thread.{Work, next_number, thread, unthreaded}
use Rattle.steps.specs.Emit.{reached, empty_from, rescues, onto_front}
use Rattle.steps.specs.Slice.{tests_in, sliced_in, some_test}
use Rattle.steps.specs.Run.{Shortened, with_blocks, unchanged, arms_joined, emit, emit_if, counted_in, thread_if, looped_in, short, threaded_unless, threaded_form}
use Rattle.steps.specs.Run.{slice_if, slices, sliced_form, run}
use Rattle.steps.proofs.Edits.{Edits, thread_edits}
use Rattle.steps.proofs.Sliced.{sliced_blocks, sliced_size, untested_same}
use Rattle.round_trips.specs.WellFormed.{All, BlockIn, counts_in, WellFormed}
use Rattle.round_trips.proofs.Lists.{all_append, all-turn}
use Rattle.round_trips.proofs.ToRecords.{few-blocks}
use Rattle.step_laws.specs.Size.{code_size, Sized}
use Rattle.step_laws.proofs.Names.{with_regs}
use Rattle.step_laws.proofs.Arms.{Kept, arms-kept}
use Rattle.step_laws.proofs.Threads.{Inv, start_keeps, edits_keep}
use Rattle.step_laws.proofs.Slices.{sliced_sound}
use Rattle.step_laws.proofs.Emits.{empty_length, empty_in_lem, rescues-in, emit-few, onto_in, onto_length, onto_few}

-- what each stage leaves of a procedure
pub record Stage (p : Procedure) (s : Shortened) : Type 0 where
  pub sized : Sized p s
  pub each-register : All (λ k. k < 5) s.procedure.registers
  pub each-block : All (BlockIn (counts_in s.procedure)) s.procedure.blocks
  pub body : s.procedure.body ≡ p.body
  pub operands : s.procedure.operands ≡ p.operands
  pub tables : s.procedure.tables ≡ p.tables

-- a later step keeps this where it leaves as many blocks and no more code, of instructions that name what there is
pub stage_then : {p : Procedure} {s : Shortened} → Stage p s → (P : List (List Code)) (moved : Bool) → length P ≡ length s.procedure.blocks
    → All (BlockIn (counts_in s.procedure)) P → length (joined P) ≤ code_size s.procedure
    → Stage p (record { procedure = with_blocks s.procedure P; moved = moved; grown = s.grown; fresh = s.fresh; rescued = s.rescued })
stage_then r P moved n each few =
    let z = r.sized in
    let c = z.code in
    let b = z.blocks in
    record {
      sized = record { code = omega arith; grown = z.grown; fresh = z.fresh; rescued = z.rescued; registers = z.registers; blocks = omega arith };
      each-register = r.each-register;
      each-block = rw n each;
      body = r.body;
      operands = r.operands;
      tables = r.tables;
    }

module _ (p : Procedure) (h : WellFormed p) where
  unchanged_stage : Stage p (unchanged p)
  unchanged_stage = record {
    sized = record { code = omega arith; grown = omega arith; fresh = omega arith; rescued = omega arith; registers = omega arith; blocks = refl };
    each-register = h.each-register;
    each-block = h.each-block;
    body = refl;
    operands = refl;
    tables = refl;
  }

  kept : Kept (counts_in p) p.blocks (equal_arms p.blocks)
  kept = arms-kept (counts_in p) (few-blocks p h) p.blocks h.each-block

  arms_stage : Stage p (arms_joined p)
  arms_stage =
      let k = kept in
      let c = k.code in
      record {
        sized = record { code = omega arith; grown = omega arith; fresh = omega arith; rescued = omega arith; registers = omega arith; blocks = k.blocks };
        each-register = h.each-register;
        each-block = rw k.blocks k.each;
        body = refl;
        operands = refl;
        tables = refl;
      }

  -- the procedure after the equal-arms step, its counts and what Thread leaves
  abbrev q : Procedure
  q = (arms_joined p).procedure

  abbrev f : Facts
  f = counted_in q

  abbrev w : Work
  w = thread f q.blocks

  -- every work that edits lead to from the blocks after the equal-arms step
  pub edits_inv : {v : Work} → Edits f (unthreaded q.blocks) v → Inv f (counts_in p) (code_size p) v
  unfolding facts_of
  edits_inv es =
      let k = kept in
      let i = h.registers in
      let j = h.code in
      let half = ap (λ (n : ℕ). n / 2 + 32) k.code in
      let start = start_keeps f (counts_in p) (code_size p) refl half h.each-register (few-blocks p h) (omega arith) q.blocks k.each k.blocks k.code in
      edits_keep f (counts_in p) (code_size p) refl half h.each-register (few-blocks p h) (omega arith) es start

  inv : Inv f (counts_in p) (code_size p) w
  inv = edits_inv (thread_edits f q.blocks)

  names_at : next_number f w ≡ length p.registers + length w.kinds
  unfolding facts_of
  names_at = refl

  emit_stage : Stage p (emit f q w)
  unfolding emit
  emit_stage =
      let v = inv in
      let n = with_regs (next_number f w) (counts_in p) in
      let marks = reached p.tables w.blocks in
      let kept = rescues f marks w.blocks in
      let P = empty_from 0 marks w.blocks in
      let e : 0 + length w.blocks ≡ length p.blocks = let b = v.blocks in omega arith in
      let len : length (onto_front kept P) ≡ length p.blocks = onto_length kept P ∙ empty_length 0 marks w.blocks ∙ v.blocks in
      let regs = length-append p.registers w.kinds in
      let n' : length (p.registers ++ w.kinds) ≡ next_number f w = let a = names_at in omega arith in
      let blocks = onto_in n (few-blocks p h) kept P (rescues-in n (few-blocks p h) f marks w.blocks v.each) (empty_in_lem n (few-blocks p h) 0 marks w.blocks e v.each) in
      let x = onto_few kept P in
      let y = emit-few n (few-blocks p h) f 0 marks w.blocks v.each in
      let z = v.code in
      let g = v.grown in
      record {
        sized = record { code = omega arith; grown = v.grown; fresh = v.fresh; rescued = omega arith; registers = regs; blocks = len };
        each-register = all_append (λ k. k < 5) p.registers w.kinds h.each-register v.kinds;
        each-block = rw (len, n') blocks;
        body = refl;
        operands = refl;
        tables = refl;
      }

  emit_if_lem : (t : Bool) → Stage p (emit_if t f (arms_joined p) w)
  emit_if_lem true = emit_stage
  emit_if_lem false = arms_stage

  thread_if_lem : (t : Bool) → Stage p (thread_if t (arms_joined p))
  thread_if_lem true = emit_if_lem w.edited
  thread_if_lem false = arms_stage

  unless-short : (t : Bool) → Stage p (threaded_unless t p)
  unless-short true = unchanged_stage
  unless-short false = thread_if_lem (looped_in p && may_thread (present p.body) q.blocks)

  pub threaded_stage : Stage p (threaded_form p)
  unfolding threaded_form
  threaded_stage = unless-short (short p)

  sliced_stage : (t : Bool) → Stage p (slice_if t (threaded_form p)).form
  sliced_stage true =
      let r = threaded_stage in
      let q = (threaded_form p).procedure in
      let kc = const_of (joined q.blocks) in
      let z = r.sized in
      let m = z.registers in
      let fr = z.fresh in
      let g = z.grown in
      let i = h.registers in
      let j = h.code in
      let low : All (λ x. x < length q.registers) q.operands = rw r.operands (all-turn (λ x k. omega arith) p.operands h.each_operand) in
      let sound = sliced_sound kc q.operands (counts_in q) low (omega arith) q.blocks r.each-block in
      let size = sliced_size kc q.operands q.blocks in
      stage_then r (sliced_in kc q.operands q.blocks) _ (sliced_blocks kc q.operands q.blocks) sound (omega arith)
  sliced_stage false = threaded_stage

  pub run_stage : Stage p (run p)
  unfolding sliced_form
  run_stage = sliced_stage (slices p)

  -- "Output has at most n + n/2 + 36 instructions."
  pub run-sized : Sized p (run p)
  run-sized = run_stage.sized

  -- "moved (what `run` returns then)": where it is false, nothing has changed
  abbrev Same : Shortened → Type 0
  Same s = s.moved ≡ false → s.procedure ≡ p

  emit-same : (t : Bool) → Same (emit_if t f (arms_joined p) w)
  unfolding emit
  emit-same true e = absurd (true≢false e)
  emit-same false e = ap (with_blocks p) (kept.same e)

  thread-same : (t : Bool) → Same (thread_if t (arms_joined p))
  thread-same true = emit-same w.edited
  thread-same false = emit-same false

  unless-same : (t : Bool) → Same (threaded_unless t p)
  unless-same true = λ e. refl
  unless-same false = thread-same (looped_in p && may_thread (present p.body) q.blocks)

  pub threaded-same : Same (threaded_form p)
  unfolding threaded_form
  threaded-same = unless-same (short p)

  sliced-same : (t : Bool) → Same (slice_if t (threaded_form p)).form
  sliced-same true e =
      let s = threaded_form p in
      let q = s.procedure in
      let kc = const_of (joined q.blocks) in
      let t = or_parts s.moved (some_test (tests_in kc q.operands q.blocks)) e in
      ap (with_blocks q) (untested_same kc q.operands q.blocks t.1) ∙ threaded-same t.0
  sliced-same false e = threaded-same e

  pub run-same : Same (run p)
  unfolding sliced_form
  run-same = sliced-same (slices p)

  -- within limits that leave room for what is added, such as 480 registers and 480 instructions
  module _ (registers : length p.registers + code_size p / 2 + 36 ≤ 756) (code : code_size p + code_size p / 2 + 36 ≤ 756) where
    pub stage_well_formed : {s : Shortened} → Stage p s → WellFormed s.procedure
    stage_well_formed r =
        let s = r.sized in
        let b = s.blocks in
        let g = s.grown in
        let fr = s.fresh in
        let rg = s.registers in
        let c = s.code in
        let i = h.some_block in
        let j = h.blocks in
        record {
          registers = omega arith;
          some_block = omega arith;
          blocks = omega arith;
          code = omega arith;
          operands = rw r.operands h.operands;
          arms = rw r.tables h.arms;
          each-register = r.each-register;
          each-block = r.each-block;
          body = rw (b, r.body) h.body;
          each_operand = rw r.operands (all-turn (λ x k. omega arith) p.operands h.each_operand);
          each-table = rw (b, r.tables) h.each-table;
        }

    pub run_well_formed : WellFormed (run p).procedure
    run_well_formed = stage_well_formed run_stage
