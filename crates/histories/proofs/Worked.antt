-- A worked history, by computation: files of 3.5 cents, which cost 4 each, and one of 0.4 cents, which costs nothing.
use Rattle.std.proofs.Common.{◌≡◌, ℕ, List, [], ◌∷◌, map, replicate, refl}
use Rattle.records.specs.declared.Record.{Record}
use Rattle.records.specs.Record.{records_of, first_records}
use Rattle.records.specs.Kinds.{right}
use Rattle.put_record.specs.Store.{word_bytes, tag_bytes}
use Rattle.record_rules.specs.Exist.{names_exist}
use Rattle.layout.specs.Walk.{walk as passed}
use Rattle.layout.specs.Classes.{of_class, before}
use Rattle.read.specs.Structure.{tiles, numbers, tables}
use Rattle.read.specs.Reading.{unless, read_tables, read_blocks, read_records, checked}
use Rattle.codec.specs.Codec.{inst_of, inst_record}
use Rattle.items.specs.Items.{row_of}
use Rattle.procedure.specs.Procedure.{tables_from, procedure_of}
use Rattle.procedure.specs.Lists.{any_of, times, found}
use Rattle.ends.specs.Forms.{form_of, fixed_of}
use Rattle.ends.specs.Ends.{view_of, end_of, front, with_end}
use Rattle.steps.specs.Small.{copyable, small, step_by, step_block, latch, reads_konst}
use Rattle.procedure.specs.Counts.{writes_in, use_count}
use Rattle.steps.specs.Facts.{const_in, const_of, konst_of, facts_of}
use Rattle.steps.specs.Note.{values_without, copies_without, forget_all, learn, notes}
use Rattle.steps.specs.EqualArms.{follow, join_arms, join_from}
use Rattle.steps.specs.Gate.{back_edge_from, copied, may_thread_from}
use Rattle.roles.specs.Exchange.{exchanged}
use Rattle.steps.specs.Copy.{how_of, own_uses, copy_from, kinds_given}
use Rattle.steps.specs.Thread.{arm_of, hop_cond_br, stops, hop_br, hop, hops, thread_from}
use Rattle.paths.specs.Paths.{total, walk, reached_from}
use Rattle.steps.specs.Emit.{reached, stays, empty_from, rescued_of, rescues}
use Rattle.steps.specs.Slice.{measure_of, has_lengths}
use Rattle.steps.specs.Run.{emit, threaded_form, sliced_form}
use Rattle.steps.specs.Write.{block_records, table_records, records_for, bytes_of}
use Rattle.steps.specs.Shorten.{shorten, shorten_within}
use Rattle.billing.specs.Billing.{shorten_for}
use Rattle.accounts.specs.Accounts.{tally_in, made, made_with}
use Rattle.accounts.specs.History.{Call, Reply, serve, after, replies}
use Rattle.histories.specs.Tally.{cost, earned}

abbrev reg : Record
reg = row_of 1 0 0 0 0 0 0 0

abbrev block : ℕ → ℕ → Record
block start end = row_of 2 0 start end 0 0 0 0

abbrev code : ℕ → ℕ → ℕ → ℕ → Record
code kind p1 p2 p3 = row_of 4 kind p1 p2 p3 0 0 0

-- three Stmts, Br 2; Stmt, Br 2; CondBr 0 1 3; Ret: 8 instructions as sent, and 2 are appended
abbrev pub dear : List ℕ
dear =
    bytes_of
    (reg
    ∷ block 0 4
    ∷ block 4 6
    ∷ block 6 7
    ∷ block 7 8
    ∷ code 23 0 0 0
    ∷ code 23 0 0 0
    ∷ code 23 0 0 0
    ∷ code 18 2 0 0
    ∷ code 23 0 0 0
    ∷ code 18 2 0 0
    ∷ code 19 0 1 3
    ∷ code 21 0 0 0
    ∷ [])

-- Ret alone
abbrev pub free : List ℕ
free = bytes_of (reg ∷ block 0 1 ∷ code 21 0 0 0 ∷ [])

-- a call with room for so many bytes
abbrev pub call : List ℕ → ℕ → Call
call bytes room = record { bytes = bytes; out = replicate room 85 }

-- the 9 is a buffer that is a byte too short, the 3 an empty file
abbrev pub history : List Call
history = call dear 416 ∷ call free 96 ∷ call dear 415 ∷ call [] 416 ∷ call dear 416 ∷ []

-- a reply's number and price
abbrev pub told : Reply → List ℕ
told r = r.outcome.answer.number ∷ r.price ∷ []

-- two files and one that is free
abbrev pub three : List Call
three = call dear 416 ∷ call dear 416 ∷ call free 96 ∷ []

abbrev pub one : List Call
one = call dear 416 ∷ []

pub record Computed : Type 0 where
  pub answered : map told (replies made history) ≡ (0 ∷ 4 ∷ []) ∷ (0 ∷ 0 ∷ []) ∷ (9 ∷ 0 ∷ []) ∷ (3 ∷ 0 ∷ []) ∷ (0 ∷ 4 ∷ []) ∷ []
  pub came_to : tally_in (after made history) ≡ 8
  pub summed : earned made history ≡ 8
  -- the tally comes to the ceiling itself; a further file is refused with 10, but not one of 0 cents
  pub answered_there : map told (replies (made_with 9999995) three) ≡ (0 ∷ 4 ∷ []) ∷ (10 ∷ 0 ∷ []) ∷ (0 ∷ 0 ∷ []) ∷ []
  pub came_there : tally_in (after (made_with 9999995) three) ≡ 9999999
  pub answered_part : map told (replies made three) ≡ (0 ∷ 4 ∷ []) ∷ (0 ∷ 4 ∷ []) ∷ (0 ∷ 0 ∷ []) ∷ []
  pub came_part : tally_in (after made three) ≡ 8
  -- accounts that no history leaves: past the ceiling, and of no words
  pub answered_past : map told (replies (made_with 10000000) (call free 96 ∷ [])) ≡ (10 ∷ 0 ∷ []) ∷ []
  pub summed_wordless : earned [] one ≡ 4
  pub came_wordless : tally_in (after [] one) ≡ 0
  pub cost_free : cost free ≡ 0
  pub cost_dear : cost dear ≡ 4
  pub number_dear : (shorten dear (replicate 416 85)).answer.number ≡ 0

pub computed : Computed
unfolding bytes_of word_bytes tag_bytes records_of first_records right names_exist passed of_class before tiles numbers tables unless read_tables read_blocks
    read_records checked inst_of inst_record tables_from procedure_of any_of times found form_of view_of end_of front with_end copyable small step_by
    step_block latch reads_konst writes_in use_count fixed_of const_in const_of konst_of facts_of values_without copies_without forget_all learn notes
    follow join_arms join_from back_edge_from copied may_thread_from exchanged how_of own_uses copy_from kinds_given arm_of hop_cond_br stops hop_br hop hops
    thread_from total walk reached_from reached stays empty_from rescued_of rescues emit threaded_form measure_of has_lengths sliced_form
    block_records table_records records_for shorten_within shorten_for serve after replies earned
computed =
    record {
      answered = refl;
      came_to = refl;
      summed = refl;
      answered_there = refl;
      came_there = refl;
      answered_part = refl;
      came_part = refl;
      answered_past = refl;
      summed_wordless = refl;
      came_wordless = refl;
      cost_free = refl;
      cost_dear = refl;
      number_dear = refl;
    }
