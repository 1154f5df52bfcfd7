-- Document 02, 2.1, by computation: what `run` makes of small files with lengths and their tests. `tests/reference/table.py` writes this
-- file from the stored answers of the Rust.
use Prim.Native.Nat.{ℕ}
use mathlib.Core.Path.{◌≡◌, refl}
use mathlib.Core.Bool.{Bool, true, false}
use mathlib.Core.List.{List, [], ◌∷◌, map}
use Rattle.records.specs.declared.Record.{Record}
use Rattle.layout.specs.Classes.{of_class, before}
use Rattle.codec.specs.Codec.{inst_of, inst_record}
use Rattle.items.specs.Items.{row_of}
use Rattle.procedure.specs.Procedure.{tables_from, procedure_of}
use Rattle.procedure.specs.Lists.{any_of, times, found}
use Rattle.procedure.specs.Counts.{writes_in, use_count}
use Rattle.ends.specs.Forms.{form_of, fixed_of}
use Rattle.ends.specs.Ends.{view_of, end_of, front, with_end}
use Rattle.roles.specs.Exchange.{exchanged}
use Rattle.paths.specs.Paths.{total, walk, reached_from}
use Rattle.steps.specs.Small.{copyable, small, step_by, step_block, latch, reads_konst}
use Rattle.steps.specs.Facts.{const_in, const_of, konst_of, facts_of}
use Rattle.steps.specs.Note.{values_without, copies_without, forget_all, learn, notes}
use Rattle.steps.specs.EqualArms.{follow, join_arms, join_from}
use Rattle.steps.specs.Gate.{back_edge_from, copied, may_thread_from}
use Rattle.steps.specs.Copy.{how_of, own_uses, copy_from, kinds_given}
use Rattle.steps.specs.Thread.{arm_of, hop_cond_br, stops, hop_br, hop, hops, thread_from}
use Rattle.steps.specs.Emit.{reached, stays, empty_from, rescued_of, rescues}
use Rattle.steps.specs.Slice.{measure_of, entry, tests_from, sliced_from, some_test, has_lengths}
use Rattle.steps.specs.Run.{Shortened, emit, threaded_form, sliced_form, run}
use Rattle.steps.specs.Write.{block_records, table_records, records_for}

abbrev reg : ℕ → Record
reg type = row_of 1 type 0 0 0 0 0 0

abbrev block : ℕ → ℕ → Record
block start end = row_of 2 0 start end 0 0 0 0

-- kind, op, statement, p1 to p4
abbrev code : ℕ → ℕ → ℕ → ℕ → ℕ → ℕ → ℕ → Record
code kind op stmt p1 p2 p3 p4 =
    record { class = 4; kind = kind; op = op; zero = 0; stmt = stmt; p1 = p1; p2 = p2; p3 = p3; p4 = p4; p5 = 0; p6 = 0 }

abbrev operand : ℕ → Record
operand r = row_of 5 0 r 0 0 0 0 0

-- the records sent, and what is left of them, with the counts
pub record Row : Type 0 where
  pub sent : List Record
  pub moved : Bool
  pub grown : ℕ
  pub fresh : ℕ
  pub rescued : ℕ
  pub left : List Record

abbrev row : List Record → Bool → ℕ → ℕ → ℕ → List Record → Row
row sent moved grown fresh rescued left =
    record { sent = sent; moved = moved; grown = grown; fresh = fresh; rescued = rescued; left = left }

abbrev given : List Record → Shortened → Row
given sent s = row sent s.moved s.grown s.fresh s.rescued (records_for s.procedure)

abbrev sent_length_up : List Record
sent_length_up =
    reg 0 ∷ reg 0 ∷ reg 0 ∷ reg 0 ∷ reg 0 ∷ reg 0 ∷ reg 0 ∷ block 0 6 ∷ code 0 0 10 2 0 0 0 ∷ code 14 0 11 4 0 1 2 ∷ code 5 0 12 5 4 2 0
    ∷ code 5 3 13 5 4 2 0 ∷ code 23 0 14 0 0 0 0 ∷ code 18 0 15 0 0 0 0 ∷ []

abbrev length_up : Row
length_up = row sent_length_up true 0 0 0 (
    reg 0 ∷ reg 0 ∷ reg 0 ∷ reg 0 ∷ reg 0 ∷ reg 0 ∷ reg 0 ∷ block 0 6 ∷ code 0 0 10 2 0 0 0 ∷ code 14 0 11 4 0 1 2 ∷ code 5 2 12 5 1 0 0
    ∷ code 5 2 13 5 1 0 0 ∷ code 23 0 14 0 0 0 0 ∷ code 18 0 15 0 0 0 0 ∷ [])

abbrev sent_length_down : List Record
sent_length_down =
    reg 0 ∷ reg 0 ∷ reg 0 ∷ reg 0 ∷ reg 0 ∷ reg 0 ∷ reg 0 ∷ block 0 7 ∷ code 0 0 10 2 0 0 0 ∷ code 0 0 11 3 1 0 0 ∷ code 14 0 12 4 0 1 3
    ∷ code 5 1 13 5 4 2 0 ∷ code 5 4 14 5 4 2 0 ∷ code 23 0 15 0 0 0 0 ∷ code 18 0 16 0 0 0 0 ∷ []

abbrev length_down : Row
length_down = row sent_length_down true 0 0 0 (
    reg 0 ∷ reg 0 ∷ reg 0 ∷ reg 0 ∷ reg 0 ∷ reg 0 ∷ reg 0 ∷ block 0 7 ∷ code 0 0 10 2 0 0 0 ∷ code 0 0 11 3 1 0 0 ∷ code 14 0 12 4 0 1 3
    ∷ code 5 5 13 5 0 1 0 ∷ code 5 5 14 5 0 1 0 ∷ code 23 0 15 0 0 0 0 ∷ code 18 0 16 0 0 0 0 ∷ [])

abbrev sent_length_two_ops : List Record
sent_length_two_ops =
    reg 0 ∷ reg 0 ∷ reg 0 ∷ reg 0 ∷ reg 0 ∷ reg 0 ∷ reg 0 ∷ block 0 6 ∷ code 0 0 10 2 0 0 0 ∷ code 14 0 11 4 0 1 2 ∷ code 5 2 12 5 4 2 0
    ∷ code 5 5 13 5 4 2 0 ∷ code 23 0 14 0 0 0 0 ∷ code 18 0 15 0 0 0 0 ∷ []

abbrev length_two_ops : Row
length_two_ops = row sent_length_two_ops false 0 0 0 sent_length_two_ops

abbrev sent_length_direction_2 : List Record
sent_length_direction_2 =
    reg 0 ∷ reg 0 ∷ reg 0 ∷ reg 0 ∷ reg 0 ∷ reg 0 ∷ reg 0 ∷ block 0 6 ∷ code 0 0 10 2 0 0 0 ∷ code 0 0 11 3 2 0 0 ∷ code 14 0 12 4 0 1 3
    ∷ code 5 0 13 5 4 2 0 ∷ code 23 0 14 0 0 0 0 ∷ code 18 0 15 0 0 0 0 ∷ []

abbrev length_direction_2 : Row
length_direction_2 = row sent_length_direction_2 false 0 0 0 sent_length_direction_2

abbrev sent_length_not_zero : List Record
sent_length_not_zero =
    reg 0 ∷ reg 0 ∷ reg 0 ∷ reg 0 ∷ reg 0 ∷ reg 0 ∷ reg 0 ∷ block 0 6 ∷ code 0 0 10 2 0 0 0 ∷ code 0 0 11 3 1 0 0 ∷ code 14 0 12 4 0 1 2
    ∷ code 5 0 13 5 4 3 0 ∷ code 23 0 14 0 0 0 0 ∷ code 18 0 15 0 0 0 0 ∷ []

abbrev length_not_zero : Row
length_not_zero = row sent_length_not_zero false 0 0 0 sent_length_not_zero

abbrev sent_length_over_its_left : List Record
sent_length_over_its_left =
    reg 0 ∷ reg 0 ∷ reg 0 ∷ reg 0 ∷ reg 0 ∷ reg 0 ∷ reg 0 ∷ block 0 7 ∷ code 0 0 10 2 0 0 0 ∷ code 14 0 11 0 0 1 2 ∷ code 5 0 12 5 0 2 0
    ∷ code 14 0 13 1 0 1 2 ∷ code 5 0 14 5 1 2 0 ∷ code 23 0 15 0 0 0 0 ∷ code 18 0 16 0 0 0 0 ∷ []

abbrev length_over_its_left : Row
length_over_its_left = row sent_length_over_its_left false 0 0 0 sent_length_over_its_left

abbrev sent_length_bound_written : List Record
sent_length_bound_written =
    reg 0 ∷ reg 0 ∷ reg 0 ∷ reg 0 ∷ reg 0 ∷ reg 0 ∷ reg 0 ∷ block 0 6 ∷ code 0 0 10 2 0 0 0 ∷ code 14 0 11 4 0 1 2 ∷ code 2 0 12 1 0 0 0
    ∷ code 5 0 13 5 4 2 0 ∷ code 23 0 14 0 0 0 0 ∷ code 18 0 15 0 0 0 0 ∷ []

abbrev length_bound_written : Row
length_bound_written = row sent_length_bound_written false 0 0 0 sent_length_bound_written

abbrev sent_length_written : List Record
sent_length_written =
    reg 0 ∷ reg 0 ∷ reg 0 ∷ reg 0 ∷ reg 0 ∷ reg 0 ∷ reg 0 ∷ block 0 6 ∷ code 0 0 10 2 0 0 0 ∷ code 14 0 11 4 0 1 2 ∷ code 5 0 12 4 4 2 0
    ∷ code 5 0 13 5 4 2 0 ∷ code 23 0 14 0 0 0 0 ∷ code 18 0 15 0 0 0 0 ∷ []

abbrev length_written : Row
length_written = row sent_length_written true 0 0 0 (
    reg 0 ∷ reg 0 ∷ reg 0 ∷ reg 0 ∷ reg 0 ∷ reg 0 ∷ reg 0 ∷ block 0 6 ∷ code 0 0 10 2 0 0 0 ∷ code 14 0 11 4 0 1 2 ∷ code 5 2 12 4 1 0 0
    ∷ code 5 0 13 5 4 2 0 ∷ code 23 0 14 0 0 0 0 ∷ code 18 0 15 0 0 0 0 ∷ [])

abbrev sent_length_of_dope : List Record
sent_length_of_dope =
    reg 0 ∷ reg 0 ∷ reg 0 ∷ reg 0 ∷ reg 0 ∷ reg 0 ∷ reg 0 ∷ block 0 6 ∷ code 0 0 10 2 0 0 0 ∷ code 12 0 11 6 0 3 0 ∷ code 13 0 12 4 6 0 0
    ∷ code 5 0 13 5 4 2 0 ∷ code 23 0 14 0 0 0 0 ∷ code 18 0 15 0 0 0 0 ∷ operand 0 ∷ operand 1 ∷ operand 2 ∷ []

abbrev length_of_dope : Row
length_of_dope = row sent_length_of_dope true 0 0 0 (
    reg 0 ∷ reg 0 ∷ reg 0 ∷ reg 0 ∷ reg 0 ∷ reg 0 ∷ reg 0 ∷ block 0 6 ∷ code 0 0 10 2 0 0 0 ∷ code 12 0 11 6 0 3 0 ∷ code 13 0 12 4 6 0 0
    ∷ code 5 2 13 5 1 0 0 ∷ code 23 0 14 0 0 0 0 ∷ code 18 0 15 0 0 0 0 ∷ operand 0 ∷ operand 1 ∷ operand 2 ∷ [])

abbrev sent_length_of_dim_1 : List Record
sent_length_of_dim_1 =
    reg 0 ∷ reg 0 ∷ reg 0 ∷ reg 0 ∷ reg 0 ∷ reg 0 ∷ reg 0 ∷ block 0 6 ∷ code 0 0 10 2 0 0 0 ∷ code 12 0 11 6 0 3 0 ∷ code 13 0 12 4 6 1 0
    ∷ code 5 0 13 5 4 2 0 ∷ code 23 0 14 0 0 0 0 ∷ code 18 0 15 0 0 0 0 ∷ operand 0 ∷ operand 1 ∷ operand 2 ∷ []

abbrev length_of_dim_1 : Row
length_of_dim_1 = row sent_length_of_dim_1 false 0 0 0 sent_length_of_dim_1

abbrev sent_length_of_dope_made_twice : List Record
sent_length_of_dope_made_twice =
    reg 0 ∷ reg 0 ∷ reg 0 ∷ reg 0 ∷ reg 0 ∷ reg 0 ∷ reg 0 ∷ block 0 7 ∷ code 0 0 10 2 0 0 0 ∷ code 12 0 11 6 0 3 0 ∷ code 13 0 12 4 6 0 0
    ∷ code 12 0 13 6 3 3 0 ∷ code 5 1 14 5 4 2 0 ∷ code 23 0 15 0 0 0 0 ∷ code 18 0 16 0 0 0 0 ∷ operand 0 ∷ operand 1 ∷ operand 2
    ∷ operand 1 ∷ operand 0 ∷ operand 2 ∷ []

abbrev length_of_dope_made_twice : Row
length_of_dope_made_twice = row sent_length_of_dope_made_twice true 0 0 0 (
    reg 0 ∷ reg 0 ∷ reg 0 ∷ reg 0 ∷ reg 0 ∷ reg 0 ∷ reg 0 ∷ block 0 7 ∷ code 0 0 10 2 0 0 0 ∷ code 12 0 11 6 0 3 0 ∷ code 13 0 12 4 6 0 0
    ∷ code 12 0 13 6 3 3 0 ∷ code 5 5 14 5 0 1 0 ∷ code 23 0 15 0 0 0 0 ∷ code 18 0 16 0 0 0 0 ∷ operand 0 ∷ operand 1 ∷ operand 2
    ∷ operand 1 ∷ operand 0 ∷ operand 2 ∷ [])

abbrev sent_length_of_dope_unknown : List Record
sent_length_of_dope_unknown =
    reg 0 ∷ reg 0 ∷ reg 0 ∷ reg 0 ∷ reg 0 ∷ reg 0 ∷ reg 0 ∷ block 0 7 ∷ code 0 0 10 2 0 0 0 ∷ code 12 0 11 6 0 3 0 ∷ code 13 0 12 4 6 0 0
    ∷ code 12 0 13 6 3 3 0 ∷ code 5 0 14 5 4 2 0 ∷ code 23 0 15 0 0 0 0 ∷ code 18 0 16 0 0 0 0 ∷ operand 0 ∷ operand 1 ∷ operand 2
    ∷ operand 1 ∷ operand 0 ∷ operand 0 ∷ []

abbrev length_of_dope_unknown : Row
length_of_dope_unknown = row sent_length_of_dope_unknown true 0 0 0 (
    reg 0 ∷ reg 0 ∷ reg 0 ∷ reg 0 ∷ reg 0 ∷ reg 0 ∷ reg 0 ∷ block 0 7 ∷ code 0 0 10 2 0 0 0 ∷ code 12 0 11 6 0 3 0 ∷ code 13 0 12 4 6 0 0
    ∷ code 12 0 13 6 3 3 0 ∷ code 5 2 14 5 1 0 0 ∷ code 23 0 15 0 0 0 0 ∷ code 18 0 16 0 0 0 0 ∷ operand 0 ∷ operand 1 ∷ operand 2
    ∷ operand 1 ∷ operand 0 ∷ operand 0 ∷ [])

abbrev sent_length_of_dope_of_two : List Record
sent_length_of_dope_of_two =
    reg 0 ∷ reg 0 ∷ reg 0 ∷ reg 0 ∷ reg 0 ∷ reg 0 ∷ reg 0 ∷ block 0 6 ∷ code 0 0 10 2 0 0 0 ∷ code 12 0 11 6 0 2 0 ∷ code 13 0 12 4 6 0 0
    ∷ code 5 0 13 5 4 2 0 ∷ code 23 0 14 0 0 0 0 ∷ code 18 0 15 0 0 0 0 ∷ operand 0 ∷ operand 1 ∷ operand 2 ∷ []

abbrev length_of_dope_of_two : Row
length_of_dope_of_two = row sent_length_of_dope_of_two false 0 0 0 sent_length_of_dope_of_two

abbrev sent_length_of_dope_at_its_bound : List Record
sent_length_of_dope_at_its_bound =
    reg 0 ∷ reg 0 ∷ reg 0 ∷ reg 0 ∷ reg 0 ∷ reg 0 ∷ reg 0 ∷ block 0 6 ∷ code 0 0 10 2 0 0 0 ∷ code 12 0 11 6 0 3 0 ∷ code 13 0 12 4 6 0 0
    ∷ code 5 0 13 5 4 2 0 ∷ code 23 0 14 0 0 0 0 ∷ code 18 0 15 0 0 0 0 ∷ operand 0 ∷ operand 6 ∷ operand 2 ∷ []

abbrev length_of_dope_at_its_bound : Row
length_of_dope_at_its_bound = row sent_length_of_dope_at_its_bound false 0 0 0 sent_length_of_dope_at_its_bound

abbrev sent_length_of_dope_written : List Record
sent_length_of_dope_written =
    reg 0 ∷ reg 0 ∷ reg 0 ∷ reg 0 ∷ reg 0 ∷ reg 0 ∷ reg 0 ∷ block 0 7 ∷ code 0 0 10 2 0 0 0 ∷ code 12 0 11 6 0 3 0 ∷ code 13 0 12 4 6 0 0
    ∷ code 2 0 13 6 0 0 0 ∷ code 5 0 14 5 4 2 0 ∷ code 23 0 15 0 0 0 0 ∷ code 18 0 16 0 0 0 0 ∷ operand 0 ∷ operand 1 ∷ operand 2 ∷ []

abbrev length_of_dope_written : Row
length_of_dope_written = row sent_length_of_dope_written false 0 0 0 sent_length_of_dope_written

abbrev sent_length_of_next_block : List Record
sent_length_of_next_block =
    reg 0 ∷ reg 0 ∷ reg 0 ∷ reg 0 ∷ reg 0 ∷ reg 0 ∷ block 0 6 ∷ block 6 12 ∷ code 0 0 10 2 0 0 0 ∷ code 14 0 11 4 0 1 2
    ∷ code 23 0 12 0 0 0 0 ∷ code 23 0 13 0 0 0 0 ∷ code 23 0 14 0 0 0 0 ∷ code 18 0 15 1 0 0 0 ∷ code 5 0 16 5 4 2 0 ∷ code 23 0 17 0 0 0 0
    ∷ code 23 0 18 0 0 0 0 ∷ code 23 0 19 0 0 0 0 ∷ code 23 0 20 0 0 0 0 ∷ code 18 0 21 0 0 0 0 ∷ []

abbrev length_of_next_block : Row
length_of_next_block = row sent_length_of_next_block false 0 0 0 sent_length_of_next_block

abbrev sent_length_loop_threaded_away : List Record
sent_length_loop_threaded_away =
    reg 0 ∷ reg 0 ∷ reg 0 ∷ reg 0 ∷ reg 0 ∷ reg 0 ∷ block 0 4 ∷ block 4 5 ∷ block 5 7 ∷ code 0 0 10 2 0 0 0 ∷ code 14 0 11 4 0 1 2
    ∷ code 5 0 12 5 4 2 0 ∷ code 18 0 13 2 0 0 0 ∷ code 21 0 14 0 0 0 0 ∷ code 23 0 15 0 0 0 0 ∷ code 18 0 16 1 0 0 0 ∷ []

abbrev length_loop_threaded_away : Row
length_loop_threaded_away = row sent_length_loop_threaded_away true 1 0 0 (
    reg 0 ∷ reg 0 ∷ reg 0 ∷ reg 0 ∷ reg 0 ∷ reg 0 ∷ block 0 4 ∷ block 4 5 ∷ block 5 7 ∷ code 0 0 10 2 0 0 0 ∷ code 14 0 11 4 0 1 2
    ∷ code 5 2 12 5 1 0 0 ∷ code 18 0 13 2 0 0 0 ∷ code 21 0 14 0 0 0 0 ∷ code 23 0 15 0 0 0 0 ∷ code 21 0 14 0 0 0 0 ∷ [])

abbrev sent_length_without_loop : List Record
sent_length_without_loop =
    reg 0 ∷ reg 0 ∷ reg 0 ∷ reg 0 ∷ reg 0 ∷ reg 0 ∷ block 0 6 ∷ code 0 0 10 2 0 0 0 ∷ code 14 0 11 4 0 1 2 ∷ code 5 0 12 5 4 2 0
    ∷ code 23 0 13 0 0 0 0 ∷ code 23 0 14 0 0 0 0 ∷ code 21 0 15 0 0 0 0 ∷ []

abbrev length_without_loop : Row
length_without_loop = row sent_length_without_loop false 0 0 0 sent_length_without_loop

abbrev sent_length_zero_once_emptied : List Record
sent_length_zero_once_emptied =
    reg 0 ∷ reg 0 ∷ reg 0 ∷ block 0 4 ∷ block 4 7 ∷ block 7 9 ∷ code 14 0 10 2 1 1 0 ∷ code 5 0 11 1 2 0 0 ∷ code 0 0 12 0 0 0 0
    ∷ code 18 0 13 2 0 0 0 ∷ code 5 0 14 1 2 0 0 ∷ code 0 0 15 0 0 0 0 ∷ code 21 0 16 0 0 0 0 ∷ code 5 0 17 2 0 0 0 ∷ code 18 0 18 0 0 0 0
    ∷ []

abbrev length_zero_once_emptied : Row
length_zero_once_emptied = row sent_length_zero_once_emptied true 2 0 0 (
    reg 0 ∷ reg 0 ∷ reg 0 ∷ block 0 5 ∷ block 5 6 ∷ block 6 8 ∷ code 14 0 10 2 1 1 0 ∷ code 5 2 11 1 1 1 0 ∷ code 0 0 12 0 0 0 0
    ∷ code 5 0 17 2 0 0 0 ∷ code 18 0 18 0 0 0 0 ∷ code 18 0 14 2 0 0 0 ∷ code 5 0 17 2 0 0 0 ∷ code 18 0 18 0 0 0 0 ∷ [])

abbrev pub table : List Row
table =
    length_up ∷ length_down ∷ length_two_ops ∷ length_direction_2 ∷ length_not_zero ∷ length_over_its_left ∷ length_bound_written
    ∷ length_written ∷ length_of_dope ∷ length_of_dim_1 ∷ length_of_dope_made_twice ∷ length_of_dope_unknown ∷ length_of_dope_of_two
    ∷ length_of_dope_at_its_bound ∷ length_of_dope_written ∷ length_of_next_block ∷ length_loop_threaded_away ∷ length_without_loop
    ∷ length_zero_once_emptied ∷ []

pub proved : map (λ r. given r.sent (run (procedure_of r.sent))) table ≡ table
unfolding of_class before inst_of inst_record tables_from procedure_of any_of times found form_of view_of end_of front with_end copyable small step_by
    step_block latch reads_konst writes_in use_count fixed_of const_in const_of konst_of facts_of values_without copies_without forget_all learn notes
    follow join_arms join_from back_edge_from copied may_thread_from exchanged how_of own_uses copy_from kinds_given arm_of hop_cond_br stops hop_br hop hops
    thread_from total walk reached_from reached stays empty_from rescued_of rescues emit threaded_form measure_of entry tests_from sliced_from some_test
    has_lengths sliced_form block_records table_records records_for
proved = refl
