-- Document 01, "A printed procedure", "Proved (P)": P1 to P8, each as the file sent, the whole answer and the output buffer afterwards.
use Prim.Native.Nat.{ℕ, ◌*◌, ◌-◌}
use mathlib.Core.Path.{◌≡◌, refl}
use mathlib.Core.List.{List, [], ◌∷◌, ◌++◌, map}
use lib.ListN.{length, replicate}
use Rattle.records.specs.declared.Record.{Record}
use Rattle.records.specs.Record.{records_of, first_records}
use Rattle.records.specs.Kinds.{right}
use Rattle.put_record.specs.Store.{word_bytes, tag_bytes}
use Rattle.record_rules.specs.Exist.{names_exist}
use Rattle.layout.specs.Walk.{walk as passed}
use Rattle.layout.specs.Classes.{of_class, before}
use Rattle.read.specs.Structure.{tiles, numbers, tables}
use Rattle.read.specs.Reading.{unless, read_tables, read_blocks, read_records, checked}
use Rattle.codec.specs.Codec.{inst_of, inst_record}
use Rattle.items.specs.Items.{row_of}
use Rattle.procedure.specs.Procedure.{tables_from, procedure_of}
use Rattle.procedure.specs.Lists.{any_of, times, found}
use Rattle.ends.specs.Forms.{form_of, fixed_of}
use Rattle.ends.specs.Ends.{view_of, end_of, front, with_end}
use Rattle.steps.specs.Small.{copyable, small, step_by, step_block, latch, reads_konst}
use Rattle.procedure.specs.Counts.{writes_in, use_count}
use Rattle.steps.specs.Facts.{const_in, const_of, konst_of, facts_of}
use Rattle.steps.specs.Note.{values_without, copies_without, forget_all, learn, notes}
use Rattle.steps.specs.EqualArms.{follow, join_arms, join_from}
use Rattle.steps.specs.Gate.{back_edge_from, copied, may_thread_from}
use Rattle.roles.specs.Exchange.{exchanged}
use Rattle.steps.specs.Copy.{how_of, own_uses, copy_from, kinds_given}
use Rattle.steps.specs.Thread.{arm_of, hop_cond_br, stops, hop_br, hop, hops, thread_from}
use Rattle.paths.specs.Paths.{total, walk, reached_from}
use Rattle.steps.specs.Emit.{reached, stays, empty_from, rescued_of, rescues}
use Rattle.steps.specs.Slice.{measure_of, has_lengths}
use Rattle.steps.specs.Run.{emit, threaded_form, sliced_form}
use Rattle.steps.specs.Write.{block_records, table_records, records_for, bytes_of}
use Rattle.steps.specs.Shorten.{Outcome, refusal, shorten, shorten_within}

-- "registers (number, type)"
abbrev reg : ℕ → Record
reg type = row_of 1 type 0 0 0 0 0 0

-- "blocks (number, start, end)"
abbrev block : ℕ → ℕ → Record
block start end = row_of 2 0 start end 0 0 0 0

-- "code (place, kind, op, statement, p1..p6)", p4 to p6 being zero here
abbrev code : ℕ → ℕ → ℕ → ℕ → ℕ → ℕ → Record
code kind op stmt p1 p2 p3 =
    record { class = 4; kind = kind; op = op; zero = 0; stmt = stmt; p1 = p1; p2 = p2; p3 = p3; p4 = 0; p5 = 0; p6 = 0 }

-- an accepted file: "moved", "grown", "fresh", "rescued" and the output's records
abbrev gives : ℕ → ℕ → ℕ → ℕ → List Record → Outcome
gives moved grown fresh rescued out =
    record {
      answer = record {
        number = 0;
        place = 0;
        length = 32 * length out;
        moved = moved;
        grown = grown;
        fresh = fresh;
        rescued = rescued;
      };
      output = bytes_of out ++ replicate (640 - 32 * length out) 85;
    }

-- the output buffer at entry
abbrev buffer : List ℕ
buffer = replicate 640 85

pub record Row : Type 0 where
  pub sent : List ℕ
  pub outcome : Outcome

abbrev row_of_lem : List Record → Outcome → Row
row_of_lem sent outcome = record { sent = bytes_of sent; outcome = outcome }

-- "Input: one I64; blocks 0-2, 2-4, 4-5, 5-6; Stmt, Br 2, Stmt, Br 2, CondBr 0 1 3, Ret; statements 10 to 15."
abbrev P1 : Row
P1 =
    row_of_lem
    (reg 0
    ∷ block 0 2
    ∷ block 2 4
    ∷ block 4 5
    ∷ block 5 6
    ∷ code 23 0 10 0 0 0
    ∷ code 18 0 11 2 0 0
    ∷ code 23 0 12 0 0 0
    ∷ code 18 0 13 2 0 0
    ∷ code 19 0 14 0 1 3
    ∷ code 21 0 15 0 0 0
    ∷ [])
    (gives 1 2 0 0
    (reg 0
    ∷ block 0 2
    ∷ block 2 4
    ∷ block 4 5
    ∷ block 5 6
    ∷ code 23 0 10 0 0 0
    ∷ code 19 0 14 0 1 3
    ∷ code 23 0 12 0 0 0
    ∷ code 19 0 14 0 1 3
    ∷ code 18 0 14 3 0 0
    ∷ code 21 0 15 0 0 0
    ∷ []))

-- "First Stmt gone, so five instructions: unchanged, moved 0"
abbrev five : List Record
five =
    reg 0
    ∷ block 0 1
    ∷ block 1 3
    ∷ block 3 4
    ∷ block 4 5
    ∷ code 18 0 11 2 0 0
    ∷ code 23 0 12 0 0 0
    ∷ code 18 0 13 2 0 0
    ∷ code 19 0 14 0 1 3
    ∷ code 21 0 15 0 0 0
    ∷ []

abbrev P2 : Row
P2 = row_of_lem five (gives 0 0 0 0 five)

-- "`Const r1 7` leading block 2: 7 instructions, rescued 1, block 0 is 0-3"
abbrev P3 : Row
P3 =
    row_of_lem
    (reg 0
    ∷ reg 0
    ∷ block 0 2
    ∷ block 2 4
    ∷ block 4 6
    ∷ block 6 7
    ∷ code 23 0 10 0 0 0
    ∷ code 18 0 11 2 0 0
    ∷ code 23 0 12 0 0 0
    ∷ code 18 0 13 2 0 0
    ∷ code 0 0 14 1 7 0
    ∷ code 19 0 15 0 1 3
    ∷ code 21 0 16 0 0 0
    ∷ [])
    (gives 1 2 0 1
    (reg 0
    ∷ reg 0
    ∷ block 0 3
    ∷ block 3 5
    ∷ block 5 6
    ∷ block 6 7
    ∷ code 0 0 14 1 7 0
    ∷ code 23 0 10 0 0 0
    ∷ code 19 0 15 0 1 3
    ∷ code 23 0 12 0 0 0
    ∷ code 19 0 15 0 1 3
    ∷ code 18 0 14 3 0 0
    ∷ code 21 0 16 0 0 0
    ∷ []))

-- "Instead `Cmp Eq r1 r0 r0` leading and CondBr on r1: grown 4, fresh 2, 8 instructions"
abbrev P4 : Row
P4 =
    row_of_lem
    (reg 0
    ∷ reg 0
    ∷ block 0 2
    ∷ block 2 4
    ∷ block 4 6
    ∷ block 6 7
    ∷ code 23 0 10 0 0 0
    ∷ code 18 0 11 2 0 0
    ∷ code 23 0 12 0 0 0
    ∷ code 18 0 13 2 0 0
    ∷ code 5 0 14 1 0 0
    ∷ code 19 0 15 1 1 3
    ∷ code 21 0 16 0 0 0
    ∷ [])
    (gives 1 4 2 0
    (reg 0
    ∷ reg 0
    ∷ reg 0
    ∷ reg 0
    ∷ block 0 3
    ∷ block 3 6
    ∷ block 6 7
    ∷ block 7 8
    ∷ code 23 0 10 0 0 0
    ∷ code 5 0 14 2 0 0
    ∷ code 19 0 15 2 1 3
    ∷ code 23 0 12 0 0 0
    ∷ code 5 0 14 3 0 0
    ∷ code 19 0 15 3 1 3
    ∷ code 18 0 14 3 0 0
    ∷ code 21 0 16 0 0 0
    ∷ []))

-- "Four lone Brs before the other arm: joined"
abbrev P5 : Row
P5 =
    row_of_lem
    (reg 0
    ∷ block 0 1
    ∷ block 1 2
    ∷ block 2 3
    ∷ block 3 4
    ∷ block 4 5
    ∷ block 5 6
    ∷ code 19 0 10 0 5 1
    ∷ code 18 0 11 2 0 0
    ∷ code 18 0 12 3 0 0
    ∷ code 18 0 13 4 0 0
    ∷ code 18 0 14 5 0 0
    ∷ code 21 0 15 0 0 0
    ∷ [])
    (gives 1 0 0 0
    (reg 0
    ∷ block 0 1
    ∷ block 1 2
    ∷ block 2 3
    ∷ block 3 4
    ∷ block 4 5
    ∷ block 5 6
    ∷ code 18 0 10 5 0 0
    ∷ code 18 0 11 2 0 0
    ∷ code 18 0 12 3 0 0
    ∷ code 18 0 13 4 0 0
    ∷ code 18 0 14 5 0 0
    ∷ code 21 0 15 0 0 0
    ∷ []))

-- "five: not"
abbrev five_brs : List Record
five_brs =
    reg 0
    ∷ block 0 1
    ∷ block 1 2
    ∷ block 2 3
    ∷ block 3 4
    ∷ block 4 5
    ∷ block 5 6
    ∷ block 6 7
    ∷ code 19 0 10 0 6 1
    ∷ code 18 0 11 2 0 0
    ∷ code 18 0 12 3 0 0
    ∷ code 18 0 13 4 0 0
    ∷ code 18 0 14 5 0 0
    ∷ code 18 0 15 6 0 0
    ∷ code 21 0 16 0 0 0
    ∷ []

abbrev P6 : Row
P6 = row_of_lem five_brs (gives 0 0 0 0 five_brs)

-- "Empty: 3"
abbrev P7 : Row
P7 = row_of_lem [] (refusal 3 0 buffer)

-- "33 bytes: 1"
abbrev P8 : Row
P8 = record { sent = replicate 33 0; outcome = refusal 1 0 buffer }

abbrev pub table : List Row
table = P1 ∷ P2 ∷ P3 ∷ P4 ∷ P5 ∷ P6 ∷ P7 ∷ P8 ∷ []

pub proved : map (λ r. shorten r.sent buffer) table ≡ map (λ r. r.outcome) table
unfolding bytes_of word_bytes tag_bytes records_of first_records right names_exist passed of_class before tiles numbers tables unless read_tables read_blocks
    read_records checked inst_of inst_record tables_from procedure_of any_of times found form_of view_of end_of front with_end copyable small step_by
    step_block latch reads_konst writes_in use_count fixed_of const_in const_of konst_of facts_of values_without copies_without forget_all learn notes
    follow join_arms join_from back_edge_from copied may_thread_from exchanged how_of own_uses copy_from kinds_given arm_of hop_cond_br stops hop_br hop hops
    thread_from total walk reached_from reached stays empty_from rescued_of rescues emit threaded_form measure_of has_lengths sliced_form
    block_records table_records records_for shorten_within
proved = refl
